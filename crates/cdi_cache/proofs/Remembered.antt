-- What is remembered after a change of the cache.
use Rattle.std.proofs.Common.{◌≡◌, ℕ, nat_eq, List, Result, Ok, Err, OnOk, OnErr, sym, subst, inl, inr}
use Rattle.cdi_beans.specs.declared.bean.Bean.{Bean}
use Rattle.cdi_cache.specs.Answers.{IsTold, AreTold}
use Rattle.cdi_cache.specs.declared.answer.Answer.{Answer}
use Rattle.lru.proofs.CallerLemmas.{Contains-put_entries}
use Rattle.lru.specs.LruCache.{LruCache, lru_cache, put_entries}

module _ (beans : List (ℕ × Bean)) (old : LruCache ℕ Answer) (k : ℕ) (v : Answer) (told : AreTold beans old.entries) (is : IsTold beans v) where
  told_put : AreTold beans (put_entries nat_eq old k v)
  told_put hash a there = elim (Contains-put_entries nat_eq old k v (hash, a) there) [
    | inl was ↦ told hash a was
    | inr put ↦ subst (IsTold beans) (sym put.0) is
  ]

  -- whether there was memory or not
  pub told_after : {A B : Type 0} (r : Result A B) (new : LruCache ℕ Answer) → OnOk r (new ≡ lru_cache (put_entries nat_eq old k v) old.cap) → OnErr r (new ≡ old) → AreTold beans new.entries
  told_after (Ok x) new ok err = subst (λ (c : LruCache ℕ Answer). AreTold beans c.entries) (sym ok) told_put
  told_after (Err y) new ok err = subst (λ (c : LruCache ℕ Answer). AreTold beans c.entries) (sym err) told
