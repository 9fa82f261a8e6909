-- What is remembered after a change of the answers.
use Rattle.std.proofs.Common.{◌≡◌, ℕ, nat_eq, Result, Ok, Err, OnOk, OnErr, sym, subst, inl, inr}
use Rattle.std.specs.Prelude.{Contains, List}
use Rattle.lru.proofs.CallerLemmas.{Contains-put_entries}
use Rattle.lru.specs.LruCache.{LruCache, lru_cache, put_entries}
use Rattle.cdi_run_tables.specs.Asked.{IsTold}
use Rattle.cdi_run_tables.specs.declared.asked.CommandAnswer.{CommandAnswer}
use Rattle.cdi_run_tables.specs.Parts.{RunParts}

module _ (t : RunParts) where
  abbrev AllTold : List (ℕ × CommandAnswer) → Type 0
  AllTold entries = (hash : ℕ) (a : CommandAnswer) → Contains entries (hash, a) → IsTold t a

  module _ (old : LruCache ℕ CommandAnswer) (k : ℕ) (v : CommandAnswer) (told : AllTold old.entries) (is : IsTold t v) where
    told_put : AllTold (put_entries nat_eq old k v)
    told_put hash a there = elim (Contains-put_entries nat_eq old k v (hash, a) there) [
      | inl was ↦ told hash a was
      | inr put ↦ subst (IsTold t) (sym put.0) is
    ]

    -- whether there was memory or not
    pub told_after : {A B : Type 0} (r : Result A B) (new : LruCache ℕ CommandAnswer) → OnOk r (new ≡ lru_cache (put_entries nat_eq old k v) old.cap) → OnErr r (new ≡ old) → AllTold new.entries
    told_after (Ok x) new ok err = subst (λ (c : LruCache ℕ CommandAnswer). AllTold c.entries) (sym ok) told_put
    told_after (Err y) new ok err = subst (λ (c : LruCache ℕ CommandAnswer). AllTold c.entries) (sym err) told
