-- The lines that are kept stay those of commands, whatever is put among them or asked for.
use Rattle.std.proofs.Common.{arith, ◌≡◌, ◌∙◌, ℕ, nat_eq, List, [], Contains, Option, Some, None, IfSome, Result, Ok, Err, OnOk, OnErr, sym, subst, inl, inr}
use Rattle.std.specs.Prelude.{IfOk}
use Rattle.std.specs.Result.{result_ok}
use Rattle.lru.proofs.CallerLemmas.{Contains-put_entries}
use Rattle.lru.specs.LruCache.{LruCache, lru_cache, put_entries}
use Rattle.cdi_machine.specs.Tables.{Tables}
use Rattle.cdi_steps.specs.Known.{JobTellsRightly}
use Rattle.cdi_steps.specs.Words.{command_of}
use Rattle.cdi_steps.specs.declared.task.Job.{Job}
use Rattle.cdi_container.specs.KnownLines.{AreAllKnown, Asks, IsKnown}
use Rattle.cdi_container.specs.declared.known_lines.KnownLine.{KnownLine}

module _ (names : List (List ℕ)) (tables : Tables) where
  module _ (old : LruCache ℕ KnownLine) (k : ℕ) (v : KnownLine) (all : AreAllKnown names tables old.entries) (is : IsKnown names tables v) where
    known_put : AreAllKnown names tables (put_entries nat_eq old k v)
    known_put hash line there = elim (Contains-put_entries nat_eq old k v (hash, line) there) [
      | inl was ↦ all hash line was
      | inr put ↦ subst (IsKnown names tables) (sym put.0) is
    ]

    -- whether there was memory or not
    pub known_after : {A B : Type 0} (r : Result A B) (new : LruCache ℕ KnownLine) → OnOk r (new ≡ lru_cache (put_entries nat_eq old k v) old.cap) → OnErr r (new ≡ old) → AreAllKnown names tables new.entries
    known_after (Ok x) new put same = subst (λ (c : LruCache ℕ KnownLine). AreAllKnown names tables c.entries) (sym put) known_put
    known_after (Err y) new put same = subst (λ (c : LruCache ℕ KnownLine). AreAllKnown names tables c.entries) (sym same) all

  pub none_known : {E : Type 0} (cap : ℕ) (r : Result (LruCache ℕ KnownLine) E) → IfOk r (λ lines. lines ≡ lru_cache [] cap) → (found : Option (LruCache ℕ KnownLine)) → found ≡ result_ok r → IfSome found (λ lines. AreAllKnown names tables lines.entries)
  none_known cap (Ok lines) empty found is =
      subst (λ x. IfSome x (λ lines. AreAllKnown names tables lines.entries)) (sym is)
      (subst (λ (lines : LruCache ℕ KnownLine). AreAllKnown names tables lines.entries) (sym empty) (λ hash known there. absurd (omega (arith, there.1))))
  none_known cap (Err e) empty found is = subst (λ x. IfSome x (λ (lines : LruCache ℕ KnownLine). AreAllKnown names tables lines.entries)) (sym is) tt

  -- a copy of a job asks for the same
  pub asked_by_copy : {E : Type 0} (line : List ℕ) (job : Job) → Asks names tables line job
      → (copy : Result Job E) → IfOk copy (λ c. command_of c ≡ command_of job) → IfOk copy (λ c. (t : Tables) → JobTellsRightly t job → JobTellsRightly t c)
      → (found : Option Job) → found ≡ result_ok copy → IfSome found (λ c. Asks names tables line c)
  asked_by_copy line job asks (Ok c) same rightly found is =
      subst (λ x. IfSome x (λ c. Asks names tables line c)) (sym is)
      (record { command = asks.command; read = asks.read; asks = same ∙ asks.asks; rightly = rightly tables asks.rightly })
  asked_by_copy line job asks (Err e) same rightly found is = subst (λ x. IfSome x (λ c. Asks names tables line c)) (sym is) tt
