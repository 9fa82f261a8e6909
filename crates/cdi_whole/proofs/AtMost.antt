-- The first body of a destruction starts at most as often as its mark stands.
use Rattle.std.proofs.Common.{ℕ, ◌+◌, ◌≡◌, ◌≤◌, List, [], ◌∷◌, Bool, true, false, sym, subst, arith}
use Rattle.std.specs.Prelude.{nat_eq}
use Rattle.cdi_base.specs.declared.entry.Entry.TheVariants as entries
use Rattle.cdi_machine.specs.Tables.{Tables, Managed}
use Rattle.cdi_ledger.specs.Ledger.{Item, Wrote, Between, Born}
use Rattle.cdi_ledger.specs.Ends.{Each, marks, one_more_if}
use Rattle.cdi_ledger.specs.Callbacks.{IsMark, Holds, StartsFarewell}
use Rattle.cdi_ledger.proofs.Phases.{eq_same}
use Rattle.cdi_whole.specs.Beginnings.{StartsAtMarkOnly}

module _ (tables : Tables) (n : ℕ) (c : Managed) where
  -- less by one, if the mark is the latest item
  abbrev Within : List Item → ℕ → Type 0
  Within h k = (k ≤ marks n h) × (IsMark n h → k + 1 ≤ marks n h)

  marked : (m k : ℕ) (h : List Item) → Within h k → Within (Between m ∷ h) k
  marked m k h q = (more (nat_eq m n), λ e. same (nat_eq m n) (subst (λ z. nat_eq z n ≡ true) (sym e) (eq_same n)))
    where
      more : (b : Bool) → k ≤ one_more_if b (marks n h)
      more true = let l = q.0 in omega arith
      more false = q.0

      same : (b : Bool) → b ≡ true → k + 1 ≤ one_more_if b (marks n h)
      same true e = let l = q.0 in omega arith
      same false e = absurd (cc)

  within : (h : List Item) (k : ℕ) → Holds (StartsFarewell tables n c) h k → Each (StartsAtMarkOnly tables) h → Within h k
  within [] k Holds.never e = (omega arith, λ m. absurd m)
  within (Wrote (entries.Run m place) ∷ h) _ (Holds.once_more {k = k} p q) e = ((within h k q e.1).1 (e.0 n c p.0 p.1), λ m. absurd m)
  within (Between m ∷ h) _ (Holds.once_more p q) e = absurd p
  within (Born m component owner ∷ h) _ (Holds.once_more p q) e = absurd p
  within (Wrote x ∷ h) _ (Holds.once_more p q) e = absurd p
  within (Between m ∷ h) k (Holds.passes p q) e = marked m k h (within h k q e.1)
  within (Wrote x ∷ h) k (Holds.passes p q) e = ((within h k q e.1).0, λ m. absurd m)
  within (Born m component owner ∷ h) k (Holds.passes p q) e = ((within h k q e.1).0, λ m. absurd m)

  pub at_most : (h : List Item) (k : ℕ) → marks n h ≤ 1 → Holds (StartsFarewell tables n c) h k → Each (StartsAtMarkOnly tables) h → k ≤ 1
  at_most h k l q e = let a = (within h k q e).0 in omega arith
