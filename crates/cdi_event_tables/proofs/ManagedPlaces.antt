-- The places of managed beans by their classes, and one bean more.
use Rattle.std.proofs.Common.{ℕ, ◌≡◌, ◌∙◌, ◌&&◌, not, Bool, true, false, cond, nat_eq, Option, Some, refl, sym, ap}
use Rattle.std.proofs.lemmas.Bool.{eqb-true, true≢false}
use Rattle.std.specs.Option.{is_some}
use Rattle.cdi_types.proofs.Places.{gets_place, keeps_place, or_here}

module _ (before : ℕ → Option ℕ) (managed : Bool) (class i q : ℕ) where
  known : (b : Bool) → is_some (before class) ≡ b → nat_eq class q ≡ true → is_some (before q) ≡ b
  known b is same = ap (λ (n : ℕ). is_some (before n)) (sym (eqb-true class q same)) ∙ is

  -- a managed bean of a class that has none yet
  pub gets : (managed && not (is_some (before class))) ≡ true → cond (nat_eq class q) (Some i) (before q) ≡ or_here (before q) (managed && nat_eq class q) i
  gets e = by managed (is_some (before class)) refl e
    where
      by : (m b : Bool) → is_some (before class) ≡ b → (m && not b) ≡ true → cond (nat_eq class q) (Some i) (before q) ≡ or_here (before q) (m && nat_eq class q) i
      by true false is h = gets_place (before q) (nat_eq class q) i (known false is)
      by true true is h = absurd (true≢false (sym h))
      by false b is h = absurd (true≢false (sym h))

  -- another bean
  pub keeps : (managed && not (is_some (before class))) ≡ false → before q ≡ or_here (before q) (managed && nat_eq class q) i
  keeps e = by managed (is_some (before class)) refl e
    where
      by : (m b : Bool) → is_some (before class) ≡ b → (m && not b) ≡ false → before q ≡ or_here (before q) (m && nat_eq class q) i
      by true false is h = absurd (true≢false h)
      by true true is h = keeps_place (before q) (nat_eq class q) i (known true is)
      by false b is h = keeps_place (before q) false i (λ never. absurd (true≢false (sym never)))
