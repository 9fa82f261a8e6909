-- The bean with an index, if it is enabled.
use Rattle.std.proofs.Common.{ℕ, ◌≡◌, Bool, true, false, cond, Option, Some, None, ap, sym}
use Rattle.std.specs.Prelude.{slice_get}
use Rattle.cdi_resolve.specs.Filters.{is_enabled}
use Rattle.cdi_run_tables.specs.Machine.{planned_at}
use Rattle.cdi_run_tables.specs.Parts.{RunParts}
use Rattle.cdi_run_tables.specs.Parts.{PlannedBean}

module _ (t : RunParts) where
  -- what is so of what stands at an index, and where there is no bean, is so of the bean with that index, if it is enabled
  pub if_enabled : (P : Option PlannedBean → Type 0) (n : ℕ) → P None → P (slice_get t.beans n) → P (planned_at t n)
  if_enabled P n none some = by (is_enabled t.tables.resolver.flags n)
    where
      by : (b : Bool) → P (cond b (slice_get t.beans n) None)
      by true = some
      by false = none

  -- a bean that is found stands at its index
  pub stands_at : (n : ℕ) (b : PlannedBean) → planned_at t n ≡ Some b → slice_get t.beans n ≡ Some b
  stands_at n b = if_enabled (λ o. o ≡ Some b → slice_get t.beans n ≡ Some b) n (λ e. absurd cc) (λ e. e)

  -- what stands at the index of an enabled bean is found
  pub enabled_at : (n : ℕ) → is_enabled t.tables.resolver.flags n ≡ true → slice_get t.beans n ≡ planned_at t n
  enabled_at n e = ap (λ b. cond b (slice_get t.beans n) None) (sym e)

  -- there is none at any other index
  pub none_at : (n : ℕ) → is_enabled t.tables.resolver.flags n ≡ false → None ≡ planned_at t n
  none_at n e = ap (λ b. cond b (slice_get t.beans n) None) (sym e)
