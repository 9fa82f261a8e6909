use Rattle.std.proofs.Common.{◌≡◌, ℕ, ◌≤◌, ◌++◌, drop, filter, false}
use Rattle.std.specs.List.{enumerate_from}
use Rattle.cdi_resolve.specs.BeanKeys.{having_key}
use Rattle.cdi_resolve.specs.BeanRows.{row_of, ends_in, listed}
use Rattle.cdi_resolve.specs.Filters.{is_enabled, enabled_beans}
use Rattle.cdi_resolve.specs.declared.bean_key.BeanKey.{BeanKey}
use Rattle.cdi_resolve.proofs.bean_rows.BeanRows.build.Given as goal

abbrev pub invariant-loop-place : goal.invariant-loop-place
invariant-loop-place l = record {
  told : (k : BeanKey) → listed l.beans (row_of l.rows k) ++ having_key l.flags k (filter (λ p. is_enabled l.enabled p.0) (enumerate_from l.place (drop l.place l.beans))) ≡ having_key l.flags k (enabled_beans l.beans l.enabled);
  fresh : (k : BeanKey) (i : ℕ) → l.place ≤ i → ends_in (row_of l.rows k) i ≡ false;
}
