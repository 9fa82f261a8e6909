use Rattle.std.proofs.Common.{◌≡◌, ℕ, ◌<◌, true}
use Rattle.cdi_enable.specs.Enabled.{may_be_enabled, Specializes}
use Rattle.cdi_enable.proofs.enabled_managed.is_free.Given as goal

abbrev pub invariant-loop-other : goal.invariant-loop-other
invariant-loop-other l = (x : ℕ) → x < l.other → may_be_enabled l.beans x ≡ true → Specializes l.beans x l.bean → ⊥
