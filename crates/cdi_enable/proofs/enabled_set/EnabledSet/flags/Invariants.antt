use Rattle.std.proofs.Common.{◌≡◌, ℕ, ◌<◌, length, slice_get}
use Rattle.cdi_enable.specs.Enablement.{IsEnabledBean}
use Rattle.cdi_enable.specs.Free.{flag}
use Rattle.cdi_enable.proofs.enabled_set.EnabledSet.flags.Given as goal

abbrev pub invariant-loop-bean : goal.invariant-loop-bean
invariant-loop-bean l = record { len : length l.flags ≡ l.bean-index; told : (b : ℕ) → b < l.bean-index → IsEnabledBean l.self (slice_get l.bean-items b) (flag l.flags b) }
