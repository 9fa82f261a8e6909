use Rattle.std.proofs.Common.{◌≡◌, ◌↔◌, ℕ, ◌<◌, length, IsTrue}
use Rattle.cdi_enable.specs.Free.{flag, IsFree}
use Rattle.cdi_enable.proofs.enabled_managed.flags_of.Given as goal

abbrev pub invariant-loop-bean : goal.invariant-loop-bean
invariant-loop-bean l = record { len : length l.flags ≡ l.bean; told : (b : ℕ) → b < l.bean → IsTrue (flag l.flags b) ↔ IsFree l.beans b }
