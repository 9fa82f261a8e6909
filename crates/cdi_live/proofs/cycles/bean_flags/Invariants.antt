use Rattle.std.proofs.Common.{◌≡◌, ℕ, ◌<◌, length}
use Rattle.std.specs.Prelude.{◌↔◌, IsTrue}
use Rattle.cdi_live.specs.Cycles.{flag, BeanNeedsItself}
use Rattle.cdi_live.specs.Settings.{setting_of}
use Rattle.cdi_live.proofs.cycles.bean_flags.Given as goal

abbrev pub invariant-loop-index : goal.invariant-loop-index
invariant-loop-index l = record { len : length l.flags ≡ l.index; told : (i : ℕ) → i < l.index → IsTrue (flag l.flags i) ↔ BeanNeedsItself (setting_of l.tables) i }
