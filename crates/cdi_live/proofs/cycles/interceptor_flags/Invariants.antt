use Rattle.std.proofs.Common.{◌≡◌, ℕ, ◌<◌, length}
use Rattle.std.specs.Prelude.{◌↔◌, IsTrue}
use Rattle.cdi_live.specs.Cycles.{flag, InterceptorNeedsItself}
use Rattle.cdi_live.specs.Settings.{setting_of}
use Rattle.cdi_live.proofs.cycles.interceptor_flags.Given as goal

abbrev pub invariant-loop-place : goal.invariant-loop-place
invariant-loop-place l = record { len : length l.flags ≡ l.place; told : (i : ℕ) → i < l.place → IsTrue (flag l.flags i) ↔ InterceptorNeedsItself (setting_of l.tables) i }
