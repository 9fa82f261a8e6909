use Rattle.std.proofs.Common.{◌≡◌, ℕ, nat_eq, take}
use Rattle.std.specs.HashMap.{get}
use Rattle.cdi_event_tables.specs.Observers.{managed_bean}
use Rattle.cdi_numbered_plans.proofs.numbering.managed_beans.Given as goal

-- those of the beans that were looked at
abbrev pub invariant-loop-place : goal.invariant-loop-place
invariant-loop-place l = (class : ℕ) → get nat_eq l.managed class ≡ managed_bean (take l.place l.beans) class
