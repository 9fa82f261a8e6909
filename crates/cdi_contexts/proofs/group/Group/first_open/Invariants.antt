use Rattle.std.proofs.Common.{◌≡◌}
use Rattle.cdi_contexts.specs.Group.{first_kept}
use Rattle.cdi_contexts.proofs.group.Group.first_open.Given as goal

abbrev pub invariant-loop-slot : goal.invariant-loop-slot
invariant-loop-slot g l = first_kept l.slot-iterator ≡ first_kept l.self
