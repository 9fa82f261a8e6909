use Rattle.std.proofs.Common.{◌≡◌, take}
use Rattle.cdi_planner.proofs.copies.copy_uses.Given as goal

abbrev pub invariant-loop-used : goal.invariant-loop-used
invariant-loop-used l = l.copies ≡ take l.used-index l.uses
