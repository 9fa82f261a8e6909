use Rattle.std.proofs.Common.{◌≡◌, reverse, take, false}
use Rattle.cdi_machine.specs.DestroyAct.{any_belongs}
use Rattle.cdi_world.proofs.world.World.has_body.Given as goal

abbrev pub invariant-loop-target : goal.invariant-loop-target
invariant-loop-target l = any_belongs l.self (reverse (take l.target-index l.target-items)) l.number ≡ false
