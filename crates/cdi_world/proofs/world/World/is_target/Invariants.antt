use Rattle.std.proofs.Common.{◌≡◌, reverse, take, false}
use Rattle.cdi_machine.specs.DestroyAct.{any_target}
use Rattle.cdi_world.proofs.world.World.is_target.Given as goal

abbrev pub invariant-loop-invocation : goal.invariant-loop-invocation
invariant-loop-invocation l = any_target l.self (reverse (take l.invocation-index l.invocation-items)) l.number ≡ false
