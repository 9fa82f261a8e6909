use Rattle.std.proofs.Common.{◌≡◌, ◌-◌}
use Rattle.cdi_machine.specs.DestroyAct.{belongs}
use Rattle.cdi_world.proofs.world.World.belongs.Given as goal

abbrev pub invariant-loop-step : goal.invariant-loop-step
invariant-loop-step l = belongs (l.number - l._step) l.self l.at l.to ≡ belongs l.number l.self l.number l.to
