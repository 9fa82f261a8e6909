use Rattle.std.proofs.Common.{◌≡◌, map, take}
use Rattle.cdi_bodies.proofs.table.Bodies.lookups.Given as goal

abbrev pub invariant-loop-entry : goal.invariant-loop-entry
invariant-loop-entry g l = l.all ≡ map (λ e. e.shape.lookups) (take l.entry-index l.entry-items)
