use Rattle.std.proofs.Common.{◌≡◌, ◌++◌, map}
use Rattle.cdi_contexts.proofs.group.Group.names.Given as goal

abbrev pub invariant-loop-slot : goal.invariant-loop-slot
invariant-loop-slot g l = l.names.items ++ map (λ p. p.1.name) l._slot-iterator ≡ map (λ p. p.1.name) l.self
