use Rattle.std.proofs.Common.{take, All}
use Rattle.cdi_types.specs.Subtype.{IsCyclic}
use Rattle.cdi_types.proofs.graph.TypeGraph.has_cycle.Given as goal

abbrev pub invariant-loop-declared : goal.invariant-loop-declared
invariant-loop-declared l = All (λ d. ¬ IsCyclic l.self d.name) (take l.declared-index l.declared-items)
