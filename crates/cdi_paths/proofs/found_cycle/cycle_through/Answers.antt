use Rattle.cdi_paths.proofs.CycleLaw.{is_cycle_through}
use Rattle.cdi_paths.proofs.found_cycle.cycle_through.Goals as goal

pub returns-clause-cycle : goal.returns-clause-cycle
returns-clause-cycle c = rw c.in_ok-cycle.ensures (is_cycle_through c.args.graph.now c.args.node)
