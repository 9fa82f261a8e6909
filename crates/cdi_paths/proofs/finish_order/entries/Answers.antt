use Rattle.cdi_paths.proofs.Steps.{entry_more}
use Rattle.cdi_paths.proofs.finish_order.entries.Goals as goal

pub loop-node-preserved : goal.loop-node-preserved
loop-node-preserved c = record { so_far = rw c.in_ok-push.ensures.items (entry_more c.loop-node.node c.loop-node.steps.items c.loop-node.invariant.so_far) }
