use Rattle.std.proofs.Common.{◌≡◌, ◌++◌, take}
use Rattle.cdi_live.proofs.field_needs.add_nodes.Given as goal

abbrev pub invariant-loop-node : goal.invariant-loop-node
invariant-loop-node l = l.needs ≡ l.initial.needs ++ take l.node-index l.nodes
