use Rattle.std.proofs.Common.{◌≡◌, length, vec_len}
use Rattle.cdi_paths.proofs.Reversal.{HasSourcesBelow}
use Rattle.cdi_paths.proofs.reversed.reversed.Given as goal

abbrev pub invariant-loop-node : goal.invariant-loop-node
invariant-loop-node l = record { len : vec_len l.rows ≡ length l.graph; below : HasSourcesBelow l.graph l.node l.rows.items }
