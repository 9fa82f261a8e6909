use Rattle.std.proofs.Common.{◌≤◌, length}
use Rattle.cdi_bean_lives.proofs.line.KeptLines.kept_part.Given as goal

abbrev pub invariant-loop-count : goal.invariant-loop-count
invariant-loop-count l = l.count ≤ length l.line

abbrev pub decreases-loop-count : goal.decreases-loop-count
decreases-loop-count l = l.count
