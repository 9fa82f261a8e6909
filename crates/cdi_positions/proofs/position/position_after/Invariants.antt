use Rattle.std.proofs.Common.{◌≡◌, ◌≤◌, ◌+◌, drop}
use Rattle.cdi_positions.specs.Position.{position_after, position_from}
use Rattle.cdi_positions.proofs.position.position_after.Given as goal

abbrev pub invariant-loop-byte : goal.invariant-loop-byte
invariant-loop-byte l = record {
  goes_on : position_from l.line l.column (drop l.byte-index l.front) ≡ position_after l.front;
  lines : l.line ≤ l.byte-index + 1;
  columns : l.column ≤ l.byte-index + 1;
}
