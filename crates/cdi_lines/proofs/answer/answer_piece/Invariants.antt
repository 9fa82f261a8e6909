-- The lines that ended so far are answered, and the rest of the piece goes on from the line that has begun.
use Rattle.std.proofs.Common.{◌≡◌, length}
use Rattle.cdi_lines.specs.Lines.{ended_lines, begun_line}
use Rattle.cdi_lines.proofs.Served.{Midway}
use Rattle.cdi_lines.proofs.answer.answer_piece.Given as goal

abbrev pub invariant-loop-end : goal.invariant-loop-end
invariant-loop-end g l =
    Midway g.A.Responder.answers (ended_lines l.initial.line.items l.piece) (ended_lines l.line.items l.rest)
    l.initial.responder l.responder (g.W.Sink.written l.initial.output) (g.W.Sink.written l.output)
    × (begun_line l.initial.line.items l.piece ≡ begun_line l.line.items l.rest) × (g.W.Sink.has_failed l.output ≡ g.W.Sink.has_failed l.initial.output)

abbrev pub decreases-loop-end : goal.decreases-loop-end
decreases-loop-end g l = length l.rest
