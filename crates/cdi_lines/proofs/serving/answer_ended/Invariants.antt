-- The lines that ended in what was read are answered.
use Rattle.std.proofs.Common.{◌≡◌}
use Rattle.cdi_lines.proofs.Reading.{Reading}
use Rattle.cdi_lines.proofs.serving.answer_ended.Given as goal

abbrev pub invariant-loop-left : goal.invariant-loop-left
invariant-loop-left g l =
    Reading g.A.Responder.answers l.limit l.left l.initial.responder l.responder l.line.items
    (g.R.Source.unread l.initial.input) (g.R.Source.unread l.input)
    (g.W.Sink.written l.initial.output) (g.W.Sink.written l.output)
    × (g.R.Source.has_failed l.input ≡ g.R.Source.has_failed l.initial.input) × (g.W.Sink.has_failed l.output ≡ g.W.Sink.has_failed l.initial.output)

abbrev pub decreases-loop-left : goal.decreases-loop-left
decreases-loop-left g l = l.left
