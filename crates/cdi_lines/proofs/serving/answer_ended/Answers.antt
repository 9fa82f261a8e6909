use Rattle.std.proofs.Common.{drop, ◌≡◌, Err, true, ap, arith, ◌∙◌}
use Rattle.std.proofs.lemmas.List.{length-take}
use Rattle.cdi_lines.proofs.Reading.{reading_stops, reading_waits, reading_goes_on, reading_fails, reads_none, piece_read}
use Rattle.std.proofs.lemmas.Result.{err_from_is_err_and}
use Rattle.cdi_lines.specs.declared.fault.ServeFault.TheVariants as faults
use Rattle.cdi_lines.proofs.serving.answer_ended.Goals as goal

pub returns-in_err-count-clause-ended : goal.returns-in_err-count-clause-ended
returns-in_err-count-clause-ended g c =
    let p = err_from_is_err_and c.from_residual.result c.from_residual.ensures.1 in
    let read = c.in_err-count.ensures in
    let short = λ (is : c.in_err-count.field-0.0 ≡ faults.TooLong). read.not_too_long (ap Err is) in
    rw (p.1, p.2) (reading_stops g.A.Responder.answers _ _ _ _ _ _ _ _ _ _ _ _ c.loop-left.invariant.0 (λ is. absurd (short is)) (reads_none _ _ _ short read.bytes) read.kept)

pub returns-in_err-answer_piece-clause-ended : goal.returns-in_err-answer_piece-clause-ended
returns-in_err-answer_piece-clause-ended g c =
    let p = err_from_is_err_and c.from_residual-in_err-answer_piece.result c.from_residual-in_err-answer_piece.ensures.1 in
    let count = c.in_ok-count.ensures in
    let room = c.read_next.auto.buf ∙ length-take c.min-most.result c.loop-left.buf in
    let (came, counts, within) = piece_read _ _ _ (drop c.min-most.result c.loop-left.buf) _ _ _ _ count.bound room c.min-most.ensures count.bytes.0 in
    let (out, written, failed) = c.in_err-answer_piece.ensures.answered in
    let waits = reading_waits g.A.Responder.answers _ _ _ _ _ _ _ _ _ _ c.loop-left.invariant.0 count.kept in
    rw (p.1, p.2) (reading_fails g.A.Responder.answers _ _ _ _ c.answer_piece.new.responder _ _ _ _ _ _ _ _ _ out _ waits came counts within written failed)

pub loop-left-preserved : goal.loop-left-preserved
loop-left-preserved g c =
    let count = c.in_ok-count.ensures in
    let room = c.read_next.auto.buf ∙ length-take c.min-most.result c.loop-left.buf in
    let (came, counts, within) = piece_read _ _ _ (drop c.min-most.result c.loop-left.buf) _ _ _ _ count.bound room c.min-most.ensures count.bytes.0 in
    let (out, written, replied) = c.in_ok-answer_piece.ensures.answered in
    let waits = reading_waits g.A.Responder.answers _ _ _ _ _ _ _ _ _ _ c.loop-left.invariant.0 count.kept in (
      reading_goes_on g.A.Responder.answers _ _ _ _ _ _ _ _ _ _ _ _ _ _ out _ waits came counts within written replied c.in_ok-answer_piece.ensures.begun,
      count.blames.0 ∙ c.loop-left.invariant.1,
      (c.in_ok-answer_piece.ensures.blames true).1 ∙ count.blames.1 ∙ c.loop-left.invariant.2,
    )

pub returns-in_err-expect_end-clause-ended : goal.returns-in_err-expect_end-clause-ended
returns-in_err-expect_end-clause-ended g c =
    let p = err_from_is_err_and c.from_residual-in_err-expect_end.result c.from_residual-in_err-expect_end.ensures.1 in
    let left : c.loop-left.left ≡ 0 = omega arith in
    rw (p.1, p.2) (reading_stops g.A.Responder.answers _ _ _ _ _ _ _ _ _ _ _ _ c.loop-left.invariant.0 (λ _. left) c.in_err-expect_end.ensures.read c.in_err-expect_end.ensures.kept)
