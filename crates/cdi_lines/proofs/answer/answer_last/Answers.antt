use Rattle.std.proofs.Common.{[], refl, sym, ◌∙◌, true, append-nil}
use Rattle.std.proofs.lemmas.Result.{err_from_is_err_and}
use Rattle.std.proofs.KnownBytes.{Appends-kept}
use Rattle.std.proofs.lemmas.Bool.{eqb-false}
use Rattle.cdi_lines.proofs.Lines.{last_line-some}
use Rattle.cdi_lines.proofs.Served.{front_all}
use Rattle.cdi_lines.proofs.answer.answer_last.Goals as goal

pub returns-in_err-flush-clause-answered : goal.returns-in_err-flush-clause-answered
returns-in_err-flush-clause-answered g c =
    let p = err_from_is_err_and c.from_residual-in_err-flush.result c.from_residual-in_err-flush.ensures.1 in
    let (out, written, replied) = c.in_ok-answer_line.ensures.answered in
    let some = last_line-some c.args.line.now (eqb-false _ 0 (sym c.if-is_empty.ensures)) in
    rw (p.1, p.2, some) (out, Appends-kept _ _ _ out written c.in_err-flush.ensures.bytes, (out, [], front_all g.A.Responder.answers _ _ _ _ replied, sym (append-nil out)))

pub returns-clause-blames : goal.returns-clause-blames
returns-clause-blames g c = λ source. (refl, c.in_ok-flush.ensures.failed.1 ∙ sym c.in_ok-flush.ensures.failed.0 ∙ (c.in_ok-answer_line.ensures.blames true).1)
