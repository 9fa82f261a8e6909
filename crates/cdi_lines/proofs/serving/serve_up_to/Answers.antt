use Rattle.std.proofs.lemmas.Result.{err_from_is_err_and}
use Rattle.cdi_lines.proofs.Reading.{serves_greeted, greeting_fails, serves_last}
use Rattle.cdi_lines.proofs.serving.serve_up_to.Goals as goal

pub returns-in_err-write-clause-served : goal.returns-in_err-write-clause-served
returns-in_err-write-clause-served g c =
    let p = err_from_is_err_and c.from_residual.result c.from_residual.ensures.1 in
    let (part, rest, split, written) = c.in_err-write.ensures.bytes in
    rw (p.1, p.2) (greeting_fails g.A.Responder.answers _ _ part rest _ _ _ _ split written)

pub returns-in_err-line-clause-served : goal.returns-in_err-line-clause-served
returns-in_err-line-clause-served g c =
    let p = err_from_is_err_and c.from_residual-in_err-line.result c.from_residual-in_err-line.ensures.1 in
    rw (p.1, p.2) (serves_greeted g.A.Responder.answers _ _ _ _ _ _ _ _ _ _ c.in_ok-write.ensures.bytes c.in_err-line.ensures.ended)

pub returns-clause-served : goal.returns-clause-served
returns-clause-served g c =
    let (out, written, answered) = c.answer_last.ensures.answered in
    serves_last g.A.Responder.answers _ _ _ _ _ c.answer_last.result _ _ _ _ _ _ _ _ out c.in_ok-write.ensures.bytes c.in_ok-line.ensures.ended c.deref.ensures.value written answered
