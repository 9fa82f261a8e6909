use Rattle.std.proofs.Common.{[], sym, ◌∙◌}
use Rattle.std.proofs.lemmas.Result.{err_from_is_err_and}
use Rattle.std.proofs.KnownBytes.{Appends-nil}
use Rattle.cdi_lines.proofs.Served.{Replies-one, front_all, starves_first}
use Rattle.cdi_lines.proofs.answer.answer_line.Goals as goal

pub returns-in_err-reply-clause-answered : goal.returns-in_err-reply-clause-answered
returns-in_err-reply-clause-answered g c =
    let p = err_from_is_err_and c.from_residual.result c.from_residual.ensures.1 in
    rw (p.1, p.2) ([], Appends-nil _, starves_first g.A.Responder.answers _ _ _ c.in_err-reply.ensures.lost)

pub returns-in_err-write-clause-answered : goal.returns-in_err-write-clause-answered
returns-in_err-write-clause-answered g c =
    let p = err_from_is_err_and c.from_residual-in_err-write.result c.from_residual-in_err-write.ensures.1 in
    let (part, rest, split, appended) = c.in_err-write.ensures.bytes in
    let whole = Replies-one g.A.Responder.answers _ _ _ _ c.in_ok-reply.ensures.replies in
    rw (p.1, p.2) (part, appended, (_, rest, front_all g.A.Responder.answers _ _ _ _ whole, sym (split ∙ c.deref.ensures.value)))
