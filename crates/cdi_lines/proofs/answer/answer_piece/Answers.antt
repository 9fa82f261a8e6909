use Rattle.std.proofs.Common.{◌≡◌, ◌+◌, ◌++◌, take, sym, true, None, ◌==◌, ◌∙◌, rules}
use Rattle.std.specs.Prelude.{position}
use Rattle.std.proofs.lemmas.List.{take_rest}
use Rattle.std.proofs.lemmas.Result.{err_from_is_err_and}
use Rattle.cdi_lines.proofs.Lines.{ended_lines-at_end, begun_line-at_end, ended_lines-none, begun_line-none}
use Rattle.cdi_lines.proofs.Served.{midway_answered, midway_fails, midway_ends}
use Rattle.cdi_lines.proofs.answer.answer_piece.Goals as goal

pub returns-in_err-answer_line-clause-answered : goal.returns-in_err-answer_line-clause-answered
returns-in_err-answer_line-clause-answered g c =
    let p = err_from_is_err_and c.from_residual-in_err-answer_line.result c.from_residual-in_err-answer_line.ensures.1 in
    let line = c.loop-end.line.items in
    let rest = c.loop-end.rest.now in
    let n = c.in-Some.end in
    let whole : c.deref.result.now ≡ line ++ take n rest = search rules in
    let (b, written, failed) = c.in_err-answer_line.ensures.answered in
    let midway = rw (ended_lines-at_end line rest n (sym c.in-Some.ensures)) at c.loop-end.invariant.0 in
    rw (p.1, p.2) (midway_fails g.A.Responder.answers _ _ _ _ _ _ c.answer_line.new.responder _ _ _ _ b whole midway written failed)

pub loop-end-preserved : goal.loop-end-preserved
loop-end-preserved g c =
    let line = c.loop-end.line.items in
    let rest = c.loop-end.rest.now in
    let n = c.in-Some.end in
    let whole : c.deref.result.now ≡ line ++ take n rest = search rules in
    let (b, written, replied) = c.in_ok-answer_line.ensures.answered in
    let midway = rw (ended_lines-at_end line rest n (sym c.in-Some.ensures)) at c.loop-end.invariant.0 in
    rw (c.clear.ensures.items, take_rest rest (n + 1)) (
      midway_answered g.A.Responder.answers _ _ _ _ _ _ _ _ _ _ b whole midway written replied,
      c.loop-end.invariant.1 ∙ begun_line-at_end line rest n (sym c.in-Some.ensures),
      (c.in_ok-answer_line.ensures.blames true).1 ∙ c.loop-end.invariant.2,
    )

pub returns-clause-answered : goal.returns-clause-answered
returns-clause-answered g c =
    let none : position (λ byte. byte == 10) c.loop-end.rest.now ≡ None = search rules in
    midway_ends g.A.Responder.answers _ _ _ _ _ _ (ended_lines-none c.loop-end.line.items c.loop-end.rest.now none) c.loop-end.invariant.0

pub returns-clause-begun : goal.returns-clause-begun
returns-clause-begun g c =
    let none : position (λ byte. byte == 10) c.loop-end.rest.now ≡ None = search rules in
    c.in_ok-extend_from_slice-2.ensures.items ∙ sym (c.loop-end.invariant.1 ∙ begun_line-none c.loop-end.line.items c.loop-end.rest.now none)
