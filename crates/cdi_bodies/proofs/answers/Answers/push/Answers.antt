use Rattle.std.proofs.Common.{◌≡◌, ◌∙◌, ◌++◌, ◌∷◌, [], length, ap, sym, true, false}
use Rattle.std.specs.Result.{is_ok}
use Rattle.cdi_bodies.specs.Answers as spec
use Rattle.cdi_bodies.proofs.Exceptions.{quiet_either, thrown_more}
use Rattle.cdi_bodies.proofs.answers.Answers.push.Goals as goal

pub invariant_of-self-then-not-threw : goal.invariant_of-self-then-not-threw
invariant_of-self-then-not-threw c =
    let quiet : spec.threw c.args.answer ≡ false = sym c.threw.ensures ∙ c.if-not-threw.true in
    c.self.invariant
    ∙ sym (quiet_either (is_ok c.push.result) c.self.inside.answers.items c.args.answer quiet)
    ∙ ap (λ all. spec.exceptions_from 0 all) (sym c.push.ensures.items)

pub invariant_of-self-in-Ok : goal.invariant_of-self-in-Ok
invariant_of-self-in-Ok c =
    let thrown : spec.threw c.args.answer ≡ true = sym c.threw.ensures ∙ c.if-not-threw.false in
    c.in_ok-push-2.ensures.items
    ∙ ap (λ ps. ps ++ length c.as_slice-place.result.now ∷ []) c.self.invariant
    ∙ ap (λ all. spec.exceptions_from 0 c.self.inside.answers.items ++ length all ∷ []) c.as_slice-place.ensures.value
    ∙ sym (thrown_more c.self.inside.answers.items c.args.answer thrown)
    ∙ ap (λ all. spec.exceptions_from 0 all) (sym c.in-Ok.ensures.items)
