use Rattle.std.proofs.Common.{◌∙◌, sym, ap}
use Rattle.cdi_resolve.specs.Narrowing.{eligible_of}
use Rattle.cdi_resolve.specs.Resolution.{sole, alternatives}
use Rattle.cdi_resolve.proofs.Narrowing.{alternatives_left, one_alternative, other_alternatives}
use Rattle.cdi_resolve.proofs.question.Question.among_alternatives.Goals as goal

pub returns-in-One : goal.returns-in-One
returns-in-One c =
    let q = c.args.self.now in
    one_alternative (alternatives (eligible_of q)) c.in-One.bean (sym c.in-One.is ∙ c.sole.ensures ∙ ap sole (alternatives_left q))

pub returns-in_default : goal.returns-in_default
returns-in_default c =
    let q = c.args.self.now in
    let is = c.sole.ensures ∙ ap sole (alternatives_left q) in
    c.among_priorities.ensures ∙ other_alternatives (alternatives (eligible_of q)) (λ b e. c.in_default.not-One b (is ∙ e))
