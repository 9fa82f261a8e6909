use Rattle.std.proofs.Common.{◌∙◌, sym, ap}
use Rattle.cdi_resolve.specs.Narrowing.{eligible_of}
use Rattle.cdi_resolve.specs.Resolution.{sole}
use Rattle.cdi_resolve.proofs.Narrowing.{eligible_left, told_eligible, many_eligible}
use Rattle.cdi_resolve.proofs.question.Question.resolution.Goals as goal

pub returns-in-Many : goal.returns-in-Many
returns-in-Many c =
    let q = c.args.self.now in
    c.among_alternatives.ensures ∙ many_eligible (eligible_of q) (sym c.in-Many.is ∙ c.sole.ensures ∙ ap sole (eligible_left q))

pub returns-in_default : goal.returns-in_default
returns-in_default c =
    let q = c.args.self.now in
    let is = c.sole.ensures ∙ ap sole (eligible_left q) in
    is ∙ told_eligible (eligible_of q) (λ e. c.in_default.not-Many (is ∙ e))
