use Rattle.std.proofs.Common.{◌≡◌, ◌∙◌, Some, None, SFits, w64, rules, sym, ap}
use Rattle.std.proofs.lemmas.Int.{to_z-of_z}
use Rattle.cdi_resolve.specs.Narrowing.{eligible_of}
use Rattle.cdi_resolve.specs.Resolution.{sole, alternatives, with_greatest}
use Rattle.cdi_resolve.specs.declared.resolution.Resolution.TheVariants.{One, Many}
use Rattle.cdi_resolve.proofs.Counting.{highest_with}
use Rattle.cdi_resolve.proofs.Narrowing.{alternatives_left, priority_left, one_left, others_left, no_highest, some_highest}
use Rattle.cdi_resolve.proofs.question.Question.among_priorities.Goals as goal

pub returns-in_default : goal.returns-in_default
returns-in_default c =
    let q = c.args.self.now in
    no_highest (alternatives (eligible_of q)) (sym (sym (ap (highest_with None) (alternatives_left q)) ∙ sym c.highest_priority.ensures ∙ c.in_default.is))

pub returns-in-One : goal.returns-in-One
returns-in-One c =
    let q = c.args.self.now in
    let highest = sym (ap (highest_with None) (alternatives_left q)) ∙ sym c.highest_priority.ensures ∙ c.in-Some.is in
    let fits : SFits w64 c.in-Some.priority = search rules in
    let is : c.sole.result ≡ sole (with_greatest (Some c.in-Some.priority) (alternatives (eligible_of q))) = (simp to_z-of_z at c.sole.ensures) ∙ ap sole (priority_left q c.in-Some.priority) in
    some_highest (alternatives (eligible_of q)) c.in-Some.priority (One c.in-One.bean) highest (one_left (with_greatest (Some c.in-Some.priority) (alternatives (eligible_of q))) c.in-One.bean (sym c.in-One.is ∙ is))

pub returns-in_default-sole : goal.returns-in_default-sole
returns-in_default-sole c =
    let q = c.args.self.now in
    let highest = sym (ap (highest_with None) (alternatives_left q)) ∙ sym c.highest_priority.ensures ∙ c.in-Some.is in
    let fits : SFits w64 c.in-Some.priority = search rules in
    let is : c.sole.result ≡ sole (with_greatest (Some c.in-Some.priority) (alternatives (eligible_of q))) = (simp to_z-of_z at c.sole.ensures) ∙ ap sole (priority_left q c.in-Some.priority) in
    some_highest (alternatives (eligible_of q)) c.in-Some.priority Many highest (others_left (with_greatest (Some c.in-Some.priority) (alternatives (eligible_of q))) (λ b e. c.in_default-sole.not-One b (is ∙ e)))
