use Rattle.std.proofs.Common.{◌∙◌, ap, sym, filter}
use Rattle.cdi_place_index.specs.PlaceIndex.{elements_at}
use Rattle.cdi_problem_hints.proofs.Where.{none}
use Rattle.cdi_problem_hints.specs.Asked.{is_at}
use Rattle.cdi_problems.specs.Elements.{elements_of}
use Rattle.cdi_problem_hints.proofs.at.elements_at.Goals as goal

pub returns-in-Some : goal.returns-in-Some
returns-in-Some c =
    let s = c.args.subject.now in
    c.elements_at.ensures ∙ ap (λ d. elements_at d c.in-Some.place) s.is_index
    ∙ ap (λ p. filter (is_at p) (elements_of s.deployment.now)) (sym c.in-Some.is)

pub returns-in-None : goal.returns-in-None
returns-in-None c =
    let all = elements_of c.args.subject.now.deployment.now in
    sym (ap (λ p. filter (is_at p) all) c.in-None.is ∙ none all)
