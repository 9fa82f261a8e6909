use Rattle.std.proofs.Common.{◌∙◌, ap, sym, filter}
use Rattle.cdi_place_index.specs.PlaceIndex.{sites_at}
use Rattle.cdi_problem_hints.proofs.Where.{none}
use Rattle.cdi_problem_hints.specs.Scripts.{is_at}
use Rattle.cdi_body_check.specs.Sites.{sites_of}
use Rattle.cdi_problem_hints.proofs.at.sites_at.Goals as goal

pub returns-in-Some : goal.returns-in-Some
returns-in-Some c =
    let s = c.args.subject.now in
    c.sites_at.ensures ∙ ap (λ d. sites_at d c.in-Some.place) s.is_index
    ∙ ap (λ p. filter (is_at p) (sites_of s.deployment.now)) (sym c.in-Some.is)

pub returns-in-None : goal.returns-in-None
returns-in-None c =
    let all = sites_of c.args.subject.now.deployment.now in
    sym (ap (λ p. filter (is_at p) all) c.in-None.is ∙ none all)
