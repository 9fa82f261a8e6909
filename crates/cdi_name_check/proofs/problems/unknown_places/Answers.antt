use Rattle.std.proofs.Common.{IfOk, subst}
use Rattle.cdi_deployment.specs.declared.deployment.Deployment.{Deployment}
use Rattle.cdi_name_check.specs.UnknownName.{HasUnknownName}
use Rattle.cdi_problems.specs.Elements.{shown}
use Rattle.cdi_problems.specs.Findings.{ArePlacesOf}
use Rattle.cdi_name_check.proofs.problems.unknown_places.Goals as goal

pub returns : goal.returns
returns c =
    let P : Deployment → Type 0 = λ d. IfOk c.places_where.result (ArePlacesOf (HasUnknownName d) (shown c.args.elements.now)) in
    subst P c.new-names.ensures c.places_where.ensures
