use Rattle.std.proofs.Common.{List, IfOk, subst}
use Rattle.cdi_name_check.specs.CyclicHierarchy.{IsCyclicHierarchy}
use Rattle.cdi_problems.specs.Elements.{shown}
use Rattle.cdi_problems.specs.Findings.{ArePlacesOf}
use Rattle.cdi_types.specs.declared.declaration.TypeDeclaration.{TypeDeclaration}
use Rattle.cdi_name_check.proofs.problems.cyclic_places.Goals as goal

pub returns : goal.returns
returns c =
    let P : List TypeDeclaration → Type 0 = λ types. IfOk c.places_where.result (ArePlacesOf (IsCyclicHierarchy types) (shown c.args.elements.now)) in
    subst P c.in_ok-types.ensures c.places_where.ensures
