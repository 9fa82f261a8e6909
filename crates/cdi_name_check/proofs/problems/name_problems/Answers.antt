use Rattle.std.proofs.Common.{List, subst}
use Rattle.cdi_name_check.specs.CyclicHierarchy.{IsCyclicHierarchy}
use Rattle.cdi_name_check.specs.DuplicateName.{HasDuplicateName}
use Rattle.cdi_name_check.specs.UnknownName.{HasUnknownName}
use Rattle.cdi_problems.specs.Elements.{Element}
use Rattle.cdi_problems.specs.Findings.{ArePlacesOf, ArePlacesAfter}
use Rattle.cdi_types.specs.Declarations.{declarations_of}
use Rattle.cdi_name_check.proofs.problems.name_problems.Goals as goal

pub returns : goal.returns
returns c =
    let d = c.args.deployment.now in
    let D : List Element → Type 0 = λ es. ArePlacesAfter HasDuplicateName es c.in_ok-duplicate.duplicate in
    let U : List Element → Type 0 = λ es. ArePlacesOf (HasUnknownName d) es c.in_ok-unknown.unknown in
    let C : List Element → Type 0 = λ es. ArePlacesOf (IsCyclicHierarchy (declarations_of d)) es c.in_ok-cyclic.cyclic in
    record {
      duplicate = c.in_ok-duplicate.duplicate;
      are_duplicate = subst D c.requires.elements c.in_ok-duplicate.ensures;
      unknown = c.in_ok-unknown.unknown;
      are_unknown = subst U c.requires.elements c.in_ok-unknown.ensures;
      cyclic = c.in_ok-cyclic.cyclic;
      are_cyclic = subst C c.requires.elements c.in_ok-cyclic.ensures;
      are = rw (
        c.in_ok-add_problems-3.ensures,
        c.in_ok-add_problems-2.ensures,
        c.in_ok-add_problems.ensures,
        c.empty-problems.ensures,
        c.as_slice.ensures,
        c.as_slice-2.ensures,
        c.as_slice-3.ensures,
      );
    }
