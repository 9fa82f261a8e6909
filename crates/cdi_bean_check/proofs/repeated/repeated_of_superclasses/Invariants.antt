use Rattle.std.proofs.Common.{take}
use Rattle.cdi_bean_check.specs.MemberPlaces.{HasPlaces, IsOfSome}
use Rattle.cdi_bean_check.specs.Repeated.{RepeatsAt}
use Rattle.cdi_bean_check.proofs.repeated.repeated_of_superclasses.Given as goal

abbrev pub invariant-loop-class : goal.invariant-loop-class
invariant-loop-class l = HasPlaces (IsOfSome (RepeatsAt l.classes l.types) (take l.class-index l.classes)) l.found
