use Rattle.std.proofs.Common.{take}
use Rattle.cdi_bean_check.specs.MemberPlaces.{HasPlaces, IsOfSome}
use Rattle.cdi_bean_rules.specs.Observers.{HasConditionalAt}
use Rattle.cdi_bean_rules.proofs.conditional.conditional_of_dependent.Given as goal

abbrev pub invariant-loop-class : goal.invariant-loop-class
invariant-loop-class l = HasPlaces (IsOfSome (HasConditionalAt l.classes l.types) (take l.class-index l.classes)) l.found
