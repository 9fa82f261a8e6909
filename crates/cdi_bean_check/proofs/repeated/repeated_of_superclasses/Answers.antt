use Rattle.std.proofs.Common.{◌≤◌, List, length, subst, arith}
use Rattle.std.proofs.lemmas.List.{take_all}
use Rattle.cdi_deployment.specs.declared.deployment.Class.{Class}
use Rattle.cdi_bean_check.specs.MemberPlaces.{HasPlaces, IsOfSome}
use Rattle.cdi_bean_check.specs.Repeated.{RepeatsAt}
use Rattle.cdi_bean_check.proofs.PlaceSets.{one_more}
use Rattle.cdi_bean_check.proofs.repeated.repeated_of_superclasses.Goals as goal

pub loop-class-preserved : goal.loop-class-preserved
loop-class-preserved c =
    let adds = rw c.requires at c.in_ok-add_of_class.ensures in
    one_more (RepeatsAt c.args.classes.now c.args.types.now) c.args.classes.now c.loop-class.class-index c.class-item.result c.loop-class-test.true c.class-item.is c.loop-class.found c.add_of_class.new.found adds c.loop-class.invariant

pub returns : goal.returns
returns c =
    let classes = c.args.classes.now in
    let end = c.loop-class-test.false in
    let all : length classes ≤ c.loop-class.class-index = omega (arith, end) in
    let P : List Class → Type 0 = λ cs. HasPlaces (IsOfSome (RepeatsAt classes c.args.types.now) cs) c.loop-class.found in
    subst P (take_all c.loop-class.class-index classes all) c.loop-class.invariant

pub add_of_class-requires-clause-members : goal.add_of_class-requires-clause-members
add_of_class-requires-clause-members c = rw c.requires c.in_ok-suspects.ensures.members
