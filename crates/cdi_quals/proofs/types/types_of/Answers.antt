use Rattle.cdi_quals.specs.Types.{AreTypesOf}
use Rattle.cdi_quals.proofs.TypeLists.{one_more}
use Rattle.cdi_quals.proofs.types.types_of.Goals as goal

pub loop-declaration-init : goal.loop-declaration-init
loop-declaration-init c = rw c.empty-types.ensures AreTypesOf.none

pub loop-declaration-preserved : goal.loop-declaration-preserved
loop-declaration-preserved c =
    let i = c.loop-declaration in
    rw c.in_ok-push.ensures.ok (one_more c.args.names.now c.args.declared.now i.types i.declaration-index c.declaration-item.result c.in_ok-type_of.field-0 c.loop-declaration-test.true c.declaration-item.is i.invariant c.in_ok-type_of.ensures)
