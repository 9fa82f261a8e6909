use Rattle.std.proofs.Common.{refl, arith}
use Rattle.cdi_machine.specs.Told.{product_told}
use Rattle.cdi_store.specs.declared.instance.Component.TheVariants.{Bean}
use Rattle.cdi_steps.proofs.Changes.{make_invocations}
use Rattle.cdi_steps.proofs.Heads.{is_there}
use Rattle.cdi_steps.proofs.Made.{ends, leaves_alone}
use Rattle.cdi_steps.proofs.ProductSteps.{make_product_missing, make_product_leads, not_absent}
use Rattle.cdi_steps.proofs.products.make_product.Goals as goal

pub returns-in_default-clause-step : goal.returns-in_default-clause-step
returns-in_default-clause-step g c =
    rw c.missing.ensures (ends (make_product_missing (g.T.Tables.tables c.args.tables.now) c.args.number c.args.bean c.args.owner (g.W.Contents.world c.args.world.now) c.in_default.ensures) (omega arith) refl)

pub returns-in_default-product-clause-step : goal.returns-in_default-product-clause-step
returns-in_default-product-clause-step g c = absurd (not_absent (g.T.Tables.tables c.args.tables.now) c.args.bean c.requires.product c.in_default-product.ensures.product)

pub returns-clause-step : goal.returns-clause-step
returns-clause-step g c =
    let there = is_there ((g.T.Tables.tables c.args.tables.now).bean c.args.bean) c.in-Some.head c.in-Some.ensures in
    rw (c.in_ok-make.ensures.ok, c.into_inner.ensures)
    (leaves_alone (make_product_leads (g.T.Tables.tables c.args.tables.now) c.args.number c.args.bean c.args.owner c.in-Some.head (product_told c.in-Some-product.product.now) c.in_ok-call.call c.new.result (g.W.Contents.world c.args.world.now) there c.in-Some-product.ensures.product c.in_ok-call.ensures c.new.ensures c.is_normal-normal.ensures) (omega arith)
    (make_invocations (Bean c.args.bean) c.args.owner.value c.new.result (g.W.Contents.world c.args.world.now)) (rw c.in_ok-call.ensures (tt, tt)) tt)
