use Rattle.cdi_calls.proofs.CallSteps.{disposer_known}
use Rattle.cdi_calls.proofs.container_calls.member_of.Goals as goal

pub returns-in_ok-product-in-Disposer-clause-known : goal.returns-in_ok-product-in-Disposer-clause-known
returns-in_ok-product-in-Disposer-clause-known g c =
    disposer_known (g.T.Tables.tables c.args.tables.now) c.in-Disposer.bean c.in-Disposer.at c.in_ok-product-in-Disposer.field-0.now c.get.result c.in_ok-product-in-Disposer.ensures.product c.get.ensures
