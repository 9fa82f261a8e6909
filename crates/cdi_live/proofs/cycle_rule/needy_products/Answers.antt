use Rattle.cdi_live.proofs.NeedyProducts.{one_bean}
use Rattle.cdi_live.proofs.cycle_rule.needy_products.Goals as goal

pub loop-bean-preserved : goal.loop-bean-preserved
loop-bean-preserved c = one_bean c.args.flags.now c.args.beans.now c.loop-bean.bean-index c.bean-item.result c.loop-bean-test.true c.bean-item.is c.loop-bean.set c.add_needy_product.new.set c.loop-bean.invariant c.in_ok-add_needy_product.ensures
