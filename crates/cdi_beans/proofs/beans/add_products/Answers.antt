use Rattle.cdi_bean_rules.specs.Limits.{is_producer}
use Rattle.cdi_beans.specs.Beans.{Source, products_in}
use Rattle.cdi_beans.proofs.Adding.{adds_next, map_filter-append}
use Rattle.cdi_beans.proofs.beans.add_products.Goals as goal

pub loop-member-preserved : goal.loop-member-preserved
loop-member-preserved c =
    let i = c.loop-member in
    let class = c.args.class.now in
    adds_next (products_in class) (map_filter-append (Source.AProducer class) is_producer) c.as_slice-member-items.result.now i.member-index c.member-item.result _ i.beans c.add_product.new.beans c.loop-member-test.true c.member-item.is i.invariant c.in_ok-add_product.ensures
