use Rattle.cdi_bean_rules.specs.Limits.{beans_in}
use Rattle.cdi_bean_rules.proofs.Counts.{sums_on}
use Rattle.cdi_bean_rules.proofs.limits.bean_count.Goals as goal

pub loop-class-preserved : goal.loop-class-preserved
loop-class-preserved c =
    sums_on c.args.classes.now c.loop-class.class-index c.class-item.result c.loop-class-test.true c.class-item.is beans_in 18446744073709551615
    c.loop-class.count c.beans_in.result c.saturating_add-count.result c.loop-class.invariant c.beans_in.ensures c.saturating_add-count.ensures
