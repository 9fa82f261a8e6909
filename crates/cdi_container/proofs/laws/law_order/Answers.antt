use Rattle.cdi_container.proofs.History.{keeps_order}
use Rattle.cdi_container.proofs.laws.law_order.Goals as goal

pub returns : goal.returns
returns g c tables =
    keeps_order tables (g.D.Driver.legal c.args.driver.now) (c.law_order.ensures.with_memory tables) (c.law_order.ensures.short_of_memory tables)
