use Rattle.cdi_container.proofs.Missing.{none_missed}
use Rattle.cdi_container.proofs.laws.law_nothing_missing.Goals as goal

pub returns-clause-with_memory : goal.returns-clause-with_memory
returns-clause-with_memory g c tables =
    none_missed tables (g.D.Driver.legal c.args.driver.now) ⊥ (c.law_nothing_missing.ensures.with_memory tables)

pub returns-clause-short_of_memory : goal.returns-clause-short_of_memory
returns-clause-short_of_memory g c tables =
    none_missed tables (g.D.Driver.legal c.args.driver.now) (Unit {0}) (c.law_nothing_missing.ensures.short_of_memory tables)
