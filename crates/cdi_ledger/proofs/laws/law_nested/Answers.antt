use Rattle.cdi_ledger.proofs.Nesting.{ends_nested, nested_if_short}
use Rattle.cdi_ledger.proofs.laws.law_nested.Goals as goal

pub returns-clause-with_memory : goal.returns-clause-with_memory
returns-clause-with_memory g c = λ tables. ends_nested tables (g.D.Driver.legal c.args.driver.now)

pub returns-clause-short_of_memory : goal.returns-clause-short_of_memory
returns-clause-short_of_memory g c = λ tables. nested_if_short tables (g.D.Driver.legal c.args.driver.now)
