use Rattle.cdi_ledger.proofs.Births.{one_in_a_context, one_of_the_application, one_if_short}
use Rattle.cdi_ledger.proofs.laws.law_one_instance.Goals as goal

pub returns-clause-in_a_context : goal.returns-clause-in_a_context
returns-clause-in_a_context g c = λ tables. one_in_a_context tables (g.D.Driver.legal c.args.driver.now)

pub returns-clause-of_the_application : goal.returns-clause-of_the_application
returns-clause-of_the_application g c = λ tables. one_of_the_application tables (g.D.Driver.legal c.args.driver.now)

pub returns-clause-short_of_memory : goal.returns-clause-short_of_memory
returns-clause-short_of_memory g c = λ tables. one_if_short tables (g.D.Driver.legal c.args.driver.now)
