use Rattle.cdi_ledger.proofs.Callbacks.{farewells_in_destruction, farewells_in_short}
use Rattle.cdi_ledger.proofs.laws.law_callbacks.Goals as goal

pub returns-clause-with_memory : goal.returns-clause-with_memory
returns-clause-with_memory g c = λ tables. farewells_in_destruction tables (g.D.Driver.legal c.args.driver.now)

pub returns-clause-short_of_memory : goal.returns-clause-short_of_memory
returns-clause-short_of_memory g c = λ tables. farewells_in_short tables (g.D.Driver.legal c.args.driver.now)
