use Rattle.cdi_ledger.proofs.Farewells.{bodies_are_farewells, farewells_if_short}
use Rattle.cdi_ledger.proofs.laws.law_bodies.Goals as goal

pub returns-clause-with_memory : goal.returns-clause-with_memory
returns-clause-with_memory g c = λ tables. bodies_are_farewells tables (g.D.Driver.legal c.args.driver.now)

pub returns-clause-short_of_memory : goal.returns-clause-short_of_memory
returns-clause-short_of_memory g c = λ tables. farewells_if_short tables (g.D.Driver.legal c.args.driver.now)
