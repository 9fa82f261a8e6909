-- The law is proved in Beginning.
use Rattle.cdi_whole.proofs.Beginning.{begin_once, begin_once_if_short}
use Rattle.cdi_whole.proofs.laws.law_destructions_begin_once.Goals as goal

pub returns-clause-with_memory : goal.returns-clause-with_memory
returns-clause-with_memory g c = λ tables. begin_once tables (g.D.Driver.legal c.args.driver.now)

pub returns-clause-short_of_memory : goal.returns-clause-short_of_memory
returns-clause-short_of_memory g c = λ tables. begin_once_if_short tables (g.D.Driver.legal c.args.driver.now)
