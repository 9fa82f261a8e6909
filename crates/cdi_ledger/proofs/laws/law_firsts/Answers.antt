use Rattle.cdi_ledger.proofs.Counts.{starts_at_most_once}
use Rattle.cdi_ledger.proofs.Firsts.{begins_only_at_mark, begins_only_if_short}
use Rattle.cdi_ledger.proofs.laws.law_firsts.Goals as goal

pub returns-clause-with_memory : goal.returns-clause-with_memory
returns-clause-with_memory g c = λ tables. begins_only_at_mark tables (g.D.Driver.legal c.args.driver.now)

pub returns-clause-short_of_memory : goal.returns-clause-short_of_memory
returns-clause-short_of_memory g c = λ tables. begins_only_if_short tables (g.D.Driver.legal c.args.driver.now)

pub returns-clause-at_most_once : goal.returns-clause-at_most_once
returns-clause-at_most_once g c = λ tables. starts_at_most_once tables (g.D.Driver.legal c.args.driver.now)
