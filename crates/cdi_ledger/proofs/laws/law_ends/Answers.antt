use Rattle.cdi_ledger.proofs.Settled.{leaves_nothing}
use Rattle.cdi_ledger.proofs.Marks.{marks_once, marks_if_short}
use Rattle.cdi_ledger.proofs.laws.law_ends.Goals as goal

pub returns-clause-nothing : goal.returns-clause-nothing
returns-clause-nothing g c = λ tables. leaves_nothing tables (g.D.Driver.legal c.args.driver.now)

pub returns-clause-marked : goal.returns-clause-marked
returns-clause-marked g c = λ tables. marks_once tables (g.D.Driver.legal c.args.driver.now)

pub returns-clause-marked_short_of_memory : goal.returns-clause-marked_short_of_memory
returns-clause-marked_short_of_memory g c = λ tables. marks_if_short tables (g.D.Driver.legal c.args.driver.now)
