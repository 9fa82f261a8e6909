use Rattle.cdi_ledger.proofs.Traces.{adds_its_trace}
use Rattle.cdi_ledger.proofs.laws.law_traces.Goals as goal

pub returns-clause-with_memory : goal.returns-clause-with_memory
returns-clause-with_memory g c = λ tables. adds_its_trace tables (g.D.Driver.legal c.args.driver.now) ⊥

pub returns-clause-short_of_memory : goal.returns-clause-short_of_memory
returns-clause-short_of_memory g c = λ tables. adds_its_trace tables (g.D.Driver.legal c.args.driver.now) (Unit {0})
