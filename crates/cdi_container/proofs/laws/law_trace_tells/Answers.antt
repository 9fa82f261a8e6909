use Rattle.cdi_container.proofs.Traces.{trace_tells}
use Rattle.cdi_container.proofs.laws.law_trace_tells.Goals as goal

pub returns : goal.returns
returns g c = λ tables. trace_tells tables (g.D.Driver.legal c.args.driver.now) (c.law_one_run.ensures tables)
