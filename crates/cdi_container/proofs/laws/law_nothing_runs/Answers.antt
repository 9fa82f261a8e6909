use Rattle.cdi_container.proofs.Resting.{nothing_runs}
use Rattle.cdi_container.proofs.laws.law_nothing_runs.Goals as goal

pub returns : goal.returns
returns g c = λ tables. nothing_runs tables (g.D.Driver.legal c.args.driver.now) (c.law_rests.ensures.one_command tables)
