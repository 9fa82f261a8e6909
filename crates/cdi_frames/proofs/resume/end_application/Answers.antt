use Rattle.std.proofs.Common.{refl}
use Rattle.cdi_events.proofs.ContextSteps.{begins}
use Rattle.cdi_steps.proofs.Results.{map_ok}
use Rattle.cdi_frames.proofs.resume.end_application.Goals as goal

pub returns : goal.returns
returns g c = map_ok c.close.result (λ next b. begins (g.T.Tables.tables c.args._tables.now) b refl refl) c.close.ensures
