use Rattle.std.proofs.Common.{refl, arith}
use Rattle.cdi_steps.proofs.Made.{settled}
use Rattle.cdi_steps.proofs.Results.{map_ok}
use Rattle.cdi_events.proofs.observers.grouped.Goals as goal

pub returns : goal.returns
returns g c = map_ok c.notify_next.result (λ next s. settled refl s (omega arith)) c.notify_next.ensures
