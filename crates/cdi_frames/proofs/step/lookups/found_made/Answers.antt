use Rattle.std.proofs.Common.{refl, arith}
use Rattle.cdi_steps.proofs.Results.{map_ok}
use Rattle.cdi_steps.proofs.Made.{settled}
use Rattle.cdi_frames.proofs.step.lookups.found_made.Goals as goal

pub returns : goal.returns
returns g c =
    map_ok c.found.result (λ next h. settled refl h (omega arith)) (rw c.reference_to.ensures at c.found.ensures)
