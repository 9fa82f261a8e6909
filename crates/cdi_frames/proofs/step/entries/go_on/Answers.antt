use Rattle.std.proofs.Common.{refl, arith}
use Rattle.cdi_steps.specs.Leads.{Comes}
use Rattle.cdi_steps.proofs.Made.{leaves_alone}
use Rattle.cdi_steps.proofs.Results.{map_ok}
use Rattle.cdi_frames.proofs.step.entries.go_on.Goals as goal

pub returns-in-Making-clause-step : goal.returns-in-Making-clause-step
returns-in-Making-clause-step g c = rw c.in-Making.is c.make.ensures.step

pub returns-in-Leaving-clause-step : goal.returns-in-Leaving-clause-step
returns-in-Leaving-clause-step g c = rw c.in-Leaving.is c.leave.ensures.step

pub returns-in-Freeing-clause-step : goal.returns-in-Freeing-clause-step
returns-in-Freeing-clause-step g c =
    rw (c.in-Freeing.is, c.free_one.ensures) (leaves_alone (Comes.same refl) (omega arith) refl (tt, tt) tt)

pub returns-in-Dropping-clause-step : goal.returns-in-Dropping-clause-step
returns-in-Dropping-clause-step g c = rw c.in-Dropping.is c.drop_null.ensures

pub returns-in-Publishing-clause-step : goal.returns-in-Publishing-clause-step
returns-in-Publishing-clause-step g c = rw c.in-Publishing.is (map_ok c.deliver.result (λ next h. h) c.deliver.ensures)

pub returns-in-Delivering-clause-step : goal.returns-in-Delivering-clause-step
returns-in-Delivering-clause-step g c = rw c.in-Delivering.is (map_ok c.deliver_to.result (λ next h. h) c.deliver_to.ensures)
