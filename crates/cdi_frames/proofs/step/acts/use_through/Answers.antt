use Rattle.std.proofs.Common.{refl, arith}
use Rattle.cdi_steps.proofs.Results.{map_ok}
use Rattle.cdi_steps.proofs.Made.{leaves_alone, settled}
use Rattle.cdi_frames.proofs.ActSteps.{via_missing, via_leads}
use Rattle.cdi_frames.proofs.step.acts.use_through.Goals as goal

pub returns-in_default : goal.returns-in_default
returns-in_default g c =
    map_ok c.answer.result (λ next h. settled (via_missing (g.T.Tables.tables c.args.tables.now) c.args.running.value c.args.via c.args.purpose (g.W.Contents.world c.args.world.now) (rw c.deref.ensures at c.in_default.ensures)) h (omega arith)) (rw c.missed.ensures at c.answer.ensures)

pub returns : goal.returns
returns g c =
    leaves_alone (via_leads (g.T.Tables.tables c.args.tables.now) c.args.running c.args.via c.in-Some.reference c.args.purpose (g.W.Contents.world c.args.world.now) (rw c.deref.ensures at c.in-Some.ensures)) (omega arith) refl (tt, c.requires) tt
