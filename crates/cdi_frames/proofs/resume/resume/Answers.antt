use Rattle.std.proofs.Common.{refl, arith}
use Rattle.cdi_steps.proofs.Made.{ends}
use Rattle.cdi_frames.proofs.ResumeSteps.{cut_leads}
use Rattle.cdi_frames.proofs.resume.resume.Goals as goal

pub returns-in-Cut-clause-step : goal.returns-in-Cut-clause-step
returns-in-Cut-clause-step g c =
    rw (c.in-Cut.is, c.cut.ensures) (ends (cut_leads (g.T.Tables.tables c.args.tables.now) c.args.frame c.in-Cut.cause (g.W.Contents.world c.args.world.now)) (omega arith) refl)
