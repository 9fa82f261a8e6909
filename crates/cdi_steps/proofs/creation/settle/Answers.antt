use Rattle.std.proofs.Common.{arith}
use Rattle.cdi_steps.proofs.Changes.{settle_invocations}
use Rattle.cdi_steps.proofs.CreationSteps.{settle_leads}
use Rattle.cdi_steps.proofs.Made.{ends}
use Rattle.cdi_steps.proofs.creation.settle.Goals as goal

pub returns-clause-step : goal.returns-clause-step
returns-clause-step g c =
    rw (c.given.ensures, c.in_ok-settle.ensures.ok) (ends (settle_leads (g.T.Tables.tables c.args._tables.now) c.args.number (g.W.Contents.world c.args.world.now)) (omega arith) (settle_invocations c.args.number (g.W.Contents.world c.args.world.now)))
