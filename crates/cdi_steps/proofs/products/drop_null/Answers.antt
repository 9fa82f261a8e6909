use Rattle.std.proofs.Common.{arith}
use Rattle.cdi_steps.proofs.Changes.{discard_invocations}
use Rattle.cdi_steps.proofs.Made.{ends}
use Rattle.cdi_steps.proofs.ProductSteps.{drop_null_leads}
use Rattle.cdi_steps.proofs.products.drop_null.Goals as goal

pub returns : goal.returns
returns g c =
    rw (c.given.ensures, c.discard.ensures)
    (ends (drop_null_leads (g.T.Tables.tables c.args._tables.now) c.args.number (g.W.Contents.world c.args.world.now)) (omega arith) (discard_invocations c.args.number (g.W.Contents.world c.args.world.now)))
