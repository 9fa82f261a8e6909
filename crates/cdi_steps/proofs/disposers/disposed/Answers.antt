use Rattle.cdi_steps.proofs.DisposerSteps.{disposed_leads}
use Rattle.cdi_steps.proofs.Results.{map_ok}
use Rattle.cdi_steps.proofs.disposers.disposed.Goals as goal

pub returns : goal.returns
returns g c =
    map_ok c.dispose_next.result (λ next h. disposed_leads (g.T.Tables.tables c.args.tables.now) c.args.disposal c.args._given next (g.W.Contents.world c.args.world.now) (rw c.into_inner.ensures at h)) c.dispose_next.ensures
