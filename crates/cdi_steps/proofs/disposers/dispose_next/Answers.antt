use Rattle.cdi_steps.proofs.DisposerSteps.{disposes_next, disposes_no_more}
use Rattle.cdi_steps.proofs.Results.{map_ok}
use Rattle.cdi_steps.proofs.disposers.dispose_next.Goals as goal

pub returns-in_default : goal.returns-in_default
returns-in_default g c = disposes_no_more (g.T.Tables.tables c.args.tables.now) c.args.disposal c.in_default.ensures.found c.free.ensures

pub returns : goal.returns
returns g c =
    map_ok c.call_next.result (λ next h. disposes_next (g.T.Tables.tables c.args.tables.now) c.args.disposal c.in-Some.declaring next c.in-Some.ensures.found c.in-Some.ensures.few h) c.call_next.ensures
