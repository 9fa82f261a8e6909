use Rattle.cdi_steps.proofs.InvocationSteps.{if_leaving}
use Rattle.cdi_steps.proofs.destruction.callbacks_of.Goals as goal

pub returns-in-Bean-clause-known : goal.returns-in-Bean-clause-known
returns-in-Bean-clause-known g c = if_leaving _ (g.T.Tables.tables c.args.tables.now) c.in-Bean.bean c.pre_destroy.result c.pre_destroy.ensures
