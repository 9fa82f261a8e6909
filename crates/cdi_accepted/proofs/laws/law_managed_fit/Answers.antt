-- The law is proved in Fitting.
use Rattle.cdi_bodies.specs.Table.{entries_of}
use Rattle.cdi_accepted.proofs.Fitting.{managed_fit}
use Rattle.cdi_accepted.proofs.laws.law_managed_fit.Goals as goal

pub returns : goal.returns
returns g c = managed_fit (entries_of c.args.bodies.now) c.gives_in_shape.ensures
