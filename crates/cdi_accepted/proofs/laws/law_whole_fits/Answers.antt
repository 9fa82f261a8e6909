-- The law is proved in Whole.
use Rattle.cdi_bodies.specs.Table.{entries_of}
use Rattle.cdi_accepted.proofs.Whole.{whole_fits}
use Rattle.cdi_accepted.proofs.laws.law_whole_fits.Goals as goal

pub returns : goal.returns
returns g c = whole_fits (entries_of c.args.bodies.now) c.gives_in_shape.ensures
