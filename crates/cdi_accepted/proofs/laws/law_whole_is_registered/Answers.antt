-- The law is proved in Registering.
use Rattle.cdi_bodies.specs.Table.{entries_of}
use Rattle.cdi_accepted.proofs.Registering.{whole_is_registered}
use Rattle.cdi_accepted.proofs.laws.law_whole_is_registered.Goals as goal

pub returns : goal.returns
returns g c = whole_is_registered (entries_of c.args.bodies.now)
