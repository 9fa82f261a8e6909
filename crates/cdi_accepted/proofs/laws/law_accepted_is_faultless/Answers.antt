-- The law is proved in Accepting.
use Rattle.cdi_bodies.specs.Table.{entries_of}
use Rattle.cdi_accepted.proofs.Accepting.{accepted_is_faultless}
use Rattle.cdi_accepted.proofs.laws.law_accepted_is_faultless.Goals as goal

pub returns : goal.returns
returns g c = accepted_is_faultless (entries_of c.args.bodies.now)
