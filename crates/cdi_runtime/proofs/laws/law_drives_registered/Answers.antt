use Rattle.cdi_bodies.specs.Table.{entries_of}
use Rattle.cdi_runtime.proofs.Knowing.{drives_registered}
use Rattle.cdi_runtime.proofs.laws.law_drives_registered.Goals as goal

pub returns : goal.returns
returns g c = drives_registered (entries_of c.args._bodies.now)
