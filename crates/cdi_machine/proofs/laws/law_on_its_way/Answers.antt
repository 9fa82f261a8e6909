use Rattle.cdi_bodies.specs.Table.{entries_of}
use Rattle.cdi_machine.proofs.InShapes.{on_its_way_in_shapes}
use Rattle.cdi_machine.proofs.laws.law_on_its_way.Goals as goal

pub returns : goal.returns
returns g c = λ tables. on_its_way_in_shapes (g.D.Driver.legal c.args.driver.now) (entries_of c.args.bodies.now) tables
