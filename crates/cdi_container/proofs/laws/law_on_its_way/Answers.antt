use Rattle.cdi_bodies.specs.Table.{entries_of}
use Rattle.cdi_machine.specs.Registered.{in_shapes}
use Rattle.cdi_container.proofs.OnItsWay.{stays_on_its_way}
use Rattle.cdi_container.proofs.laws.law_on_its_way.Goals as goal

pub returns : goal.returns
returns g c = λ tables. stays_on_its_way tables (g.D.Driver.legal c.args.driver.now) (in_shapes (entries_of c.args.bodies.now)) (c.law_on_its_way.ensures tables)
