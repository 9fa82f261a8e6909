use Rattle.cdi_bodies.specs.Table.{entries_of}
use Rattle.cdi_machine.specs.Registered.{in_shapes}
use Rattle.cdi_container.proofs.OnItsWay.{always_answers}
use Rattle.cdi_container.proofs.laws.law_always_answers.Goals as goal

pub returns : goal.returns
returns g c = λ tables. always_answers tables (in_shapes (entries_of c.args.bodies.now)) (c.law_ends.ensures tables)
