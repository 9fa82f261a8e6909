-- The law is proved in Farewells.
use Rattle.cdi_bodies.specs.Table.{entries_of}
use Rattle.cdi_accepted.proofs.Farewells.{farewells_apart, farewells_begin_once, farewells_begin_if_short}
use Rattle.cdi_accepted.proofs.laws.law_farewells_begin_once.Goals as goal

pub returns-clause-apart : goal.returns-clause-apart
returns-clause-apart g c = farewells_apart (entries_of c.args.bodies.now)

pub returns-clause-with_memory : goal.returns-clause-with_memory
returns-clause-with_memory g c = farewells_begin_once (entries_of c.args.bodies.now) c.gives_in_shape.ensures

pub returns-clause-short_of_memory : goal.returns-clause-short_of_memory
returns-clause-short_of_memory g c = farewells_begin_if_short (entries_of c.args.bodies.now) c.gives_in_shape.ensures
