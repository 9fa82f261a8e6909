-- What contracts see of a table of bodies.
use Rattle.std.specs.Prelude.{List}
use Rattle.cdi_bodies.specs.declared.entry.Entry.{Entry}
use Rattle.cdi_bodies.specs.declared.table.Bodies.{Bodies}

-- the entries of the bodies, each at its number
abbrev pub entries_of : {X : Type 0} {F : X → Type 0} {g : _} → Bodies X F g → List (Entry X F g)
entries_of bodies = bodies.entries.items
