-- The tables of an accepted deployment are faultless.
use Rattle.std.proofs.Common.{List}
use Rattle.cdi_bodies.specs.declared.entry.Entry.{Entry}
use Rattle.cdi_body_check.specs.Shapes.{shape_of}
use Rattle.cdi_accepted.proofs.Verdicts.{none_by_tables}
use Rattle.cdi_accepted.specs.Accepted.{AcceptedIsFaultless}

pub accepted_is_faultless : {X : Type 0} {F : X → Type 0} {g : _} (entries : List (Entry X F g)) → AcceptedIsFaultless entries
accepted_is_faultless entries t problems texts tabled ids lookups =
    record {
      tabled = tabled;
      ids = ids;
      lookups = lookups;
      texts = texts;
      problems = none_by_tables t.deployment (shape_of entries) t.tables tabled.tables problems;
    }
