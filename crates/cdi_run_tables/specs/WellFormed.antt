-- What a container takes for granted of a deployment, as it is of every one that was read.
use Rattle.std.specs.Prelude.{◌&&◌, Bool}
use Rattle.cdi_run_tables.specs.Numbered.{is_numbered}
use Rattle.cdi_run_tables.specs.Sizes.{is_small}
use Rattle.cdi_run_tables.specs.Texts.{has_texts}
use Rattle.cdi_run_tables.specs.declared.tables.RunTables.{RunTables}

-- each exception has a text, and no list is so long that a place in it has no number
abbrev pub is_well_formed : RunTables → Bool
is_well_formed t = has_texts t.deployment && is_numbered t && is_small t
