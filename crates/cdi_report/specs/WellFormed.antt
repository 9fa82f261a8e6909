-- A deployment with its scripts is well formed.
use Rattle.std.specs.Prelude.{◌≡◌, true}
use Rattle.cdi_prepare.specs.Ready.{Readied}
use Rattle.cdi_run_tables.specs.Planned.{IsTabled}
use Rattle.cdi_run_tables.specs.WellFormed.{is_well_formed}
use Rattle.cdi_run_tables.specs.declared.tables.RunTables.{RunTables}

-- what a container takes for granted of it: any tables of it are well formed
abbrev pub IsWellFormed : Readied → Type 0
IsWellFormed r = (t : RunTables) → t.deployment ≡ r.deployment → IsTabled t → is_well_formed t ≡ true
