-- Registered bodies that a container can drive.
use Rattle.std.specs.Prelude.{◌<◌, List, length}
use Rattle.cdi_bodies.specs.declared.entry.Entry.{Entry}
use Rattle.cdi_run_tables.specs.Machine.{AreIdsOf, machine_tables}
use Rattle.cdi_run_tables.specs.Registered.{HasBodies}
use Rattle.cdi_run_tables.specs.declared.tables.RunTables.{RunTables}
use Rattle.cdi_steps.specs.Driving.{Drives}

-- any tables with the numbers of these bodies, which have all that can come to run, are driven by them
abbrev pub DrivesRegistered : {X : Type 0} {F : X → Type 0} {g : _} → List (Entry X F g) → Type 0
DrivesRegistered entries =
    (t : RunTables) → AreIdsOf entries t → HasBodies t
    → Drives (machine_tables t) (λ body. body < length entries)
