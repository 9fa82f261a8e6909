-- What is true of every run of a container of an accepted deployment.
use Rattle.std.specs.Prelude.{List}
use Rattle.cdi_ledger.specs.Ledger.{Item}
use Rattle.cdi_machine.specs.Runs.{Legal}
use Rattle.cdi_run_tables.specs.Machine.{machine_tables}
use Rattle.cdi_run_tables.specs.declared.tables.RunTables.{RunTables}
use Rattle.cdi_container.specs.History.{History, KeepsOrder, BeginsFarewellsOnce}
use Rattle.cdi_container.specs.Missing.{MissesNone}
use Rattle.cdi_container.specs.Resting.{NothingRuns}
use Rattle.cdi_container.specs.States.{ContainerState}
use Rattle.cdi_container.specs.Thrown.{NamesThrown}

-- Behind whatever commands: no command misses what has to be there, also if memory runs out in it; what was written is in
-- order, and no body starts on an instance that is gone; each destruction begins its callbacks exactly once; nothing runs
-- between two commands; and each exception that is replied is told by a name.
pub record IsSound (t : RunTables) (legal : Legal) : Type 0 where
  pub complete : (s : ContainerState) (h : List Item)
      → History (machine_tables t) legal (Unit {0}) s h
      → MissesNone (machine_tables t) legal ⊥ s × MissesNone (machine_tables t) legal (Unit {0}) s
  pub order : KeepsOrder (machine_tables t) legal
  pub farewells : BeginsFarewellsOnce (machine_tables t) legal
  pub rests : NothingRuns (machine_tables t) legal
  pub names : NamesThrown t legal
