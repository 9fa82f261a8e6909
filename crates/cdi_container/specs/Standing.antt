-- A container, as contracts see it.
use Rattle.std.specs.Prelude.{ℕ, ◌≡◌, List, Option}
use Rattle.cdi_base.specs.declared.reply.Cause.{Cause}
use Rattle.cdi_base.specs.declared.reply.Reply.{Reply}
use Rattle.cdi_machine.specs.Tables as machine
use Rattle.cdi_machine.specs.Runs.{Legal}
use Rattle.cdi_machine.specs.Laws.{IsWithin}
use Rattle.cdi_run_tables.specs.Machine.{machine_tables}
use Rattle.cdi_run_tables.specs.declared.tables.RunTables.{RunTables}
use Rattle.cdi_runtime.specs.Standing.{RuntimeParts}
use Rattle.cdi_container.specs.States.{ContainerState, Boots}

pub record ContainerParts (Driving : Type 0) : Type 0 where
  pub runtime : RuntimeParts Driving
  -- why it takes no further command, if it doesn't
  pub halted : Option Cause
  -- what its start was answered
  pub booted : Reply

module _ {Driving : Type 0} where
  abbrev pub tables_in : RuntimeParts Driving → machine.Tables
  tables_in r = machine_tables r.tables

  abbrev pub tables_of : ContainerParts Driving → machine.Tables
  tables_of c = tables_in c.runtime

  abbrev pub names_of : ContainerParts Driving → List (List ℕ)
  names_of c = c.runtime.tables.deployment.names

  abbrev pub state_of : ContainerParts Driving → ContainerState
  state_of c = record { world = c.runtime.world; halted = c.halted }

-- The names and the tables stay, and nothing becomes legal.
pub record KeepsParts {Driving : Type 0} (before after : Legal) (r s : RuntimeParts Driving)
    : Type 0 where
  pub names : s.tables.deployment.names ≡ r.tables.deployment.names
  pub tables : tables_in s ≡ tables_in r
  pub legal : IsWithin after before

-- So for a container, which still greets by the reply to its start.
pub record SameParts {Driving : Type 0} (before after : Legal) (c d : ContainerParts Driving)
    : Type 0 where
  pub parts : KeepsParts before after c.runtime d.runtime
  pub booted : d.booted ≡ c.booted

-- a container of the deployment with these tables, whose start has been carried out
pub record IsStarted {Driving : Type 0} (before after : Legal) (t : RunTables) (ticks depth : ℕ)
    (c : ContainerParts Driving) : Type 0 where
  pub names : names_of c ≡ t.deployment.names
  pub tables : tables_of c ≡ machine_tables t
  pub legal : IsWithin after before
  pub boots : Boots (machine_tables t) before (Unit {0}) ticks depth c.booted (state_of c)
