-- What a container works with, as contracts see it, and what is true of it.
use Rattle.std.specs.Prelude.{ℕ, ◌≡◌, ◌<◌, ◌^◌, true, IsSome}
use Rattle.cdi_machine.specs.Words.{Asked}
use Rattle.cdi_machine.specs.Tables as machine
use Rattle.cdi_machine.specs.World.{World}
use Rattle.cdi_resolve.specs.declared.resolution.Resolution.{Resolution}
use Rattle.cdi_resolve.specs.declared.resolution.Resolution.TheVariants as resolutions
use Rattle.cdi_run_tables.specs.Machine.{bean_at, machine_tables}
use Rattle.cdi_run_tables.specs.Numbered.{is_numbered as is_numbered_deployment}
use Rattle.cdi_run_tables.specs.Sizes.{is_small}
use Rattle.cdi_run_tables.specs.declared.tables.RunTables.{RunTables}
use Rattle.cdi_steps.specs.Driving.{Drives}
use Rattle.cdi_steps.specs.Known.{AllInvoked}

pub record RuntimeParts (Driving : Type 0) : Type 0 where
  pub tables : RunTables
  pub driver : Driving
  pub world : World

-- what the plans and the observers of a deployment name is numbered, and what resolves is one of its beans
pub record IsServable (t : RunTables) : Type 0 where
  pub numbered : is_numbered_deployment t ≡ true
  pub small : is_small t ≡ true
  pub there :
      (asked : Asked) (b : ℕ) → (machine_tables t).resolve asked ≡ machine.One b
      → IsSome (bean_at t b)

-- a bean to which something resolves has a number
abbrev pub HasNumber : Resolution → Type 0
HasNumber (resolutions.One b) = b < 2 ^ 32
HasNumber _ = Unit {0}

-- what the engine asks, and leaves so: the driver has each body that can run, and no other is under way
pub record IsWorking (IsBody : ℕ → Type 0) (t : RunTables) (w : World) : Type 0 where
  pub drives : Drives (machine_tables t) IsBody
  pub invoked : AllInvoked (machine_tables t) w
