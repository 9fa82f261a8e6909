-- Which deployments are accepted.
use Rattle.std.specs.Prelude.{◌≡◌, ◌≢◌, ◌<◌, List, [], length, true, false}
use Rattle.cdi_base.specs.declared.or_memory.OrMemory.{OrMemory}
use Rattle.cdi_base.specs.declared.or_memory.OrMemory.TheVariants as errors
use Rattle.cdi_bodies.specs.Gives.{lookups_of}
use Rattle.cdi_bodies.specs.declared.entry.Entry.{Entry}
use Rattle.cdi_body_check.specs.Shapes.{shape_of}
use Rattle.cdi_check.specs.Problems.{AreProblemsOf}
use Rattle.cdi_deployment.specs.declared.deployment.Deployment.{Deployment}
use Rattle.cdi_machine.specs.Registered.{legal_of}
use Rattle.cdi_run_tables.specs.Machine.{AreIdsOf, machine_tables}
use Rattle.cdi_run_tables.specs.Planned.{IsTabled}
pub use Rattle.cdi_run_tables.specs.WellFormed.{is_well_formed}
use Rattle.cdi_run_tables.specs.declared.tables.RunTables.{RunTables}
use Rattle.cdi_runtime.specs.Standing.{IsServable}
use Rattle.cdi_steps.specs.Driving.{Drives}
use Rattle.cdi_whole.specs.Fits.{Fits}
use Rattle.cdi_container.specs.declared.acceptance.Unaccepted.{Unaccepted}
use Rattle.cdi_container.specs.declared.acceptance.Unaccepted.TheVariants as reasons

-- the deployment has no problem with these bodies, and these are its tables
pub record AreTablesWith {X : Type 0} {F : X → Type 0} {g : _}
    (deployment : Deployment) (entries : List (Entry X F g)) (t : RunTables) : Type 0 where
  pub faultless : AreProblemsOf deployment (shape_of entries) []
  pub deployment_is : t.deployment ≡ deployment
  pub tabled : IsTabled t
  pub ids : AreIdsOf entries t
  pub lookups : t.lookups ≡ lookups_of entries

-- it is accepted, and this is what a container needs of it
pub record IsAccepted {X : Type 0} {F : X → Type 0} {g : _}
    (deployment : Deployment) (entries : List (Entry X F g)) (t : RunTables) : Type 0 where
  pub are : AreTablesWith deployment entries t
  pub formed : is_well_formed t ≡ true
  pub servable : IsServable t
  -- each body is registered, and what the bodies name is there
  pub drives : Drives (machine_tables t) (λ body. body < length entries)
  pub fits : Fits (machine_tables t) (legal_of entries)

-- it has no problem with these bodies, and isn't as one that was read
pub record IsMalformed {X : Type 0} {F : X → Type 0} {g : _}
    (deployment : Deployment) (entries : List (Entry X F g)) : Type 0 where
  pub tables : RunTables
  pub are : AreTablesWith deployment entries tables
  pub malformed : is_well_formed tables ≡ false

-- there are problems, it isn't as one that was read, or memory ran out
abbrev pub IsUnaccepted : {X : Type 0} {F : X → Type 0} {g : _}
    → Deployment → List (Entry X F g) → OrMemory Unaccepted → Type 0
IsUnaccepted deployment entries (errors.Fault (reasons.Problems names problems)) =
    (names ≡ deployment.names) × AreProblemsOf deployment (shape_of entries) problems
    × (problems ≢ [])
IsUnaccepted deployment entries (errors.Fault reasons.Malformed) = IsMalformed deployment entries
IsUnaccepted deployment entries errors.Memory = Unit {0}
