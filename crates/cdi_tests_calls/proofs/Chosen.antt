-- The bodies with which a deployment is accepted drive it.
use Rattle.std.proofs.Common.{ℕ, ◌<◌, length, List, Result, Ok, Err}
use Rattle.std.specs.Prelude.{IfOk}
use Rattle.cdi_base.specs.declared.or_memory.OrMemory.{OrMemory}
use Rattle.cdi_bodies.specs.declared.entry.Entry.{Entry}
use Rattle.cdi_container.specs.Accepted.{IsAccepted}
use Rattle.cdi_container.specs.declared.acceptance.Unaccepted.{Unaccepted}
use Rattle.cdi_deployment.specs.declared.deployment.Deployment.{Deployment}
use Rattle.cdi_run_tables.specs.Machine.{machine_tables}
use Rattle.cdi_run_tables.specs.declared.tables.RunTables.{RunTables}
use Rattle.cdi_steps.specs.Driving.{Drives}

module _ {X : Type 0} {F : X → Type 0} {g : _} (entries : List (Entry X F g)) where
  pub drives_with : (d : Deployment) (accepted : Result RunTables (OrMemory Unaccepted)) → IfOk accepted (IsAccepted d entries)
      → IfOk accepted (λ tables. Drives (machine_tables tables) (λ body. body < length entries))
  drives_with d (Ok tables) a = a.drives
  drives_with d (Err unaccepted) a = tt
