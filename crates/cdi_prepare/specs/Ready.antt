-- A deployment with its scripts, from its bytes.
use Rattle.std.specs.Global.{Vec}
use Rattle.std.specs.Prelude.{◌≡◌, ℕ, List, Result, Ok, Err}
use Rattle.cdi_base.specs.Reading.{◌>>=◌}
use Rattle.cdi_base.specs.declared.or_memory.OrMemory.{OrMemory}
use Rattle.cdi_base.specs.declared.or_memory.OrMemory.TheVariants as errors
use Rattle.cdi_deployment.specs.declared.deployment.Deployment.{Deployment}
use Rattle.cdi_deploy.specs.Reading.{deployment_in}
use Rattle.cdi_prepare.specs.declared.reading.Prepared.{Prepared}
use Rattle.cdi_prepare.specs.declared.scripts.BadScript.{BadScript}
use Rattle.cdi_prepare.specs.declared.scripts.NamedScript.{NamedScript}
use Rattle.cdi_prepare.specs.FaultText.{fault_line, script_line}
use Rattle.cdi_prepare.specs.Scripts.{scripts_in}

-- a fault, as the line that tells it
abbrev pub or_line : {X F : Type 0} → (F → List ℕ) → Result X F → Result X (List ℕ)
or_line line (Ok x) = Ok x
or_line line (Err fault) = Err (line fault)

abbrev pub bad_script_line : BadScript → List ℕ
bad_script_line bad = script_line bad.name bad.fault

-- a deployment with its scripts, whose names are in its table
pub record Readied : Type 0 where
  pub deployment : Deployment
  pub scripts : List NamedScript

abbrev pub ready_of : Prepared → Readied
ready_of p = record { deployment = p.deployment; scripts = p.scripts.items }

-- the scripts of a deployment that was read, or the line of the first that is bad
abbrev pub with_scripts : Deployment → Result Readied (List ℕ)
with_scripts d =
    or_line bad_script_line (scripts_in d.names d.scripts)
    >>= λ read. Ok (record { deployment = record d { names = read.1 }; scripts = read.0 })

-- the deployment with its scripts that bytes are, or the line of its first fault
abbrev pub readied_in : List ℕ → Result Readied (List ℕ)
readied_in bytes = or_line fault_line (deployment_in bytes) >>= with_scripts

-- the bytes are the line that tells the fault, or memory ran out
abbrev pub IsRefusal : {A : Type 0} → Result A (List ℕ) → OrMemory (Vec ℕ) → Type 0
IsRefusal answer (errors.Fault line) = answer ≡ Err line.items
IsRefusal answer errors.Memory = Unit {0}
