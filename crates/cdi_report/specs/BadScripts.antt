-- A script that is bad is told by its name.
use Rattle.std.specs.Prelude.{ℕ, List, IfErr, IfOk, IsTrue}
use Rattle.cdi_base.specs.Name.{is_name}
use Rattle.cdi_deploy.specs.Reading.{deployment_in}
use Rattle.cdi_prepare.specs.Scripts.{scripts_in}

-- if the lists of a deployment are read and a script is bad, then the text that tells which one is a name
abbrev pub BadScriptsHaveNames : Type 0
BadScriptsHaveNames =
    (bytes : List ℕ) → IfOk (deployment_in bytes) (λ d.
    IfErr (scripts_in d.names d.scripts) (λ bad. IsTrue (is_name bad.name)))
