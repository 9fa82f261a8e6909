-- Each text in the table of names of a deployment that is read with its scripts is a name.
use Rattle.std.proofs.Common.{◌≡◌, ℕ, List, [], ◌∷◌, ◌++◌, Ok, sym, subst}
use Rattle.cdi_deploy.specs.Reading.{deployment_in}
use Rattle.cdi_deployment.specs.declared.deployment.Deployment.{Deployment}
use Rattle.cdi_deployment.specs.declared.deployment.Script.{Script as Declared}
use Rattle.cdi_prepare.specs.Ready.{Readied}
use Rattle.cdi_prepare.specs.Scripts.{Reads as ReadsScripts, scripts_after, scripts_in, told}
use Rattle.cdi_prepare.specs.declared.scripts.NamedScript.{NamedScript}
use Rattle.cdi_script.specs.Reading.{Reads}
use Rattle.cdi_script.specs.declared.step.Step.{Step}
use Rattle.cdi_problems.specs.Places.{name_text}
use Rattle.cdi_report.proofs.Readied.{IsMadeFrom, if_read}
use Rattle.cdi_script.proofs.Named.{AreNames, Named, named-on, script-named}
use Rattle.cdi_report.proofs.TrueNames.{read-named}

-- ---- scripts

told-named : {r : Reads (List Step)} (text : List ℕ) (name : ℕ) → Named r → Named (told text name r)
told-named text name (Named.ok are) = Named.ok are
told-named text name Named.err = Named.err

scripts-named : (done : List NamedScript) (names : List (List ℕ)) (ds : List Declared) → AreNames names → Named (scripts_after done names ds)
scripts-named done names [] are = Named.ok are
scripts-named done names (d ∷ ds) are =
    named-on (told-named (name_text names d.name) d.name (script-named names d.steps are)) (λ read h. scripts-named (done ++ read.0 ∷ []) read.1 ds h)

-- ---- the deployment

left-named : (r : ReadsScripts (List NamedScript)) (read : List NamedScript × List (List ℕ)) → r ≡ Ok read → Named r → AreNames read.1
left-named _ read e (Named.ok {read = found} are) =
    let same : found ≡ read = cc in
    subst (λ (x : List NamedScript × List (List ℕ)). AreNames x.1) same are
left-named _ read e Named.err = absurd cc

module _ (bytes : List ℕ) where
  pub made-named : (r : Readied) → IsMadeFrom bytes r → AreNames r.deployment.names
  made-named r made =
      let read : AreNames made.deployment.names = if_read (λ (d : Deployment). AreNames d.names) (deployment_in bytes) made.deployment (read-named bytes) made.was_read in
      let left : AreNames made.names = left-named (scripts_in made.deployment.names made.deployment.scripts) (r.scripts, made.names) made.scripts
      (scripts-named [] made.deployment.names made.deployment.scripts read) in
      subst (λ (x : Deployment). AreNames x.names) (sym made.is) left
