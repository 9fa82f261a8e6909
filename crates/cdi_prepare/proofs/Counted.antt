-- A deployment that was read has at most 1,024 scripts.
use Rattle.std.proofs.Common.{◌≡◌, ℕ, ◌+◌, ◌≤◌, nat_le, Bool, true, false, ◌&&◌, List, [], ◌∷◌, ◌++◌, length, length-append, Result, Ok, Err, IfOk, refl, subst, arith}
use Rattle.cdi_base.specs.Reading.{◌>>=◌}
use Rattle.cdi_deployment.specs.declared.deployment.Deployment.{Deployment}
use Rattle.cdi_deployment.specs.declared.deployment.Script.{Script as Declared}
use Rattle.cdi_deployment.specs.Limits.{are_types_within, is_length_within, is_within}
use Rattle.cdi_deploy.proofs.Readable.{read-within}
use Rattle.cdi_deploy.specs.declared.fault.ReadFault.{ReadFault}
use Rattle.cdi_deploy.specs.Reading.{deployment_in}
use Rattle.cdi_script.specs.declared.fault.ScriptFault.{ScriptFault}
use Rattle.cdi_script.specs.declared.step.Step.{Step}
use Rattle.cdi_script.specs.Build.{script_of}
use Rattle.cdi_prepare.specs.declared.scripts.BadScript.{BadScript}
use Rattle.cdi_prepare.specs.declared.scripts.NamedScript.{NamedScript}
use Rattle.cdi_problems.specs.Places.{name_text}
use Rattle.cdi_prepare.specs.Scripts.{told, scripts_after, scripts_in}

pub weaker : {A E : Type 0} (P Q : A → Type 0) (r : Result A E) → ((x : A) → P x → Q x) → IfOk r P → IfOk r Q
weaker P Q (Ok x) step h = step x h
weaker P Q (Err e) step h = tt

front : (a b : Bool) → (a && b) ≡ true → a ≡ true
front true b e = refl
front false b e = absurd cc

back : (a b : Bool) → (a && b) ≡ true → b ≡ true
back true b e = e
back false b e = absurd cc

within-few : (d : Deployment) → is_within d ≡ true → length d.scripts ≤ 1024
within-few d e =
    let lengths : is_length_within d ≡ true = front _ _ (front _ _ (front _ _ (front _ _ (front _ _ e)))) in
    let scripts : nat_le (length d.scripts) 1024 ≡ true =
    back (are_types_within d) _ (front _ _ (front _ _ (front _ _ (front _ _ (front _ _ lengths))))) in
    grind (arith, scripts)

pub deployment-few : (bytes : List ℕ) → IfOk (deployment_in bytes) (λ d. length d.scripts ≤ 1024)
deployment-few bytes =
    weaker (λ d. is_within d ≡ true) (λ d. length d.scripts ≤ 1024) (deployment_in bytes) within-few (read-within bytes)

-- as many scripts are read as are declared
after-count : (ds : List Declared) (done : List NamedScript) (names : List (List ℕ)) → IfOk (scripts_after done names ds) (λ read. length read.0 ≡ length done + length ds)
after-count [] done names = omega arith
after-count (d ∷ ds) done names = by (script_of names d.steps) (λ more table. after-count ds more table)
  where
    script_with : List Step × List (List ℕ) → NamedScript
    script_with read = record { name = d.name; script = read.0 }

    later : (script : NamedScript) (r : Result (List NamedScript × List (List ℕ)) BadScript) → IfOk r (λ read. length read.0 ≡ length (done ++ script ∷ []) + length ds) → IfOk r (λ read. length read.0 ≡ length done + length (d ∷ ds))
    later script (Err bad) h = tt
    later script (Ok found) h = omega (arith, h, length-append done (script ∷ []))

    by : (r : Result (List Step × List (List ℕ)) ScriptFault) → ((more : List NamedScript) (table : List (List ℕ)) → IfOk (scripts_after more table ds) (λ read. length read.0 ≡ length more + length ds))
        → IfOk (told (name_text names d.name) d.name r >>= λ read. scripts_after (done ++ read.0 ∷ []) read.1 ds) (λ read. length read.0 ≡ length done + length (d ∷ ds))
    by (Err fault) count = tt
    by (Ok read) count = later (script_with read) (scripts_after (done ++ script_with read ∷ []) read.1 ds) (count (done ++ script_with read ∷ []) read.1)

pub scripts-count : (names : List (List ℕ)) (ds : List Declared) (scripts : List NamedScript) (table : List (List ℕ)) → scripts_in names ds ≡ Ok (scripts, table) → length scripts ≡ length ds
scripts-count names ds scripts table e =
    let count = subst (λ (r : Result (List NamedScript × List (List ℕ)) BadScript). IfOk r (λ read. length read.0 ≡ 0 + length ds)) e (after-count ds [] names) in
    omega (arith, count)

pub few-scripts : (bytes : List ℕ) (d : Deployment) → deployment_in bytes ≡ Ok d → length d.scripts ≤ 1024
few-scripts bytes d e = subst (λ (r : Result Deployment ReadFault). IfOk r (λ d. length d.scripts ≤ 1024)) e (deployment-few bytes)
