-- A deployment that was made ready has what was read but for its table of names, which begins with the one that was read.
use Rattle.std.proofs.Common.{◌≡◌, ℕ, List, [], ◌∷◌, ◌++◌, Result, Ok, Err, IfOk, refl, sym, subst, ap, ◌∙◌}
use Rattle.cdi_base.specs.Name.{Extends}
use Rattle.cdi_base.specs.Reading.{◌>>=◌}
use Rattle.cdi_base.proofs.Tables.{stays, joins}
use Rattle.cdi_deploy.specs.Reading.{deployment_in}
use Rattle.cdi_deploy.specs.declared.fault.ReadFault.{ReadFault}
use Rattle.cdi_deployment.specs.declared.deployment.Deployment.{Deployment}
use Rattle.cdi_deployment.specs.declared.deployment.Script.{Script as Declared}
use Rattle.cdi_prepare.specs.FaultText.{fault_line}
use Rattle.cdi_prepare.specs.Ready.{Readied, bad_script_line, or_line, readied_in, with_scripts}
use Rattle.cdi_prepare.specs.Scripts.{Reads, scripts_after, scripts_in, told}
use Rattle.cdi_prepare.specs.declared.scripts.NamedScript.{NamedScript}
use Rattle.cdi_script.proofs.Grown.{Grows, script-grows}
use Rattle.cdi_script.specs.Reading.{Reads as ScriptReads}
use Rattle.cdi_script.specs.declared.step.Step.{Step}
use Rattle.cdi_problems.specs.Places.{name_text}

-- what was read left a table that begins with these names
data Keeps {A : Type 0} (names : List (List ℕ)) : Reads A → Type 0 where
  ok : {read : A × List (List ℕ)} → Extends names read.1 → Keeps names (Ok read)
  err : {bad : _} → Keeps names (Err bad)

told-keeps : {names : List (List ℕ)} {r : ScriptReads (List Step)} (text : List ℕ) (name : ℕ) → Grows names r → Keeps names (told text name r)
told-keeps text name (Grows.ok first) = Keeps.ok first
told-keeps text name Grows.err = Keeps.err

keeps-more : {A : Type 0} {names table : List (List ℕ)} {r : Reads A} → Extends names table → Keeps table r → Keeps names r
keeps-more one (Keeps.ok two) = Keeps.ok (joins one two)
keeps-more one Keeps.err = Keeps.err

keeps-on : {A B : Type 0} {names : List (List ℕ)} {r : Reads A} {next : A × List (List ℕ) → Reads B} → Keeps names r
    → ((read : A × List (List ℕ)) → Keeps read.1 (next read)) → Keeps names (r >>= next)
keeps-on (Keeps.ok {read = read} first) rest = keeps-more first (rest read)
keeps-on Keeps.err rest = Keeps.err

scripts-keep : (done : List NamedScript) (names : List (List ℕ)) (ds : List Declared) → Keeps names (scripts_after done names ds)
scripts-keep done names [] = Keeps.ok (stays names)
scripts-keep done names (d ∷ ds) =
    keeps-on (told-keeps (name_text names d.name) d.name (script-grows names d.steps)) (λ read. scripts-keep (done ++ read.0 ∷ []) read.1 ds)

ok_is : {X E : Type 0} {x y : X} → ◌≡◌ {A = Result X E} (Ok x) (Ok y) → x ≡ y
ok_is {x = x} e = ap (λ (r : Result _ _). elim r [ Ok z ↦ z | Err f ↦ x ]) e

-- what holds of what was read
pub if_read : {X E : Type 0} (P : X → Type 0) (r : Result X E) (x : X) → IfOk r P → r ≡ Ok x → P x
if_read P r x h e = subst (λ (q : Result _ _). IfOk q P) e h

-- the deployment that was read, and the table that its scripts left
pub record IsMadeFrom (bytes : List ℕ) (r : Readied) : Type 0 where
  pub deployment : Deployment
  pub names : List (List ℕ)
  pub was_read : deployment_in bytes ≡ Ok deployment
  pub more : Extends deployment.names names
  pub is : r.deployment ≡ record deployment { names = names }
  pub scripts : scripts_in deployment.names deployment.scripts ≡ Ok (r.scripts, names)

pub made_from : (bytes : List ℕ) (r : Readied) → readied_in bytes ≡ Ok r → IsMadeFrom bytes r
made_from bytes r e = by-read (deployment_in bytes) refl e
  where
    by-scripts : (d : Deployment) → deployment_in bytes ≡ Ok d → (found : Reads (List NamedScript)) → scripts_in d.names d.scripts ≡ found → Keeps d.names found
        → (or_line bad_script_line found >>= λ read. Ok (record { deployment = record d { names = read.1 }; scripts = read.0 })) ≡ Ok r → IsMadeFrom bytes r
    by-scripts d was (Ok read) is (Keeps.ok more) e =
        let same = ok_is e in
        record {
          deployment = d;
          names = read.1;
          was_read = was;
          more = more;
          is = ap (λ (q : Readied). q.deployment) (sym same);
          scripts = is ∙ ap (λ (q : Readied). Ok (q.scripts, read.1)) same;
        }
    by-scripts d was (Err bad) is k e = absurd cc

    by-read : (found : Result Deployment ReadFault) → deployment_in bytes ≡ found → (or_line fault_line found >>= with_scripts) ≡ Ok r → IsMadeFrom bytes r
    by-read (Ok d) was e = by-scripts d was (scripts_in d.names d.scripts) refl (scripts-keep [] d.names d.scripts) e
    by-read (Err fault) was e = absurd cc
