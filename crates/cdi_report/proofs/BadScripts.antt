-- The text that tells a bad script is a name, since the table of names has the script's name.
use Rattle.std.proofs.Common.{◌≡◌, ◌≤◌, ◌<◌, ℕ, zero, suc, true, List, [], ◌∷◌, ◌++◌, length, length-append, Result, Ok, Err, IfOk, ap, arith}
use Rattle.std.proofs.lemmas.Bool.{and_parts}
use Rattle.std.proofs.lemmas.List.Elements.{All-head, All-tail}
use Rattle.std.specs.Prelude.{IfErr, IsTrue}
use Rattle.std.specs.List.{All, list_all}
use Rattle.cdi_base.proofs.Tables.{joins, stays}
use Rattle.cdi_base.specs.Name.{Extends, is_name}
use Rattle.cdi_base.specs.Reading.{◌>>=◌}
use Rattle.cdi_deploy.proofs.Readable.{read-knows}
use Rattle.cdi_deploy.specs.Reading.{deployment_in}
use Rattle.cdi_deploy.specs.declared.fault.ReadFault.{ReadFault}
use Rattle.cdi_deployment.specs.KnownNames.{KnowsNames}
use Rattle.cdi_deployment.specs.declared.deployment.Deployment.{Deployment}
use Rattle.cdi_deployment.specs.declared.deployment.Script.{Script as Declared}
use Rattle.cdi_prepare.specs.Scripts.{Reads, scripts_after, scripts_in, told}
use Rattle.cdi_prepare.specs.declared.scripts.BadScript.{BadScript}
use Rattle.cdi_prepare.specs.declared.scripts.NamedScript.{NamedScript}
use Rattle.cdi_script.proofs.Grown.{Grows, script-grows}
use Rattle.cdi_script.proofs.Named.{AreNames, Named, script-named}
use Rattle.cdi_script.specs.Reading.{Reads as ScriptReads}
use Rattle.cdi_script.specs.declared.step.Step.{Step}
use Rattle.cdi_problems.specs.Places.{name_text}
use Rattle.cdi_report.specs.BadScripts.{BadScriptsHaveNames}
use Rattle.cdi_report.proofs.TrueNames.{read-named}

-- a number of a table of names has a name
named-below : (names : List (List ℕ)) (n : ℕ) → AreNames names → n < length names → is_name (name_text names n) ≡ true
named-below [] n are below = absurd (omega (arith, below))
named-below (first ∷ names) zero are below = (and_parts (is_name first) (list_all is_name names) are).0
named-below (first ∷ names) (suc n) are below = named-below names n (and_parts (is_name first) (list_all is_name names) are).1 (omega (arith, below))

grows-by : (before after : List (List ℕ)) → Extends before after → length before ≤ length after
grows-by before after e =
    let same : length after ≡ length (before ++ e.more) = ap length e.is in
    omega (arith, same, length-append before e.more)

-- reading left a table that begins with these names and has only names, or it told a bad script by a name
data Tells {A : Type 0} (first : List (List ℕ)) : Reads A → Type 0 where
  ok : {read : A × List (List ℕ)} → Extends first read.1 → AreNames read.1 → Tells first (Ok read)
  err : {bad : BadScript} → is_name bad.name ≡ true → Tells first (Err bad)

told-tells : {first names : List (List ℕ)} {r : ScriptReads (List Step)} (text : List ℕ) (name : ℕ) → Extends first names → is_name text ≡ true → Grows names r → Named r → Tells first (told text name r)
told-tells text name more is (Grows.ok further) (Named.ok are) = Tells.ok (joins more further) are
told-tells text name more is Grows.err Named.err = Tells.err is

tells-on : {A B : Type 0} {first : List (List ℕ)} {r : Reads A} {next : A × List (List ℕ) → Reads B} → Tells first r
    → ((read : A × List (List ℕ)) → Extends first read.1 → AreNames read.1 → Tells first (next read)) → Tells first (r >>= next)
tells-on (Tells.ok {read = read} more are) rest = rest read more are
tells-on (Tells.err is) rest = Tells.err is

scripts-tell : (first : List (List ℕ)) (done : List NamedScript) (names : List (List ℕ)) (ds : List Declared) → Extends first names → AreNames names
    → All (λ s. s.name < length first) ds → Tells first (scripts_after done names ds)
scripts-tell first done names [] more are known = Tells.ok more are
scripts-tell first done names (d ∷ ds) more are known =
    let below : d.name < length names = omega (arith, All-head (λ (s : Declared). s.name < length first) d ds known, grows-by first names more) in
    let is = named-below names d.name are below in
    tells-on (told-tells (name_text names d.name) d.name more is (script-grows names d.steps) (script-named names d.steps are))
    (λ read further these. scripts-tell first (done ++ read.0 ∷ []) read.1 ds further these (All-tail (λ (s : Declared). s.name < length first) d ds known))

by_name : {A : Type 0} {first : List (List ℕ)} (r : Reads A) → Tells first r → IfErr r (λ bad. IsTrue (is_name bad.name))
by_name _ (Tells.ok more are) = tt
by_name _ (Tells.err is) = is

pub bad_scripts_have_names : BadScriptsHaveNames
bad_scripts_have_names bytes = by (deployment_in bytes) (read-knows bytes) (read-named bytes)
  where
    by : (found : Result Deployment ReadFault) → IfOk found KnowsNames → IfOk found (λ d. AreNames d.names) → IfOk found (λ d. IfErr (scripts_in d.names d.scripts) (λ bad. IsTrue (is_name bad.name)))
    by (Ok d) known are = by_name (scripts_in d.names d.scripts) (scripts-tell d.names [] d.names d.scripts (stays d.names) are known.scripts)
    by (Err fault) known are = tt
