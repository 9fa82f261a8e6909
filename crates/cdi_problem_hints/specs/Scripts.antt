-- What is told of a script that names something that isn't there.
use Rattle.std.specs.Prelude.{ℕ, ◌==◌, Bool, false, List, [], ◌++◌, codes, decimal, find, Option, Some, None, if◌then◌else◌}
use Rattle.std.specs.List.{flat_map}
use Rattle.cdi_base.specs.declared.place.Place.{Place}
use Rattle.cdi_body_check.specs.Sites.{Site, body_of, place_of, sites_of}
use Rattle.cdi_deployment.specs.declared.deployment.Deployment.{Deployment}
use Rattle.cdi_problem_hints.specs.Sentences.{meant, suggestion}
use Rattle.cdi_problems.specs.Places.{name_text, same_place}
use Rattle.cdi_name_uses.specs.Known.{known_names}
use Rattle.cdi_name_uses.specs.UnknownStepName.{first_unknown}
use Rattle.cdi_name_uses.specs.declared.step_name.ScriptNames.{ScriptNames}
use Rattle.cdi_name_uses.specs.declared.step_name.StepGroup.{StepGroup}
use Rattle.cdi_name_uses.specs.declared.step_name.StepGroup.TheVariants as groups
use Rattle.cdi_name_uses.specs.declared.step_name.StepName.{StepName}

abbrev pub group_word : StepGroup → List ℕ
group_word groups.Field = codes "field"
group_word groups.InjectedField = codes "injected field"
group_word groups.Method = codes "method"
group_word groups.Class = codes "class"
group_word groups.Type = codes "type"
group_word groups.Exception = codes "exception"

-- a step of a script, a name that it uses, and what was probably meant
abbrev pub step_sentence : Deployment → ℕ → StepName → List ℕ
step_sentence d script u =
    codes "; step " ++ (decimal u.step ++ (codes " of script " ++ (name_text d.names script
    ++ (codes ": the " ++ (group_word u.group ++ (codes " " ++ (name_text d.names u.name
    ++ (codes " isn't declared"
    ++ suggestion (meant d.names (known_names d u.group) u.name)))))))))

-- that of its first name that isn't declared; if there is none, the script alone
abbrev pub script_sentence : Deployment → ℕ → Option StepName → List ℕ
script_sentence d script None = codes "; the script is " ++ name_text d.names script
script_sentence d script (Some u) = step_sentence d script u

-- the first script of a name
abbrev pub script_named : List ScriptNames → ℕ → Option ScriptNames
script_named scripts name = find (λ s. s.script == name) scripts

abbrev pub names_of : Option ScriptNames → List StepName
names_of None = []
names_of (Some s) = s.used

-- the names that it uses
abbrev pub names_under : List ScriptNames → ℕ → List StepName
names_under scripts name = names_of (script_named scripts name)

abbrev pub script_text : Deployment → List ScriptNames → ℕ → List ℕ
script_text d scripts body =
    script_sentence d body (first_unknown d (names_under scripts body))

-- what has a body stands at the place
abbrev pub is_at : Option Place → Site → Bool
is_at None s = false
is_at (Some place) s = same_place (place_of s) place

abbrev pub script_text_at : Deployment → List ScriptNames → Option Place → Site → List ℕ
script_text_at d scripts place s = if is_at place s then script_text d scripts (body_of s) else []

-- of the scripts that are the bodies at a place
abbrev pub scripts_text : Deployment → List ScriptNames → Option Place → List ℕ
scripts_text d scripts place = flat_map (script_text_at d scripts place) (sites_of d)
