-- What is told of a body that isn't the name of a script.
use Rattle.std.specs.Prelude.{ℕ, ◌==◌, Bool, List, [], ◌++◌, codes, map, Option, if◌then◌else◌}
use Rattle.std.specs.List.{flat_map, list_any}
use Rattle.cdi_base.specs.declared.place.Place.{Place}
use Rattle.cdi_body_check.specs.Sites.{Site, body_of, sites_of}
use Rattle.cdi_deployment.specs.declared.deployment.Deployment.{Deployment}
use Rattle.cdi_problem_hints.specs.Scripts.{is_at}
use Rattle.cdi_problem_hints.specs.Sentences.{meant, suggestion}
use Rattle.cdi_problems.specs.Places.{name_text}
use Rattle.cdi_name_uses.specs.declared.step_name.ScriptNames.{ScriptNames}

abbrev pub script_names : List ScriptNames → List ℕ
script_names scripts = map (λ s. s.script) scripts

abbrev pub is_script : List ScriptNames → ℕ → Bool
is_script scripts name = list_any (λ s. s.script == name) scripts

-- the name, and the script that was probably meant
abbrev pub body_sentence : Deployment → List ScriptNames → ℕ → List ℕ
body_sentence d scripts body =
    codes "; no script is named " ++ (name_text d.names body
    ++ suggestion (meant d.names (script_names scripts) body))

-- nothing of a body that is one
abbrev pub body_text : Deployment → List ScriptNames → ℕ → List ℕ
body_text d scripts body = if is_script scripts body then [] else body_sentence d scripts body

abbrev pub body_text_at : Deployment → List ScriptNames → Option Place → Site → List ℕ
body_text_at d scripts place s = if is_at place s then body_text d scripts (body_of s) else []

-- of the bodies at a place
abbrev pub unknown_bodies_text : Deployment → List ScriptNames → Option Place → List ℕ
unknown_bodies_text d scripts place = flat_map (body_text_at d scripts place) (sites_of d)
