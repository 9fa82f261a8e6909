-- The scripts of a deployment.
use Rattle.std.specs.Prelude.{ℕ, ◌==◌, List, [], ◌∷◌, ◌++◌, Bool, Option, Result, Ok, Err, fold, if◌then◌else◌, slice_get, position, option_map, option_and_then}
use Rattle.std.specs.List.{list_any}
use Rattle.cdi_base.specs.Reading.{◌>>=◌}
use Rattle.cdi_bodies.specs.declared.shape.Shape.{Shape}
use Rattle.cdi_deployment.specs.declared.deployment.Script.{Script as Declared}
use Rattle.cdi_script.specs.declared.fault.ScriptFault.{ScriptFault}
use Rattle.cdi_script.specs.declared.step.Step.{Step}
use Rattle.cdi_script.specs.Build.{script_of}
use Rattle.cdi_script.specs.Listed.{shape_of}
use Rattle.cdi_prepare.specs.declared.scripts.BadScript.{BadScript}
use Rattle.cdi_prepare.specs.declared.scripts.NamedScript.{NamedScript}
use Rattle.cdi_problems.specs.Places.{name_text}

-- what reading gives, and the table of names after it
abbrev pub Reads : Type 0 → Type 0
Reads A = Result (A × List (List ℕ)) BadScript

-- a fault is told with the name of its script
abbrev pub told : List ℕ → ℕ → Result (List Step × List (List ℕ)) ScriptFault → Reads NamedScript
told text name (Ok read) = Ok (record { name = name; script = read.0 }, read.1)
told text name (Err fault) = Err (record { name = text; fault = fault })

-- the script of a declaration, and the table of names with those of the script
abbrev pub script_in : List (List ℕ) → Declared → Reads NamedScript
script_in names declared =
    told (name_text names declared.name) declared.name (script_of names declared.steps)

abbrev pub scripts_after : List NamedScript → List (List ℕ) → List Declared
    → Reads (List NamedScript)
scripts_after scripts names [] = Ok (scripts, names)
scripts_after scripts names (d ∷ ds) =
    script_in names d >>= λ read. scripts_after (scripts ++ read.0 ∷ []) read.1 ds

-- the scripts of the declarations, read in their order, or the first that is bad
abbrev pub scripts_in : List (List ℕ) → List Declared → Reads (List NamedScript)
scripts_in names declared = scripts_after [] names declared

-- ---- scripts as bodies

abbrev pub is_named : ℕ → NamedScript → Bool
is_named name s = s.name == name

-- a script whose name is there already isn't added
abbrev pub added : List NamedScript → NamedScript → List NamedScript
added scripts s = if list_any (is_named s.name) scripts then scripts else scripts ++ s ∷ []

-- the scripts that are registered as bodies
abbrev pub registered : List NamedScript → List NamedScript
registered scripts = fold added [] scripts

abbrev pub place_under : List NamedScript → ℕ → Option ℕ
place_under scripts name = position (is_named name) scripts

abbrev pub shape_at : List NamedScript → ℕ → Option Shape
shape_at scripts id = option_map (λ s. shape_of s.script) (slice_get scripts id)

abbrev pub shape_under : List NamedScript → ℕ → Option Shape
shape_under scripts name = option_and_then (shape_at scripts) (place_under scripts name)
