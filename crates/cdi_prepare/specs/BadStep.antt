-- The first step that is none, of the first script that isn't one.
use Rattle.std.specs.Prelude.{ℕ, ◌+◌, List, ◌++◌, codes, decimal, not, slice_get, Option, Some, None, option_map, option_and_then, if◌then◌else◌}
use Rattle.std.specs.List.{position_from}
use Rattle.serde_json.specs.Data.{Data, array, Items, no_items, item}
use Rattle.serde_json.specs.Find.{at}
use Rattle.cdi_deployment.specs.declared.deployment.Deployment.{Deployment}
use Rattle.cdi_deployment.specs.declared.deployment.Script.{Script}
use Rattle.cdi_script.specs.Form.{is_script, is_step}
use Rattle.cdi_problems.specs.Places.{name_text}
use Rattle.cdi_form_mistakes.specs.Steps.{step_mistake}
use Rattle.cdi_prepare.specs.declared.hint.Mistake.{Mistake}
use Rattle.cdi_prepare.specs.declared.hint.Mistake.TheVariants as mistakes

-- the index of the first item that is no step, where the first index is this
abbrev pub bad_item_from : ℕ → Items → Option ℕ
bad_item_from index no_items = None
bad_item_from index (item d ds) =
    if is_step d then bad_item_from (index + 1) ds else Some index

-- the place of a step
abbrev pub step_path : ℕ → ℕ → List ℕ
step_path index step =
    codes "/scripts/" ++ (decimal index ++ (codes "/steps/" ++ decimal step))

abbrev pub bad_step : Data → Option ℕ
bad_step (array ds) = bad_item_from 0 ds
bad_step _ = None

-- the value at an index of the steps of a script is no step
abbrev pub mistake_at : List ℕ → ℕ → Data → ℕ → Option Mistake
mistake_at name index steps step =
    option_map (λ d. mistakes.Step (step_path index step) name (step_mistake d)) (at step steps)

abbrev pub mistake_in : List (List ℕ) → ℕ → Script → Option Mistake
mistake_in names index s =
    option_and_then (mistake_at (name_text names s.name) index s.steps) (bad_step s.steps)

-- the first step that is none of the script with this index
abbrev pub script_mistake : Deployment → ℕ → Option Mistake
script_mistake d index = option_and_then (mistake_in d.names index) (slice_get d.scripts index)

abbrev pub first_bad_step : Deployment → Option Mistake
first_bad_step d =
    option_and_then (script_mistake d) (position_from (λ s. not (is_script s.steps)) 0 d.scripts)
