-- The script that a value is, with the table of names that it is read into.
use Rattle.std.specs.Prelude.{ℕ, List, nat_le, is_some, Option, Some, None, Ok, Err, if◌then◌else◌}
use Rattle.cdi_base.specs.Reading.{◌>>=◌}
use Rattle.serde_json.specs.Data.{Data, array, Items, no_items, item}
use Rattle.serde_json.specs.Events.{items_len}
use Rattle.cdi_script.specs.declared.fault.ScriptFault.TheVariants.{BadStep, TooLong}
use Rattle.cdi_script.specs.declared.step.Action.{Action}
use Rattle.cdi_script.specs.declared.step.Step.{Step}
use Rattle.cdi_script.specs.declared.step.StepKind.{StepKind}
use Rattle.cdi_script.specs.Form.{kind_of, caught, plain_items, are_steps}
use Rattle.cdi_script.specs.Part.{no_parts, with_parts}
use Rattle.cdi_script.specs.Reading.{Reads, each}
use Rattle.cdi_script.specs.Step.{row_of, action_of}

-- what stands behind the word
abbrev pub behind_word : Items → Items
behind_word (item word parts) = parts
behind_word no_items = no_items

-- the action that these items are as a step of a kind
abbrev pub action_as : Option StepKind → List (List ℕ) → Items → Reads Action
action_as (Some kind) names items =
    with_parts no_parts names (row_of kind).parts (behind_word items)
    >>= λ read. Ok (action_of kind read.0, read.1)
action_as None names items = Err BadStep

unfoldable pub action_in : List (List ℕ) → Items → Reads Action
action_in names items = action_as (kind_of items) names items

abbrev pub step_in : List (List ℕ) → Items → Reads Step
step_in names items =
    action_in names (plain_items items)
    >>= λ read. Ok (record { is_catch = is_some (caught items); action = read.0 }, read.1)

abbrev pub step_of : List (List ℕ) → Data → Reads Step
step_of names (array items) = step_in names items
step_of names _ = Err BadStep

-- the steps, where each is one and they are at most 256
abbrev pub steps_of : List (List ℕ) → Items → Reads (List Step)
steps_of names items =
    if are_steps items then
    (if nat_le (items_len items) 256 then each step_of names items else Err TooLong)
    else Err BadStep

-- the script that a value is
abbrev pub script_of : List (List ℕ) → Data → Reads (List Step)
script_of names (array items) = steps_of names items
script_of names _ = Err BadStep
