-- Which values are scripts.
use Rattle.std.specs.Prelude.{Bool, false, ◌&&◌, codes, nat_le, nat_lt, is_some, find, unwrap_or, Option, Some, None, if◌then◌else◌}
use Rattle.cdi_form.specs.Json.{is_word}
use Rattle.serde_json.specs.Data.{Data, array, Items, no_items, item}
use Rattle.serde_json.specs.Events.{items_len}
use Rattle.cdi_script.specs.declared.step.StepKind.{StepKind}
use Rattle.cdi_script.specs.Part.{are_parts}
use Rattle.cdi_script.specs.Reading.{all_items}
use Rattle.cdi_script.specs.Step.{Row, row_of, all_kinds}

-- the word of a row, and behind it the row's parts
abbrev pub fits : Row → Items → Bool
fits row (item word parts) =
    is_word word row.word && are_parts row.parts parts
fits row no_items = false

-- the kind of the step that these items are, a catch apart
abbrev pub kind_of : Items → Option StepKind
kind_of items = find (λ kind. fits (row_of kind) items) all_kinds

-- the items of the array inside a catch
abbrev pub caught_in : Data → Data → Option Items
caught_in word (array inner) =
    if is_word word (codes "catch") then Some inner else None
caught_in word _ = None

abbrev pub caught : Items → Option Items
caught (item word (item step no_items)) = caught_in word step
caught _ = None

-- the items of the step itself, which in a catch stands inside
abbrev pub plain_items : Items → Items
plain_items items = unwrap_or (caught items) items

abbrev pub is_step_in : Items → Bool
is_step_in items = is_some (kind_of (plain_items items))

abbrev pub is_step : Data → Bool
is_step (array items) = is_step_in items
is_step _ = false

-- each is a step
abbrev pub are_steps : Items → Bool
are_steps items = all_items is_step items

-- steps, but more than 256
abbrev pub are_too_many : Items → Bool
are_too_many items = are_steps items && nat_lt 256 (items_len items)

-- an array of steps
abbrev pub has_steps : Data → Bool
has_steps (array items) = are_steps items
has_steps _ = false

-- steps, at most 256
abbrev pub are_few_steps : Items → Bool
are_few_steps items = are_steps items && nat_le (items_len items) 256

-- an array of at most 256 steps
abbrev pub is_script : Data → Bool
is_script (array items) = are_few_steps items
is_script _ = false

-- an array of more steps than that
abbrev pub is_too_long : Data → Bool
is_too_long (array items) = are_too_many items
is_too_long _ = false
