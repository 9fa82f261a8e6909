-- Which hint there is for the bytes of a deployment.
use Rattle.std.specs.Prelude.{◌≡◌, ℕ, List, Option, Some, None, Result, Ok, Err, IfSome, IsSomeAnd, option_map}
use Rattle.std.specs.Bool.{MatchBool}
use Rattle.cdi_base.specs.declared.or_memory.OrMemory.{OrMemory}
use Rattle.cdi_base.specs.declared.or_memory.OrMemory.TheVariants as errors
use Rattle.cdi_form.specs.Json.{json_in}
use Rattle.serde_json.specs.Data.{Data}
use Rattle.cdi_deployment.specs.declared.deployment.Deployment.{Deployment}
use Rattle.cdi_deploy.specs.declared.fault.ReadFault.{ReadFault}
use Rattle.cdi_deploy.specs.declared.fault.ReadFault.TheVariants as faults
use Rattle.cdi_deploy.specs.Reading.{deployment_of, is_too_long, lists_of, root}
use Rattle.cdi_form_mistakes.specs.FormMistake.{form_mistake}
use Rattle.cdi_form_mistakes.specs.NameMistake.{name_mistake}
use Rattle.cdi_form_mistakes.specs.NumberMistake.{number_mistake}
use Rattle.cdi_positions.specs.Position.{IsPositionIn}
use Rattle.cdi_prepare.specs.BadStep.{first_bad_step}
use Rattle.cdi_prepare.specs.LongList.{first_long_list}
use Rattle.cdi_prepare.specs.Syntax.{IsSyntaxHint}
use Rattle.cdi_prepare.specs.declared.hint.Hint.{Hint}
use Rattle.cdi_prepare.specs.declared.hint.Mistake.{Mistake}
use Rattle.cdi_prepare.specs.declared.hint.Mistake.TheVariants as mistakes

abbrev pub bad_number : Data → Option Mistake
bad_number d = option_map mistakes.Form (number_mistake d)

abbrev pub bad_form : Data → Option Mistake
bad_form d = option_map mistakes.Form (form_mistake d root)

abbrev pub bad_name : Data → Option Mistake
bad_name d = option_map mistakes.Form (name_mistake d root)

-- lists can't be read where the names are too many for their table
abbrev pub long_list_in : Result Deployment ReadFault → Option Mistake
long_list_in (Ok deployment) = first_long_list deployment
long_list_in (Err fault) = None

abbrev pub long_list : Data → Option Mistake
long_list d = long_list_in (lists_of d)

-- what is wrong with a value, by its lists and what reading it gives
abbrev pub mistake_by : Data → Result Deployment ReadFault → Result Deployment ReadFault
    → Option Mistake
mistake_by d lists (Ok deployment) = first_bad_step deployment
mistake_by d lists (Err faults.BadNumber) = bad_number d
mistake_by d lists (Err (faults.Shape path)) = bad_form d
mistake_by d lists (Err faults.BadName) = bad_name d
mistake_by d lists (Err faults.TooMany) = long_list_in lists
mistake_by d lists (Err _) = None

unfoldable pub mistake_of : Data → Option Mistake
mistake_of d = mistake_by d (lists_of d) (deployment_of d)

-- what is wrong with the value of bytes, and if it is known, where it begins
abbrev pub IsHintOf : List ℕ → Data → Option Hint → Type 0
IsHintOf bytes d hint =
    (option_map (λ h. h.mistake) hint ≡ mistake_of d)
    × IfSome hint (λ h. IfSome h.position (IsPositionIn bytes))

-- what is wrong with bytes that are no JSON text, and else with their value
abbrev pub IsHintBy : List ℕ → Option Data → Option Hint → Type 0
IsHintBy bytes None hint = IsSomeAnd hint (IsSyntaxHint bytes)
IsHintBy bytes (Some d) hint = IsHintOf bytes d hint

-- none for too many bytes
abbrev pub IsHintFor : List ℕ → Option Hint → Type 0
IsHintFor bytes hint =
    MatchBool (is_too_long bytes) (hint ≡ None) (IsHintBy bytes (json_in bytes) hint)

-- why bytes have no value: memory ran out, or they are no JSON text
abbrev pub IsNoValue : List ℕ → OrMemory Hint → Type 0
IsNoValue bytes (errors.Fault hint) = (json_in bytes ≡ None) × IsSyntaxHint bytes hint
IsNoValue bytes errors.Memory = Unit {0}

abbrev pub HasPlace : OrMemory Hint → Type 0
HasPlace (errors.Fault hint) = Unit {0}
HasPlace errors.Memory = ⊥
