-- Which kind of hint there is, by what reading the bytes gives.
use Rattle.std.specs.Prelude.{◌≡◌, ◌<◌, ℕ, List, Option, None, Result, Ok, Err, IfSome, IsSomeAnd}
use Rattle.cdi_base.specs.Reading.{◌>>=◌}
use Rattle.cdi_form.specs.Json.{json_in}
use Rattle.cdi_deploy.specs.Reading.{lists_of, or_not_json}
use Rattle.cdi_deployment.specs.declared.deployment.Deployment.{Deployment}
use Rattle.cdi_deploy.specs.declared.fault.ReadFault.{ReadFault}
use Rattle.cdi_deploy.specs.declared.fault.ReadFault.TheVariants as faults
use Rattle.cdi_form_mistakes.specs.declared.mistake.FormMistake.{FormMistake}
use Rattle.cdi_form_mistakes.specs.declared.mistake.FormMistake.TheVariants as form_mistakes
use Rattle.cdi_prepare.specs.declared.hint.Mistake.{Mistake}
use Rattle.cdi_prepare.specs.declared.hint.Mistake.TheVariants as mistakes

-- the text itself is wrong
abbrev pub IsSyntax : Mistake → Type 0
IsSyntax mistakes.Empty = Unit {0}
IsSyntax mistakes.ByteOrderMark = Unit {0}
IsSyntax mistakes.NotUtf8 = Unit {0}
IsSyntax mistakes.NotJson = Unit {0}
IsSyntax _ = ⊥

-- a value or a number is wrong
abbrev pub IsForm : Mistake → Type 0
IsForm (mistakes.Form mistake) = Unit {0}
IsForm _ = ⊥

-- a text in the place of a name is none
abbrev pub IsNoName : FormMistake → Type 0
IsNoName (form_mistakes.NoName text) = Unit {0}
IsNoName _ = ⊥

abbrev pub IsName : Mistake → Type 0
IsName (mistakes.Form mistake) = IsNoName mistake.mistake
IsName _ = ⊥

-- a value is wrong at this path
abbrev pub IsFormAt : List ℕ → Mistake → Type 0
IsFormAt path (mistakes.Form mistake) = mistake.path ≡ path
IsFormAt path _ = ⊥

-- a list that is longer than its limit
abbrev pub IsList : Mistake → Type 0
IsList (mistakes.List path length limit) = limit < length
IsList _ = ⊥

abbrev pub IsStep : Mistake → Type 0
IsStep (mistakes.Step path script mistake) = Unit {0}
IsStep _ = ⊥

-- the lists that bytes have, where they are a value whose names find room in their table
abbrev pub lists_in : List ℕ → Result Deployment ReadFault
lists_in bytes = or_not_json (json_in bytes) >>= lists_of

-- the text for NotJson, the wrong value for Shape and BadNumber, a name for BadName, a list for TooMany where there are lists, at most a step for a deployment, and else none
abbrev pub FitsReading : Result Deployment ReadFault → Result Deployment ReadFault → Option Mistake
    → Type 0
FitsReading lists (Err faults.NotJson) m = IsSomeAnd m IsSyntax
FitsReading lists (Err (faults.Shape path)) m = IsSomeAnd m (IsFormAt path)
FitsReading lists (Err faults.BadNumber) m = IsSomeAnd m IsForm
FitsReading lists (Err faults.BadName) m = IsSomeAnd m IsName
FitsReading (Ok deployment) (Err faults.TooMany) m = IsSomeAnd m IsList
FitsReading lists (Err _) m = m ≡ None
FitsReading lists (Ok deployment) m = IfSome m IsStep
