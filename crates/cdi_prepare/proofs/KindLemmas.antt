-- The kind of a hint fits what reading gives.
use Rattle.std.proofs.Common.{◌≡◌, ◌∙◌, ℕ, ◌==◌, Bool, true, false, not, List, length, Option, Some, None, option_map, option_and_then, Result, Ok, Err, IfSome, IsSomeAnd, slice_get, if◌then◌else◌, refl, sym, ap, subst}
use Rattle.std.specs.Bool.{MatchBool}
use Rattle.std.specs.Option.{is_none}
use Rattle.std.specs.Str.{is_utf8}
use Rattle.cdi_base.specs.Reading.{◌>>=◌}
use Rattle.cdi_form.specs.Json.{json_in}
use Rattle.serde_json.specs.Data.{Data}
use Rattle.serde_json.specs.Find.{at}
use Rattle.std.specs.List.{position_from}
use Rattle.cdi_deployment.specs.declared.deployment.Deployment.{Deployment}
use Rattle.cdi_deployment.specs.declared.deployment.Script.{Script}
use Rattle.cdi_deploy.specs.declared.fault.ReadFault.{ReadFault}
use Rattle.cdi_deploy.specs.declared.fault.ReadFault.TheVariants as faults
use Rattle.cdi_deployment.specs.Limits.{is_within}
use Rattle.cdi_form.specs.Names.{first_bad_name, names_fit}
use Rattle.cdi_form.specs.Numbers.{numbers_fit}
use Rattle.cdi_form.specs.Shape.{wrong}
use Rattle.cdi_deploy.specs.Reading.{is_too_long, or_not_json, or_shape, root, within_limits, lists_of, deployment_of, deployment_in}
use Rattle.cdi_script.specs.Form.{is_script}
use Rattle.cdi_problems.specs.Places.{name_text}
use Rattle.cdi_form_mistakes.specs.declared.mistake.FormMistake.{FormMistake}
use Rattle.cdi_form_mistakes.specs.declared.mistake.PlacedMistake.{PlacedMistake}
use Rattle.cdi_form_mistakes.specs.FormMistake.{form_mistake}
use Rattle.cdi_form_mistakes.specs.NameMistake.{name_mistake}
use Rattle.cdi_form_mistakes.specs.NumberMistake.{number_mistake}
use Rattle.cdi_form_mistakes.proofs.FormPlaces.{form-place}
use Rattle.cdi_form_mistakes.proofs.NamesFound.{name-found}
use Rattle.cdi_form_mistakes.proofs.NumbersFound.{number-found}
use Rattle.cdi_form_mistakes.specs.Steps.{step_mistake}
use Rattle.cdi_prepare.specs.BadStep.{bad_step, mistake_at, mistake_in, script_mistake, step_path}
use Rattle.cdi_prepare.specs.Hint.{IsHintBy, IsHintFor, bad_form, bad_name, bad_number, mistake_by, mistake_of}
use Rattle.cdi_prepare.specs.Kinds.{FitsReading, IsForm, IsFormAt, IsList, IsName, IsNoName, IsStep, IsSyntax, lists_in}
use Rattle.cdi_prepare.specs.LongList.{first_long_list}
use Rattle.cdi_prepare.specs.Syntax.{IsSyntaxHint, has_mark}
use Rattle.cdi_prepare.specs.declared.hint.Hint.{Hint}
use Rattle.cdi_prepare.specs.declared.hint.Mistake.{Mistake}
use Rattle.cdi_prepare.specs.declared.hint.Mistake.TheVariants as mistakes
use Rattle.cdi_prepare.proofs.LongLists.{deployment-none}
use Rattle.cdi_prepare.proofs.Longer.{first-longer}
use Rattle.cdi_prepare.proofs.Full.{OnlyFull, lists_full}

-- ---- lists

list_where : (o : Option Mistake) → IfSome o IsList → is_none o ≡ false → IsSomeAnd o IsList
list_where None list h = absurd cc
list_where (Some hint) list h = list

list_for : (d : Deployment) → is_within d ≡ false → IsSomeAnd (first_long_list d) IsList
list_for d beyond = list_where (first_long_list d) (first-longer d) (sym (deployment-none d) ∙ beyond)

-- ---- steps

step_at : (name : List ℕ) (index step : ℕ) (o : Option Data)
    → IfSome (option_map (λ d. mistakes.Step (step_path index step) name (step_mistake d)) o) IsStep
step_at name index step None = tt
step_at name index step (Some d) = tt

step_in : (name : List ℕ) (index : ℕ) (steps : Data) (o : Option ℕ) → IfSome (option_and_then (mistake_at name index steps) o) IsStep
step_in name index steps None = tt
step_in name index steps (Some step) = step_at name index step (at step steps)

step_of : (names : List (List ℕ)) (index : ℕ) (o : Option Script) → IfSome (option_and_then (mistake_in names index) o) IsStep
step_of names index None = tt
step_of names index (Some s) = step_in (name_text names s.name) index s.steps (bad_step s.steps)

step_for : (d : Deployment) (o : Option ℕ) → IfSome (option_and_then (script_mistake d) o) IsStep
step_for d None = tt
step_for d (Some index) = step_of d.names index (slice_get d.scripts index)

-- ---- the form

form_at : (o : Option PlacedMistake) (path : List ℕ) → option_map (λ m. m.path) o ≡ Some path → IsSomeAnd (option_map mistakes.Form o) (IsFormAt path)
form_at None path h = absurd cc
form_at (Some m) path h = cc

form_where : (o : Option PlacedMistake) → is_none o ≡ false → IsSomeAnd (option_map mistakes.Form o) IsForm
form_where None h = absurd cc
form_where (Some m) h = tt

number_for : (d : Data) → numbers_fit d ≡ false → IsSomeAnd (bad_number d) IsForm
number_for d unfit = form_where (number_mistake d) (number-found d ∙ unfit)

form_for : (d : Data) (path : List ℕ) → wrong d root ≡ Some path → IsSomeAnd (bad_form d) (IsFormAt path)
form_for d path is = form_at (form_mistake d root) path (form-place d root ∙ is)

name_by : (o : Option PlacedMistake) (text : Option (List ℕ)) → option_map (λ m. m.mistake) o ≡ option_map FormMistake.NoName text
    → is_none text ≡ false → IsSomeAnd (option_map mistakes.Form o) IsName
name_by o None found h = absurd cc
name_by None (Some s) found h = absurd cc
name_by (Some m) (Some s) found h = let same : m.mistake ≡ FormMistake.NoName s = cc in subst IsNoName (sym same) tt

name_for : (d : Data) → names_fit d root ≡ false → IsSomeAnd (bad_name d) IsName
name_for d unfit = name_by (name_mistake d root) (first_bad_name d root) (name-found d root) unfit

-- ---- texts

syntax_by : (empty mark text : Bool)
    → IsSyntax (if empty then mistakes.Empty else (if mark then mistakes.ByteOrderMark else (if text then mistakes.NotJson else mistakes.NotUtf8)))
syntax_by true mark text = tt
syntax_by false true text = tt
syntax_by false false true = tt
syntax_by false false false = tt

syntax_in : (bytes : List ℕ) (hint : Option Hint) → IsSomeAnd hint (IsSyntaxHint bytes) → IsSomeAnd (option_map (λ h. h.mistake) hint) IsSyntax
syntax_in bytes None h = h
syntax_in bytes (Some hint) h = subst IsSyntax (sym h.0) (syntax_by (length bytes == 0) (has_mark bytes) (is_utf8 bytes))

-- ---- values

-- (lists are looked at by cases in FitsReading, so each place has its own)
shape_fits : (lists : Result Deployment ReadFault) (path : List ℕ) (m : Option Mistake) → IsSomeAnd m (IsFormAt path) → FitsReading lists (Err (faults.Shape path)) m
shape_fits (Ok deployment) path m is = is
shape_fits (Err fault) path m is = is

number_fits : (lists : Result Deployment ReadFault) (m : Option Mistake) → IsSomeAnd m IsForm → FitsReading lists (Err faults.BadNumber) m
number_fits (Ok deployment) m is = is
number_fits (Err fault) m is = is

name_fits : (lists : Result Deployment ReadFault) (m : Option Mistake) → IsSomeAnd m IsName → FitsReading lists (Err faults.BadName) m
name_fits (Ok deployment) m is = is
name_fits (Err fault) m is = is

long_fits : (lists : Result Deployment ReadFault) (hint : Option Hint) → hint ≡ None → FitsReading lists (Err faults.TooLong) (option_map (λ h. h.mistake) hint)
long_fits (Ok deployment) hint none = ap (option_map (λ (h : Hint). h.mistake)) none
long_fits (Err fault) hint none = ap (option_map (λ (h : Hint). h.mistake)) none

limits_fit : (d : Data) (deployment : Deployment) (b : Bool) → is_within deployment ≡ b
    → let read : Result Deployment ReadFault = if b then Ok deployment else Err faults.TooMany in
    FitsReading (Ok deployment) read (mistake_by d (Ok deployment) read)
limits_fit d deployment true within = step_for deployment (position_from (λ s. not (is_script s.steps)) 0 deployment.scripts)
limits_fit d deployment false within = list_for deployment within

full_fits : (d : Data) (fault : ReadFault) → OnlyFull {X = Deployment} (Err fault)
    → FitsReading (Err fault) (Err fault) (mistake_by d (Err fault) (Err fault))
full_fits d faults.TooMany h = refl
full_fits d _ h = absurd h

lists_fit : (d : Data) (lists : Result Deployment ReadFault) → OnlyFull lists
    → FitsReading lists (lists >>= within_limits) (mistake_by d lists (lists >>= within_limits))
lists_fit d (Ok deployment) h = limits_fit d deployment (is_within deployment) refl
lists_fit d (Err fault) h = full_fits d fault h

value_fits_by : (d : Data) (numbers : Bool) (place : Option (List ℕ)) (names : Bool)
    → numbers_fit d ≡ numbers → wrong d root ≡ place → names_fit d root ≡ names
    → let read : Result Deployment ReadFault =
    if not numbers then Err faults.BadNumber
    else or_shape place (if not names then Err faults.BadName else lists_of d >>= within_limits) in
    FitsReading (lists_of d) read (mistake_by d (lists_of d) read)
value_fits_by d false place names whole form fit = number_fits (lists_of d) (bad_number d) (number_for d whole)
value_fits_by d true (Some path) names whole form fit = shape_fits (lists_of d) path (bad_form d) (form_for d path form)
value_fits_by d true None false whole form fit = name_fits (lists_of d) (bad_name d) (name_for d fit)
value_fits_by d true None true whole form fit = lists_fit d (lists_of d) (lists_full d)

value_fits : (d : Data) → FitsReading (lists_of d) (deployment_of d) (mistake_of d)
unfolding deployment_of mistake_of
value_fits d = value_fits_by d (numbers_fit d) (wrong d root) (names_fit d root) refl refl refl

-- ---- bytes

bytes_fit_by : (bytes : List ℕ) (long : Bool) (read : Option Data) (hint : Option Hint)
    → MatchBool long (hint ≡ None) (IsHintBy bytes read hint)
    → FitsReading (or_not_json read >>= lists_of)
    (if long then Err faults.TooLong else or_not_json read >>= deployment_of) (option_map (λ h. h.mistake) hint)
bytes_fit_by bytes true read hint is = long_fits (or_not_json read >>= lists_of) hint is
bytes_fit_by bytes false None hint is = syntax_in bytes hint is
bytes_fit_by bytes false (Some d) hint is = subst (FitsReading (lists_of d) (deployment_of d)) (sym is.0) (value_fits d)

pub bytes_fit : (bytes : List ℕ) (hint : Option Hint) → IsHintFor bytes hint
    → FitsReading (lists_in bytes) (deployment_in bytes) (option_map (λ h. h.mistake) hint)
unfolding deployment_in
bytes_fit bytes hint is = bytes_fit_by bytes (is_too_long bytes) (json_in bytes) hint is
