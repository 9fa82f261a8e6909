-- What the words of the command line ask for.
use Rattle.std.specs.Prelude.{◌≡◌, ◌≤◌, ◌&&◌, ◌||◌, ℕ, Bool, true, false, List, [], ◌∷◌, Option, Some, None, option_map, unwrap_or, codes, if◌then◌else◌}
use Rattle.std.specs.Option.{option_map_or}
use Rattle.std.specs.Str.{bytes_eq}
use Rattle.std.specs.Str.Parse.{digits_value, without_leading_plus}
use Rattle.clap.specs.Kinds.{or_else}
use Rattle.clap.specs.ValueTests.{is_unsigned_in}
use Rattle.clap.specs.Words.{App, Kinds, Row, Rule, Text, app_of, fault_of, first_of, new_app, new_rule, subcommand_of, with_rule, with_subcommand}
use Rattle.clap.specs.declared.builder.action.ArgAction.TheVariants.{Set, SetTrue}
use Rattle.clap.specs.declared.builder.command.Command.{Command}
use Rattle.clap.specs.declared.builder.command.Command.TheViews.{out-Command as fields_of}
use Rattle.clap.specs.declared.builder.value_parser.ValueParser.TheVariants.{Unsigned}
use Rattle.clap.specs.declared.error.kind.ErrorKind.TheVariants as kinds
use Rattle.cdi_base.specs.declared.settings.Order.{Order}
use Rattle.cdi_base.specs.declared.settings.Order.TheVariants as orders
use Rattle.cdi_base.specs.declared.settings.Settings.{Settings}
use Rattle.cdi_options.specs.declared.options.Mode.{Mode}
use Rattle.cdi_options.specs.declared.options.Mode.TheVariants as modes
use Rattle.cdi_options.specs.declared.options.Options.{Options}

-- ---- the form of the words

-- a text that has to be given
abbrev pub subject_rule : Text → Rule
subject_rule name = record (new_rule name) { required = true; action = Some Set }

-- an option with one value, of which the help tells a name
abbrev pub option_rule : Text → Rule
option_rule name =
    record (new_rule name) { long = Some name; value_names = 1; action = Some Set }

-- the value is a number from 1 to `most`
abbrev pub number_rule : Text → ℕ → Rule
number_rule name most = record (option_rule name) { parser = Some (Unsigned 1 most) }

abbrev pub flag_rule : Text → Rule
flag_rule name = record (new_rule name) { long = Some name; action = Some SetTrue }

-- a mode with what it is about
abbrev pub mode_form : Text → Text → App
mode_form name subject = with_rule (new_app name) (subject_rule subject)

-- a mode with the file of a deployment
abbrev pub file_form : Text → App
file_form name = mode_form name (codes "FILE")

-- how a check writes can be told by an option
abbrev pub check_form : App
check_form = with_rule (file_form (codes "check")) (flag_rule (codes "json"))

abbrev pub graph_form : App
graph_form = file_form (codes "graph")

abbrev pub explain_form : App
explain_form = mode_form (codes "explain") (codes "WORD")

-- what is set for a run can be told by options
abbrev pub run_form : App
run_form =
    with_rule (with_rule (with_rule (with_rule (with_rule (file_form (codes "run"))
    (number_rule (codes "ticks") 100000)) (number_rule (codes "depth") 1024))
    (option_rule (codes "order"))) (flag_rule (codes "trace"))) (number_rule (codes "slice") 100000)

-- a command is of this form, with no argument that other modes have too
pub record IsMode (of : App) (c : Command) : Type 0 where
  pub form : app_of c ≡ of
  pub none_global : (fields_of c).has_globals ≡ false

-- `cdi`, of which one subcommand has to be given, and which tells its version
abbrev pub bare_form : App
bare_form =
    let app = new_app (codes "cdi") in
    record app { top = record app.top { subcommand_required = true; has_version = true } }

-- the words that the program takes: `cdi check FILE`, `cdi run FILE` and its options, `cdi graph FILE`, or `cdi explain WORD`
abbrev pub form : App
form =
    with_subcommand (with_subcommand (with_subcommand (with_subcommand bare_form check_form.top)
    run_form.top) graph_form.top) explain_form.top

abbrev pub IsCommand : Command → Type 0
IsCommand c = app_of c ≡ form

-- ---- what stands in the words

-- the rows of the mode that the words name
abbrev pub rows_under : Option (Text × List Row) → List Row
rows_under found = option_map_or (λ f. f.1) found []

abbrev pub rows_in : List Text → List Row
rows_in words = rows_under (subcommand_of form words)

-- the mode of a subcommand
abbrev pub mode_of : Option Text → Mode
mode_of None = modes.Run
mode_of (Some name) =
    if bytes_eq name (codes "check") then modes.Check
    else if bytes_eq name (codes "graph") then modes.Graph
    else if bytes_eq name (codes "explain") then modes.Explain
    else modes.Run

-- the mode that the words name
abbrev pub mode_in : List Text → Mode
mode_in words = mode_of (option_map (λ found. found.0) (subcommand_of form words))

-- the file that the words name, if they name one
abbrev pub file_in : List Text → Text
file_in words = unwrap_or (first_of (codes "FILE") (rows_in words)) []

-- the word that they ask to explain, if they ask for one
abbrev pub word_in : List Text → Text
word_in words = unwrap_or (first_of (codes "WORD") (rows_in words)) []

-- the number in the text of an option, and without the option the usual one
abbrev pub number_of : ℕ → Option Text → ℕ
number_of usual None = usual
number_of usual (Some text) = digits_value 10 (without_leading_plus text)

-- the text of an option is a number from 1 to `most`, or there is no such option
abbrev pub is_number_to : ℕ → Option Text → Bool
is_number_to most None = true
is_number_to most (Some text) = is_unsigned_in 1 most text

-- the order of a text, and without one the first
abbrev pub order_of : Option Text → Order
order_of None = orders.First
order_of (Some text) = if bytes_eq text (codes "last") then orders.Last else orders.First

abbrev pub is_order : Option Text → Bool
is_order None = true
is_order (Some text) = bytes_eq text (codes "first") || bytes_eq text (codes "last")

-- the same, where they have a value that they can have
abbrev pub number_in_range : ℕ → ℕ → Option Text → Option ℕ
number_in_range usual most text =
    if is_number_to most text then Some (number_of usual text) else None

abbrev pub order_if_any : Option Text → Option Order
order_if_any text = if is_order text then Some (order_of text) else None

abbrev pub is_set : Option Text → Bool
is_set flag = option_map_or (λ text. bytes_eq text (codes "true")) flag false

abbrev pub depth_under : List Row → ℕ
depth_under rows = number_of 32 (first_of (codes "depth") rows)

abbrev pub ticks_under : List Row → ℕ
ticks_under rows = number_of 100000 (first_of (codes "ticks") rows)

abbrev pub order_under : List Row → Order
order_under rows = order_of (first_of (codes "order") rows)

abbrev pub trace_under : List Row → Bool
trace_under rows = is_set (first_of (codes "trace") rows)

abbrev pub json_under : List Row → Bool
json_under rows = is_set (first_of (codes "json") rows)

abbrev pub slice_under : List Row → ℕ
slice_under rows = number_of 100000 (first_of (codes "slice") rows)

-- a check writes JSON
abbrev pub json_in : List Text → Bool
json_in words = json_under (rows_in words)

-- what the words set: 32 levels, 100,000 entries, the first candidate, no trace and turns of 100,000 entries, if they say nothing
-- of it
abbrev pub depth_in : List Text → ℕ
depth_in words = depth_under (rows_in words)

abbrev pub ticks_in : List Text → ℕ
ticks_in words = ticks_under (rows_in words)

abbrev pub order_in : List Text → Order
order_in words = order_under (rows_in words)

abbrev pub trace_in : List Text → Bool
trace_in words = trace_under (rows_in words)

abbrev pub slice_in : List Text → ℕ
slice_in words = slice_under (rows_in words)

-- ---- what is wrong with them

-- each option that is there has a value that it can have (a number that is none, or out of its range, is a fault of the
-- form already)
abbrev pub are_values : List Row → Bool
are_values rows =
    is_number_to 1024 (first_of (codes "depth") rows)
    && (is_number_to 100000 (first_of (codes "ticks") rows)
    && (is_order (first_of (codes "order") rows)
    && is_number_to 100000 (first_of (codes "slice") rows)))

abbrev pub value_faults : List Row → Kinds
value_faults rows = if are_values rows then [] else kinds.InvalidValue ∷ []

-- what is asked for or wrong in the words, first by their form and then by the values of the options: none if they are of
-- the form and have such values
abbrev pub faults_in : List Text → Kinds
faults_in words = or_else (fault_of form words) (value_faults (rows_in words))

-- these settings, and this slice, are what the rows of a mode say
pub record Sets (rows : List Row) (settings : Settings) (slice : ℕ) : Type 0 where
  pub are_fit : are_values rows ≡ true
  pub depth : settings.limits.depth ≡ depth_under rows
  pub ticks : settings.limits.ticks ≡ ticks_under rows
  pub order : settings.order ≡ order_under rows
  pub shows_trace : settings.shows_trace ≡ trace_under rows
  pub slice_is : slice ≡ slice_under rows
  pub some_slice : 1 ≤ slice
  pub within_slice : slice ≤ 100000

-- the words are of the form, and this is what they name and set
pub record AsksFor (words : List Text) (options : Options) : Type 0 where
  pub is_fit : faults_in words ≡ []
  pub names_mode : options.mode ≡ mode_in words
  pub names : options.file.now ≡ file_in words
  pub explains : options.word.now ≡ word_in words
  pub writes_json : options.writes_json ≡ json_in words
  pub depth : options.settings.limits.depth ≡ depth_in words
  pub ticks : options.settings.limits.ticks ≡ ticks_in words
  pub order : options.settings.order ≡ order_in words
  pub shows_trace : options.settings.shows_trace ≡ trace_in words
  pub slice_is : options.slice ≡ slice_in words
  pub some_slice : 1 ≤ options.slice
  pub within_slice : options.slice ≤ 100000
