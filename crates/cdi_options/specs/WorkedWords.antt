-- Worked words: what they ask for, by computing the definitions.
use Rattle.std.specs.Prelude.{◌≡◌, ℕ, Bool, true, false, List, [], ◌∷◌, codes}
use Rattle.clap.specs.Words.{Kinds, Text}
use Rattle.clap.specs.declared.error.kind.ErrorKind.{ErrorKind}
use Rattle.clap.specs.declared.error.kind.ErrorKind.TheVariants as kinds
use Rattle.cdi_base.specs.declared.settings.Order.{Order}
use Rattle.cdi_base.specs.declared.settings.Order.TheVariants as orders
use Rattle.cdi_options.specs.Options.{depth_in, faults_in, file_in, json_in, mode_in, order_in, slice_in, ticks_in, trace_in, word_in}
use Rattle.cdi_options.specs.declared.options.Mode.{Mode}
use Rattle.cdi_options.specs.declared.options.Mode.TheVariants as modes

-- what words ask for, and what is wrong with them
pub record Asked : Type 0 where
  pub faults : Kinds
  pub mode : Mode
  pub file : Text
  pub word : Text
  pub writes_json : Bool
  pub depth : ℕ
  pub ticks : ℕ
  pub order : Order
  pub shows_trace : Bool
  pub slice : ℕ

-- of the words behind the program's name
abbrev pub asked_by : List Text → Asked
asked_by words =
    let all = codes "cdi" ∷ words in
    record {
      faults = faults_in all;
      mode = mode_in all;
      file = file_in all;
      word = word_in all;
      writes_json = json_in all;
      depth = depth_in all;
      ticks = ticks_in all;
      order = order_in all;
      shows_trace = trace_in all;
      slice = slice_in all;
    }

-- the words are fit, and ask for this mode of the file `a.json`, with nothing set
abbrev pub Ask : List Text → Mode → Type 0
Ask words mode = asked_by words ≡ record {
  faults = [];
  mode = mode;
  file = codes "a.json";
  word = [];
  writes_json = false;
  depth = 32;
  ticks = 100000;
  order = orders.First;
  shows_trace = false;
  slice = 100000;
}

-- the words are fit, and ask for a run of the file `a.json` with this set
abbrev pub SetSo : List Text → ℕ → ℕ → Order → Bool → Type 0
SetSo words depth ticks order trace = asked_by words ≡ record {
  faults = [];
  mode = modes.Run;
  file = codes "a.json";
  word = [];
  writes_json = false;
  depth = depth;
  ticks = ticks;
  order = order;
  shows_trace = trace;
  slice = 100000;
}

-- the words are fit, and ask for a run of the file `a.json` by turns of so many entries
abbrev pub TurnSo : List Text → ℕ → Type 0
TurnSo words slice = asked_by words ≡ record {
  faults = [];
  mode = modes.Run;
  file = codes "a.json";
  word = [];
  writes_json = false;
  depth = 32;
  ticks = 100000;
  order = orders.First;
  shows_trace = false;
  slice = slice;
}

-- the words are fit, and ask for this mode of the file with this name
abbrev pub Names : List Text → Mode → Text → Type 0
Names words mode file =
    let asked = asked_by words in
    (asked.faults ≡ []) × (asked.mode ≡ mode) × (asked.file ≡ file)

-- the words are fit, and ask for the meaning of this word
abbrev pub ExplainSo : List Text → Text → Type 0
ExplainSo words word = asked_by words ≡ record {
  faults = [];
  mode = modes.Explain;
  file = [];
  word = word;
  writes_json = false;
  depth = 32;
  ticks = 100000;
  order = orders.First;
  shows_trace = false;
  slice = 100000;
}

-- the words of a run
abbrev pub run : List Text → List Text
run words = codes "run" ∷ words

-- a run of the file with words behind it
abbrev pub behind : List Text → List Text
behind words = run (codes "a.json" ∷ words)

-- a run of the file with an option and its value, before the file
abbrev pub before : Text → Text → List Text
before name value = run (name ∷ value ∷ codes "a.json" ∷ [])

-- a run of the file with two words of options, one before the file and one behind it
abbrev pub twice : Text → Text → List Text
twice one other = run (one ∷ codes "a.json" ∷ other ∷ [])

-- what asks for nothing to run, behind the program's name
abbrev pub FailBy : List Text → ErrorKind → Type 0
FailBy words fault = faults_in (codes "cdi" ∷ words) ≡ fault ∷ []

-- a check with this option is refused
abbrev pub CheckRefuses : Text → Type 0
CheckRefuses option = FailBy (codes "check" ∷ codes "a.json" ∷ option ∷ []) kinds.UnknownArgument

-- words that ask for a mode, for help or the version, or that are wrong
pub record WorkedModes : Type 0 where
  pub plain_run : Ask (behind []) modes.Run
  pub plain_check : Ask (codes "check" ∷ codes "a.json" ∷ []) modes.Check
  pub plain_graph : Ask (codes "graph" ∷ codes "a.json" ∷ []) modes.Graph
  pub input_to_check : Names (codes "check" ∷ codes "-" ∷ []) modes.Check (codes "-")
  pub input_to_graph : Names (codes "graph" ∷ codes "-" ∷ []) modes.Graph (codes "-")
  pub dash_to_run : Names (run (codes "-" ∷ [])) modes.Run (codes "-")
  pub behind_dashes : Ask (run (codes "--" ∷ codes "a.json" ∷ [])) modes.Run
  pub dash_behind_dashes :
      file_in (codes "cdi" ∷ run (codes "--" ∷ codes "-a" ∷ [])) ≡ codes "-a"
  pub help : FailBy (codes "--help" ∷ []) kinds.DisplayHelp
  pub help_of_run : FailBy (run (codes "-h" ∷ [])) kinds.DisplayHelp
  pub help_of_check : FailBy (codes "check" ∷ codes "-h" ∷ []) kinds.DisplayHelp
  pub version : FailBy (codes "--version" ∷ []) kinds.DisplayVersion
  pub none : FailBy [] kinds.MissingSubcommand
  pub no_file : FailBy (run []) kinds.MissingRequiredArgument
  pub no_file_to_check : FailBy (codes "check" ∷ []) kinds.MissingRequiredArgument
  pub no_file_to_graph : FailBy (codes "graph" ∷ []) kinds.MissingRequiredArgument
  pub no_json_of_graph :
      FailBy (codes "graph" ∷ codes "a.json" ∷ codes "--json" ∷ []) kinds.UnknownArgument
  pub no_file_but_options :
      FailBy (run (codes "--trace" ∷ codes "--ticks" ∷ codes "5" ∷ [])) kinds.MissingRequiredArgument
  pub two_files : FailBy (behind (codes "b" ∷ [])) kinds.UnknownArgument
  pub unknown : FailBy (behind (codes "--fast" ∷ [])) kinds.UnknownArgument

-- words that ask for a check that writes JSON
abbrev pub CheckAsJson : List Text → Type 0
CheckAsJson words = asked_by words ≡ record {
  faults = [];
  mode = modes.Check;
  file = codes "a.json";
  word = [];
  writes_json = true;
  depth = 32;
  ticks = 100000;
  order = orders.First;
  shows_trace = false;
  slice = 100000;
}

-- words that ask for a check as JSON
pub record WorkedJson : Type 0 where
  pub behind_file : CheckAsJson (codes "check" ∷ codes "a.json" ∷ codes "--json" ∷ [])
  pub before_file : CheckAsJson (codes "check" ∷ codes "--json" ∷ codes "a.json" ∷ [])
  pub not_of_run : FailBy (behind (codes "--json" ∷ [])) kinds.UnknownArgument
  pub no_value : FailBy (codes "check" ∷ codes "a.json" ∷ codes "--json=1" ∷ []) kinds.TooManyValues

-- words that ask for an explanation
pub record WorkedExplanations : Type 0 where
  pub word : ExplainSo (codes "explain" ∷ codes "Ambiguous" ∷ []) (codes "Ambiguous")
  pub number : ExplainSo (codes "explain" ∷ codes "P17" ∷ []) (codes "P17")
  pub no_word : FailBy (codes "explain" ∷ []) kinds.MissingRequiredArgument
  pub two_words :
      FailBy (codes "explain" ∷ codes "P1" ∷ codes "P2" ∷ []) kinds.UnknownArgument
  pub option_of_run :
      FailBy (codes "explain" ∷ codes "P1" ∷ codes "--trace" ∷ []) kinds.UnknownArgument

-- words that set something for a run
pub record WorkedSettings : Type 0 where
  pub ticks : SetSo (behind (codes "--ticks" ∷ codes "5" ∷ [])) 32 5 orders.First false
  pub ticks_before : SetSo (before (codes "--ticks") (codes "5")) 32 5 orders.First false
  pub ticks_joined : SetSo (behind (codes "--ticks=5" ∷ [])) 32 5 orders.First false
  pub fewest_ticks : SetSo (before (codes "--ticks") (codes "1")) 32 1 orders.First false
  pub most_ticks : SetSo (before (codes "--ticks") (codes "100000")) 32 100000 orders.First false
  pub ticks_with_plus : SetSo (before (codes "--ticks") (codes "+07")) 32 7 orders.First false
  pub depth : SetSo (behind (codes "--depth" ∷ codes "7" ∷ [])) 7 100000 orders.First false
  pub depth_before : SetSo (before (codes "--depth") (codes "7")) 7 100000 orders.First false
  pub least_depth : SetSo (before (codes "--depth") (codes "1")) 1 100000 orders.First false
  pub most_depth : SetSo (before (codes "--depth") (codes "1024")) 1024 100000 orders.First false
  pub order : SetSo (behind (codes "--order" ∷ codes "last" ∷ [])) 32 100000 orders.Last false
  pub order_before : SetSo (before (codes "--order") (codes "last")) 32 100000 orders.Last false
  pub order_first : SetSo (before (codes "--order") (codes "first")) 32 100000 orders.First false
  pub trace : SetSo (behind (codes "--trace" ∷ [])) 32 100000 orders.First true
  pub trace_before : SetSo (run (codes "--trace" ∷ codes "a.json" ∷ [])) 32 100000 orders.First true
  pub slice : TurnSo (behind (codes "--slice" ∷ codes "3" ∷ [])) 3
  pub slice_before : TurnSo (before (codes "--slice") (codes "1000")) 1000
  pub least_slice : TurnSo (before (codes "--slice") (codes "1")) 1
  pub most_slice : TurnSo (before (codes "--slice") (codes "100000")) 100000
  pub all :
      SetSo (run (codes "--trace" ∷ codes "--order=last" ∷ codes "a.json" ∷ codes "--depth"
      ∷ codes "2" ∷ codes "--ticks=3" ∷ [])) 2 3 orders.Last true

-- options of a run that are wrong
pub record WrongSettings : Type 0 where
  pub no_ticks : FailBy (before (codes "--ticks") (codes "0")) kinds.ValueValidation
  pub many_ticks : FailBy (before (codes "--ticks") (codes "100001")) kinds.ValueValidation
  pub no_depth : FailBy (before (codes "--depth") (codes "0")) kinds.ValueValidation
  pub great_depth : FailBy (before (codes "--depth") (codes "1025")) kinds.ValueValidation
  pub no_slice : FailBy (before (codes "--slice") (codes "0")) kinds.ValueValidation
  pub great_slice : FailBy (before (codes "--slice") (codes "100001")) kinds.ValueValidation
  pub no_number : FailBy (before (codes "--ticks") (codes "many")) kinds.ValueValidation
  pub no_whole_number : FailBy (before (codes "--depth") (codes "1.5")) kinds.ValueValidation
  pub no_digits : FailBy (behind (codes "--ticks=" ∷ [])) kinds.ValueValidation
  pub below_zero : FailBy (behind (codes "--ticks=-1" ∷ [])) kinds.ValueValidation
  pub no_value : FailBy (behind (codes "--ticks" ∷ [])) kinds.InvalidValue
  pub other_order : FailBy (before (codes "--order") (codes "middle")) kinds.InvalidValue
  pub no_order : FailBy (behind (codes "--order=" ∷ [])) kinds.InvalidValue
  pub trace_with_value : FailBy (behind (codes "--trace=yes" ∷ [])) kinds.TooManyValues
  pub trace_with_word :
      FailBy (behind (codes "--trace" ∷ codes "yes" ∷ [])) kinds.UnknownArgument
  pub ticks_twice :
      FailBy (twice (codes "--ticks=5") (codes "--ticks=6")) kinds.ArgumentConflict
  pub depth_twice :
      FailBy (twice (codes "--depth=5") (codes "--depth=5")) kinds.ArgumentConflict
  pub order_twice :
      FailBy (twice (codes "--order=last") (codes "--order=last")) kinds.ArgumentConflict
  pub slice_twice :
      FailBy (twice (codes "--slice=5") (codes "--slice=5")) kinds.ArgumentConflict
  pub trace_twice : FailBy (twice (codes "--trace") (codes "--trace")) kinds.ArgumentConflict

-- a check has none of the options of a run
pub record NoneToCheck : Type 0 where
  pub ticks : CheckRefuses (codes "--ticks=5")
  pub depth : CheckRefuses (codes "--depth=5")
  pub order : CheckRefuses (codes "--order=last")
  pub trace : CheckRefuses (codes "--trace")
  pub slice : CheckRefuses (codes "--slice=5")

pub record WorkedWords : Type 0 where
  pub modes : WorkedModes
  pub json : WorkedJson
  pub explanations : WorkedExplanations
  pub settings : WorkedSettings
  pub wrong : WrongSettings
  pub none_to_check : NoneToCheck
