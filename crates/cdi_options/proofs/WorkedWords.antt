-- The worked words, computed.
use Rattle.std.proofs.Common.{refl}
use Rattle.clap.proofs.OnLiterals.{clap_on_literals}
use Rattle.cdi_options.specs.WorkedWords.{NoneToCheck, WorkedExplanations, WorkedJson, WorkedModes, WorkedSettings, WorkedWords, WrongSettings}

-- words that ask for a mode, for help or the version, or that are wrong
worked_modes : WorkedModes
unfolding clap_on_literals
worked_modes = record {
  plain_run = refl;
  plain_check = refl;
  plain_graph = refl;
  input_to_check = (refl, refl, refl);
  input_to_graph = (refl, refl, refl);
  dash_to_run = (refl, refl, refl);
  behind_dashes = refl;
  dash_behind_dashes = refl;
  help = refl;
  help_of_run = refl;
  help_of_check = refl;
  version = refl;
  none = refl;
  no_file = refl;
  no_file_to_check = refl;
  no_file_to_graph = refl;
  no_json_of_graph = refl;
  no_file_but_options = refl;
  two_files = refl;
  unknown = refl;
}

-- words that ask for a check as JSON
worked_json : WorkedJson
unfolding clap_on_literals
worked_json = record {
  behind_file = refl;
  before_file = refl;
  not_of_run = refl;
  no_value = refl;
}

-- words that ask for an explanation
worked_explanations : WorkedExplanations
unfolding clap_on_literals
worked_explanations = record {
  word = refl;
  number = refl;
  no_word = refl;
  two_words = refl;
  option_of_run = refl;
}

-- words that set something for a run
worked_settings : WorkedSettings
unfolding clap_on_literals
worked_settings = record {
  ticks = refl;
  ticks_before = refl;
  ticks_joined = refl;
  fewest_ticks = refl;
  most_ticks = refl;
  ticks_with_plus = refl;
  depth = refl;
  depth_before = refl;
  least_depth = refl;
  most_depth = refl;
  order = refl;
  order_before = refl;
  order_first = refl;
  trace = refl;
  trace_before = refl;
  slice = refl;
  slice_before = refl;
  least_slice = refl;
  most_slice = refl;
  all = refl;
}

-- options of a run that are wrong
worked_wrong : WrongSettings
unfolding clap_on_literals
worked_wrong = record {
  no_ticks = refl;
  many_ticks = refl;
  no_depth = refl;
  great_depth = refl;
  no_slice = refl;
  great_slice = refl;
  no_number = refl;
  no_whole_number = refl;
  no_digits = refl;
  below_zero = refl;
  no_value = refl;
  other_order = refl;
  no_order = refl;
  trace_with_value = refl;
  trace_with_word = refl;
  ticks_twice = refl;
  depth_twice = refl;
  order_twice = refl;
  slice_twice = refl;
  trace_twice = refl;
}

-- a check has none of the options of a run
worked_none_to_check : NoneToCheck
unfolding clap_on_literals
worked_none_to_check = record {
  ticks = refl;
  depth = refl;
  order = refl;
  trace = refl;
  slice = refl;
}

pub worked_words : WorkedWords
worked_words = record { modes = worked_modes; json = worked_json; explanations = worked_explanations; settings = worked_settings; wrong = worked_wrong; none_to_check = worked_none_to_check }
