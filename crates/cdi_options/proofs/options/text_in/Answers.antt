use Rattle.std.proofs.Common.{◌∙◌}
use Rattle.clap.specs.Words.{found_of}
use Rattle.clap.specs.declared.parser.matches.ArgMatches.TheViews.{out-ArgMatches}
use Rattle.clap.specs.Simple.{subcommand_rows}
use Rattle.cdi_options.proofs.Found.{text_of_found}
use Rattle.cdi_options.proofs.options.text_in.Goals as goal

pub returns : goal.returns
returns c =
    c.get_str.ensures ∙ text_of_found (found_of c.in_ok-_mode.words.now) c.args.name.now (subcommand_rows (out-ArgMatches c.args.matches.now).subcommand) c.in_ok-_mode.ensures.rows
