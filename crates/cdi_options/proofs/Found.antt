-- What the matches of a command tell of the words.
use Rattle.std.proofs.Common.{◌≡◌, ◌∙◌, [], Bor, List, Option, Some, None, refl, ap}
use Rattle.std.specs.Prelude.{Box, option_map, option_and_then, unwrap_or}
use Rattle.std.specs.Box.{box_value}
use Rattle.clap.proofs.WalkLemmas.{first_value-rows}
use Rattle.clap.specs.Words.{Row, Text, first_of, first_value}
use Rattle.clap.specs.Simple.{subcommand_rows}
use Rattle.clap.specs.Walk.{rows_of}
use Rattle.clap.specs.declared.parser.matches.Found.{Found}
use Rattle.clap.specs.declared.parser.matches.ArgMatches.TheViews.{out-SubCommand}
use Rattle.clap.specs.declared.parser.matches.SubCommand.{SubCommand}
use Rattle.cdi_options.specs.Options as spec

-- the first of the rows of a mode is the first of those rows
by_rows : (id : Text) (o : Option (Text × List Row)) → option_and_then (first_of id) (option_map (λ p. p.1) o) ≡ first_of id (spec.rows_under o)
by_rows id None = refl
by_rows id (Some p) = refl

-- the text of an argument is what the matches of the mode say
pub text_of_found : (f : Found) (id : Text) (o : Option (Text × List Row)) → Some (rows_of f) ≡ option_map (λ p. p.1) o → first_value f id ≡ first_of id (spec.rows_under o)
text_of_found f id o e = first_value-rows f id ∙ ap (option_and_then (first_of id)) e ∙ by_rows id o

-- without a mode there is no text
pub none_unmet : (id : Text) (o : Option (Text × List Row)) → None ≡ option_map (λ p. p.1) o → None ≡ first_of id (spec.rows_under o)
none_unmet id None e = refl
none_unmet id (Some p) e = absurd cc

-- the name of the subcommand that was met is that of its rows
pub name_of_met : {Z : Type 0} (o : Option (Box SubCommand Z))
    → option_map (λ b. (out-SubCommand (box_value b)).name.now) o ≡ option_map (λ found. found.0) (subcommand_rows o)
name_of_met None = refl
name_of_met (Some b) = refl

-- a text behind a borrow, or an empty one
pub now_or_empty : (o : Option (Bor Text)) (empty : Bor Text) → empty.now ≡ [] → (unwrap_or o empty).now ≡ unwrap_or (option_map (λ text. text.now) o) []
now_or_empty None empty e = e
now_or_empty (Some text) empty e = refl
