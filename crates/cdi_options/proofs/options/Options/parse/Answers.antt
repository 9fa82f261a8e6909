use Rattle.std.proofs.Common.{rules, ◌≡◌, ◌∙◌, [], List, Option, map, ap, sym, subst, refl, Bor, codes}
use Rattle.std.specs.Prelude.{option_map, unwrap_or}
use Rattle.clap.specs.Words.{App, HasKind, Row, Text, app_of, fault_of, first_of, is_simple, subcommand_of, subcommand_name_of, subcommand_rows_of}
use Rattle.clap.specs.declared.parser.matches.ArgMatches.TheViews.{out-ArgMatches}
use Rattle.clap.specs.Faults.{is_simple_and_free}
use Rattle.cdi_options.specs.Options as spec
use Rattle.cdi_options.proofs.Faults.{by_form, fit}
use Rattle.cdi_options.proofs.Found.{name_of_met, now_or_empty}
use Rattle.cdi_options.proofs.options.Options.parse.Goals as goal

pub returns-in_err-matches-clause-err : goal.returns-in_err-matches-clause-err
returns-in_err-matches-clause-err g c =
    let words : List Text = map g.S.AsStr.text c.args.words.now in
    let is : app_of c.in_ok-command.command ≡ spec.form = search rules in
    let told : HasKind (fault_of spec.form words) c.in_err-matches.field-0.0 =
    subst (λ (a : App). HasKind (fault_of a words) c.in_err-matches.field-0.0) is (c.in_err-matches.ensures.kinds (ap is_simple_and_free is)) in
    let all : HasKind (spec.faults_in words) c.in_err-matches.field-0.0 = by_form c.in_err-matches.field-0.0 _ _ told in
    search rules

pub returns-in-Some-clause-ok : goal.returns-in-Some-clause-ok
returns-in-Some-clause-ok g c =
    let words : List Text = map g.S.AsStr.text c.args.words.now in
    let is : app_of c.in_ok-command.command ≡ spec.form = search rules in
    let found : subcommand_rows_of c.in_ok-matches.matches ≡ subcommand_of spec.form words =
    (c.in_ok-matches.ensures.ok.2 (ap is_simple is)).1 ∙ ap (λ (a : App). subcommand_of a words) is in
    let named : subcommand_name_of c.in_ok-matches.matches ≡ option_map (λ found. found.0) (subcommand_of spec.form words) =
    name_of_met (out-ArgMatches c.in_ok-matches.matches).subcommand ∙ ap (option_map (λ (found : Text × List Row). found.0)) found in
    let sets : spec.Sets (spec.rows_in words) c.in-Some.field-0.settings c.in-Some.field-0.slice =
    subst (λ (o : Option (Text × List Row)). spec.Sets (spec.rows_under o) c.in-Some.field-0.settings c.in-Some.field-0.slice) found c.in-Some.ensures in
    record {
      is_fit = fit (fault_of spec.form words) (spec.rows_in words) (sym (ap (λ (a : App). fault_of a words) is) ∙ c.in_ok-matches.ensures.kinds (ap is_simple_and_free is)) sets.are_fit;
      names_mode = c.mode_in.ensures ∙ ap spec.mode_of named;
      names = ap (λ (text : Bor Text). text.now) c.unwrap_or.ensures ∙ now_or_empty c.text_in.result _ refl
          ∙ ap (λ (file : Option Text). unwrap_or file []) (c.text_in.ensures ∙ ap (λ (o : Option (Text × List Row)). first_of (codes "FILE") (spec.rows_under o)) found);
      explains = ap (λ (text : Bor Text). text.now) c.unwrap_or-in-Some.ensures ∙ now_or_empty c.text_in-in-Some.result _ refl
          ∙ ap (λ (word : Option Text). unwrap_or word []) (c.text_in-in-Some.ensures ∙ ap (λ (o : Option (Text × List Row)). first_of (codes "WORD") (spec.rows_under o)) found);
      writes_json = c.is_set.ensures ∙ ap spec.is_set (c.text_in-in-Some-2.ensures ∙ ap (λ (o : Option (Text × List Row)). first_of (codes "json") (spec.rows_under o)) found);
      depth = sets.depth;
      ticks = sets.ticks;
      order = sets.order;
      shows_trace = sets.shows_trace;
      slice_is = sets.slice_is;
      some_slice = sets.some_slice;
      within_slice = sets.within_slice;
    }
