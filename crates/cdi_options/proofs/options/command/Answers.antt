use Rattle.std.proofs.Common.{ap, true, ◌≡◌, ◌∙◌}
use Rattle.std.proofs.lemmas.Result.{IfOk-weaker}
use Rattle.clap.specs.Simple.{app_of_fields}
use Rattle.clap.specs.declared.builder.command.Command.{Command}
use Rattle.clap.specs.declared.builder.command.Command.TheOpen.{Command-F}
use Rattle.clap.specs.Words.{App, app_of, with_subcommand}
use Rattle.cdi_options.specs.Options as spec
use Rattle.cdi_options.proofs.options.command.Goals as goal

abbrev told : App → App
told app = record app { top = record app.top { subcommand_required = true; has_version = true } }

abbrev with_mode : App → App → App
with_mode mode app = with_subcommand app mode.top

pub returns : goal.returns
returns c =
    let bare_is : app_of c.subcommand_required-bare.result ≡ spec.bare_form =
    ap app_of_fields c.subcommand_required-bare.ensures ∙ ap (λ (f : Command-F Command). app_of_fields (record f { subcommand_required = true })) (c.after_help.ensures)
    ∙ ap (λ (f : Command-F Command). app_of_fields (record f { subcommand_required = true })) c.version.ensures
    ∙ ap (λ (f : Command-F Command). told (app_of_fields f)) c.about.ensures ∙ ap told c.new.ensures.app in
    let checks_is : app_of c.in_ok-checks.checks ≡ with_mode spec.check_form spec.bare_form =
    c.in_ok-checks.ensures spec.check_form c.check_command.ensures ∙ ap (with_mode spec.check_form) bare_is in
    let runs_is : app_of c.in_ok-runs.runs ≡ with_mode spec.run_form (with_mode spec.check_form spec.bare_form) =
    c.in_ok-runs.ensures spec.run_form c.run_command.ensures ∙ ap (with_mode spec.run_form) checks_is in
    let graphs_is : app_of c.in_ok-graphs.graphs ≡ with_mode spec.graph_form (with_mode spec.run_form (with_mode spec.check_form spec.bare_form)) =
    c.in_ok-graphs.ensures spec.graph_form c.graph_command.ensures ∙ ap (with_mode spec.graph_form) runs_is in
    IfOk-weaker c.with_mode-4.result _ _ (λ app added. added ∙ ap (with_mode spec.explain_form) graphs_is)
    (c.with_mode-4.ensures spec.explain_form c.explain_command.ensures)
