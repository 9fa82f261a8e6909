use Rattle.std.proofs.Common.{rules, ap, ap₂, ◌≡◌, ◌∙◌}
use Rattle.std.proofs.lemmas.Result.{IfOk-weaker}
use Rattle.clap.specs.Simple.{app_of_fields}
use Rattle.clap.specs.Words.{app_of, new_app, rule_of, with_rule}
use Rattle.cdi_options.specs.Options as spec
use Rattle.cdi_options.proofs.options.mode_command.Goals as goal

pub returns : goal.returns
returns c =
    let subject_is : rule_of c.action-subject.result ≡ spec.subject_rule c.args.subject.now = search rules in
    let bare_is : app_of c.about.result ≡ new_app c.args.name.now = ap app_of_fields c.about.ensures ∙ c.new-2.ensures.app in
    IfOk-weaker c.arg.result _ _ (λ app added. record {
      form = added.shape (search rules) ∙ ap₂ with_rule bare_is subject_is;
      none_global = search rules;
    }) c.arg.ensures
