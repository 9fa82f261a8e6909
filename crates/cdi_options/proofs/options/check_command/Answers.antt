use Rattle.std.proofs.Common.{subst, IfOk, codes}
use Rattle.clap.specs.Words.{Rule, with_rule}
use Rattle.cdi_options.specs.Options as spec
use Rattle.cdi_options.proofs.options.check_command.Goals as goal

pub returns : goal.returns
returns c =
    let file = spec.file_form (codes "check") in
    subst (λ (json : Rule). IfOk c.with_option.result (spec.IsMode (with_rule file json))) c.flag_option-json.ensures.rule
    (c.with_option.ensures file c.flag_option-json.ensures.own c.file_command.ensures)
