use Rattle.std.proofs.Common.{subst, IfOk, codes}
use Rattle.clap.specs.Words.{Rule, with_rule}
use Rattle.cdi_options.specs.Options as spec
use Rattle.cdi_options.proofs.options.run_command.Goals as goal

pub returns : goal.returns
returns c =
    let file = spec.file_form (codes "run") in
    let bounded = with_rule file (spec.number_rule (codes "ticks") 100000) in
    let limited = with_rule bounded (spec.number_rule (codes "depth") 1024) in
    let ordered = with_rule limited (spec.option_rule (codes "order")) in
    let traced = with_rule ordered (spec.flag_rule (codes "trace")) in
    let is_bounded : IfOk c.with_option-bounded.result (spec.IsMode bounded) =
    subst (λ (rule : Rule). IfOk c.with_option-bounded.result (spec.IsMode (with_rule file rule))) c.number_option-ticks.ensures.rule
    (c.with_option-bounded.ensures file c.number_option-ticks.ensures.own c.file_command-file.ensures) in
    let is_limited : IfOk c.with_option-limited.result (spec.IsMode limited) =
    subst (λ (rule : Rule). IfOk c.with_option-limited.result (spec.IsMode (with_rule bounded rule))) c.number_option-depth.ensures.rule
    (c.with_option-limited.ensures bounded c.number_option-depth.ensures.own is_bounded) in
    let is_ordered : IfOk c.with_option-ordered.result (spec.IsMode ordered) =
    subst (λ (rule : Rule). IfOk c.with_option-ordered.result (spec.IsMode (with_rule limited rule))) c.value_option-order.ensures.rule
    (c.with_option-ordered.ensures limited c.value_option-order.ensures.own is_limited) in
    let is_traced : IfOk c.with_option-traced.result (spec.IsMode traced) =
    subst (λ (rule : Rule). IfOk c.with_option-traced.result (spec.IsMode (with_rule ordered rule))) c.flag_option-trace.ensures.rule
    (c.with_option-traced.ensures ordered c.flag_option-trace.ensures.own is_ordered) in
    subst (λ (rule : Rule). IfOk c.with_option.result (spec.IsMode (with_rule traced rule))) c.number_option-slice.ensures.rule
    (c.with_option.ensures traced c.number_option-slice.ensures.own is_traced)
