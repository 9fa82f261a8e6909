use Rattle.std.proofs.Common.{◌∙◌, ap}
use Rattle.cdi_contexts.specs.Contexts.{active_without, with_nothing}
use Rattle.cdi_contexts.specs.Standing.{Standing, in_env}
use Rattle.cdi_world.proofs.Reached.{reached_change}
use Rattle.cdi_world.proofs.named.leave_in.Goals as goal

pub returns : goal.returns
returns c =
    let s = c.args.contexts.now in
    let env = c.environment-env.result in
    ap (λ (s : Standing). s.contexts) c.leave.ensures
    ∙ ap (λ scope. (in_env env scope (with_nothing c.args.bean) s).contexts) c.scope_of.ensures
    ∙ reached_change s env c.args.context.now c.environment-env.ensures (active_without c.args.bean)
