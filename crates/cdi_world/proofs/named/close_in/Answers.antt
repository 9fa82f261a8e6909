use Rattle.std.proofs.Common.{◌∙◌, ap}
use Rattle.cdi_contexts.specs.Standing.{Standing, active_in, with_step}
use Rattle.cdi_world.proofs.Reached.{closed}
use Rattle.cdi_world.proofs.named.close_in.Goals as goal

pub returns : goal.returns
returns c =
    let s = c.finish_in.new.contexts in
    let env = c.environment-env.result in
    ap (λ (s : Standing). s.contexts) c.step.ensures
    ∙ ap (λ scope. (with_step env scope (active_in s env scope) s).contexts) c.scope_of.ensures
    ∙ closed c.args.contexts.now.contexts s env c.args.context.now c.finish_in.ensures c.environment-env.ensures
