use Rattle.std.proofs.Common.{◌∙◌, ap}
use Rattle.cdi_contexts.specs.Contexts.{active_with, with_held}
use Rattle.cdi_contexts.specs.Standing.{Standing, in_env}
use Rattle.cdi_contexts.proofs.Slots.{ok_then}
use Rattle.cdi_world.proofs.Reached.{reached_change}
use Rattle.cdi_world.proofs.named.put_in.Goals as goal

pub returns-clause-ok : goal.returns-clause-ok
returns-clause-ok c =
    let s = c.args.contexts.now in
    let env = c.environment-env.result in
    ok_then c.put.result _ _ c.put.ensures.ok
    (λ is. ap (λ (s : Standing). s.contexts) is
    ∙ ap (λ scope. (in_env env scope (with_held c.args.bean c.args.held) s).contexts) c.scope_of.ensures
    ∙ reached_change s env c.args.context.now c.environment-env.ensures (active_with c.args.bean c.args.held))
