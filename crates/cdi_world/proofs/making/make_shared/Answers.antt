use Rattle.std.proofs.Common.{◌∙◌, ap, sym, is_some}
use Rattle.cdi_contexts.specs.declared.context.Held.TheVariants.{Making}
use Rattle.cdi_contexts.specs.Contexts.{active_with, with_held, with_nothing}
use Rattle.cdi_contexts.specs.Standing.{Standing, in_env}
use Rattle.cdi_contexts.proofs.Slots.{ok_then}
use Rattle.cdi_world.proofs.Reached.{reached_change}
use Rattle.cdi_world.proofs.Taken.{no_entry, put_back}
use Rattle.cdi_world.proofs.making.make_shared.Goals as goal

pub returns-then-is_some-clause-held : goal.returns-then-is_some-clause-held
returns-then-is_some-clause-held c =
    let s = c.args.contexts.now in
    let env = c.environment-env.result in
    ok_then c.put.result _ _ c.put.ensures.ok
    (λ is. ap (λ (s : Standing). s.contexts) is
    ∙ ap (λ scope. (in_env env scope (with_held c.args.bean Making) s).contexts) c.scope_of-scope.ensures
    ∙ reached_change s env c.args.context c.environment-env.ensures (active_with c.args.bean Making))

pub returns-in-Ok-clause-held : goal.returns-in-Ok-clause-held
returns-in-Ok-clause-held c =
    let s = c.args.contexts.now in
    let env = c.environment-env.result in
    ap (λ (s : Standing). s.contexts) c.in_ok-put.ensures.ok
    ∙ ap (λ scope. (in_env env scope (with_held c.args.bean Making) s).contexts) c.scope_of-scope.ensures
    ∙ reached_change s env c.args.context c.environment-env.ensures (active_with c.args.bean Making)

pub returns-in-Err-clause-contexts : goal.returns-in-Err-clause-contexts
returns-in-Err-clause-contexts c =
    let s = c.args.contexts.now in
    let env = c.environment-env.result in
    let scope = c.scope_of-scope.result in
    c.leave.ensures
    ∙ ap (in_env env scope (with_nothing c.args.bean)) c.in_ok-put.ensures.ok
    ∙ put_back s env scope c.args.bean Making (no_entry _ (sym (ap is_some c.entry.ensures) ∙ sym c.is_some.ensures ∙ c.if-is_some.false))
