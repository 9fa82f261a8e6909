use Rattle.std.proofs.Common.{◌∙◌, ap, sym}
use Rattle.cdi_contexts.specs.Contexts.{is_ending_in}
use Rattle.cdi_contexts.specs.Standing.{Standing, active_in, with_step}
use Rattle.cdi_world.proofs.Reached.{finished, finished_before}
use Rattle.cdi_world.proofs.named.finish_in.Goals as goal

pub returns-then-not-ending : goal.returns-then-not-ending
returns-then-not-ending c =
    let s = c.args.contexts.now in
    let env = c.environment-env.result in
    let now = sym (ap (λ scope. is_ending_in (active_in s env scope)) c.scope_of-scope.ensures) ∙ sym c.ending.ensures ∙ c.if-not-ending.true in
    ap (λ (s : Standing). s.contexts) c.step.ensures
    ∙ ap (λ scope. (with_step env scope (active_in s env scope) s).contexts) c.scope_of-scope.ensures
    ∙ finished s env c.args.context.now c.environment-env.ensures now

pub returns-else-not-ending : goal.returns-else-not-ending
returns-else-not-ending c =
    let s = c.args.contexts.now in
    let env = c.environment-env.result in
    let now = sym (ap (λ scope. is_ending_in (active_in s env scope)) c.scope_of-scope.ensures) ∙ sym c.ending.ensures ∙ c.if-not-ending.false in
    finished_before s env c.args.context.now c.environment-env.ensures now
