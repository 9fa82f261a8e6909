use Rattle.std.proofs.Common.{◌≡◌, ◌∙◌, ap, sym, subst, cond, None, IfOk, option_map}
use Rattle.cdi_store.specs.declared.instance.Context.TheVariants.{Session}
use Rattle.cdi_contexts.specs.Standing.{is_due_in}
use Rattle.cdi_host.specs.Standing.{due_in, due_session}
use Rattle.cdi_world.proofs.Reached.{due_there}
use Rattle.cdi_world.proofs.world.contents.WorldContents.due_session.Goals as goal

pub returns-then-due-clause-found : goal.returns-then-due-clause-found
returns-then-due-clause-found c =
    let w = c.self.inside in
    let session = option_map Session w.environment.session in
    let is : due_in w.contexts.contexts w.environment.session ≡ session =
    due_there w.contexts.contexts w.environment.session
    ∙ ap (λ b. cond b session None) (sym (ap (λ e. is_due_in w.contexts.contexts e.session) c.slots.ensures) ∙ sym c.due.ensures ∙ c.if-due.true) in
    subst (λ s. IfOk c.context.result (λ x. s ≡ x)) (sym is ∙ ap due_session c.self.view_is) c.context.ensures.found

pub returns-else-due-clause-found : goal.returns-else-due-clause-found
returns-else-due-clause-found c =
    let w = c.self.inside in
    let session = option_map Session w.environment.session in
    sym (ap due_session c.self.view_is)
    ∙ due_there w.contexts.contexts w.environment.session
    ∙ ap (λ b. cond b session None) (sym (ap (λ e. is_due_in w.contexts.contexts e.session) c.slots.ensures) ∙ sym c.due.ensures ∙ c.if-due.false)
