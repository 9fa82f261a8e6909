use Rattle.std.proofs.Common.{◌∙◌, ap}
use Rattle.cdi_contexts.specs.Contexts.{context_at, last_in}
use Rattle.cdi_contexts.specs.Standing.{active_in}
use Rattle.cdi_world.proofs.Reached.{last_is, reached_at}
use Rattle.cdi_world.proofs.named.last_in.Goals as goal

pub returns : goal.returns
returns c =
    let s = c.args.contexts.now in
    let env = c.environment.result in
    c.last.ensures
    ∙ ap (λ scope. last_in (active_in s env scope)) c.scope_of.ensures
    ∙ ap last_in (reached_at s env c.args.context.now c.environment.ensures)
    ∙ last_is (context_at s.contexts c.args.context.now)
