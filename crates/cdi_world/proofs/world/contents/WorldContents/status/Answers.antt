use Rattle.std.proofs.Common.{◌∙◌, ap, sym, option_map}
use Rattle.cdi_contexts.specs.Contexts.{active_context}
use Rattle.cdi_host.specs.Asked.{status_in}
use Rattle.cdi_world.proofs.Reached.{active_there}
use Rattle.cdi_world.proofs.world.contents.WorldContents.status.Goals as goal

pub returns : goal.returns
returns c =
    let w = c.self.inside in
    sym (c.status.ensures
    ∙ ap (λ e. option_map (λ a. a.status) (active_context w.contexts.contexts e c.args.scope)) c.slots-env.ensures
    ∙ ap (option_map (λ a. a.status)) (active_there w.contexts.contexts w.environment c.args.scope)
    ∙ ap (λ v. status_in v c.args.scope) c.self.view_is)
