use Rattle.std.proofs.Common.{◌∙◌, ap, sym}
use Rattle.cdi_contexts.specs.Contexts.{active_context, entry_in}
use Rattle.cdi_host.specs.Asked.{held_in}
use Rattle.cdi_world.proofs.Reached.{active_there}
use Rattle.cdi_world.proofs.world.contents.WorldContents.held.Goals as goal

pub returns : goal.returns
returns c =
    let w = c.self.inside in
    sym (c.entry.ensures
    ∙ ap (λ e. entry_in (active_context w.contexts.contexts e c.args.scope) c.args.bean) c.slots-env.ensures
    ∙ ap (λ a. entry_in a c.args.bean) (active_there w.contexts.contexts w.environment c.args.scope)
    ∙ ap (λ v. held_in v c.args.scope c.args.bean) c.self.view_is)
