use Rattle.std.proofs.Common.{◌∙◌, ap}
use Rattle.cdi_base.specs.Maps.{at}
use Rattle.cdi_store.proofs.Entries.{at-lookup}
use Rattle.cdi_contexts.proofs.group.Group.get.Goals as goal

pub returns-clause-value : goal.returns-clause-value
returns-clause-value g c = c.get.ensures.value ∙ at-lookup c.self.inside.kept.entries c.args.slot ∙ ap (λ m. at m c.args.slot) c.self.view_is
