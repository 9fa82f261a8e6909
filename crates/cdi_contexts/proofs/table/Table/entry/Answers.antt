use Rattle.std.proofs.Common.{◌∙◌, ap}
use Rattle.cdi_base.specs.Maps.{at}
use Rattle.cdi_contexts.specs.Contexts.{Active}
use Rattle.cdi_contexts.proofs.Entries.{at-lookup}
use Rattle.cdi_contexts.proofs.table.Table.entry.Goals as goal

pub returns : goal.returns
returns c = c.copied.ensures ∙ c.get.ensures.value ∙ at-lookup c.self.inside.held.entries c.args.bean ∙ ap (λ (a : Active). at a.holds c.args.bean) c.self.view_is
