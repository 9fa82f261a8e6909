use Rattle.std.proofs.Common.{◌∙◌, ap, None}
use Rattle.cdi_contexts.specs.Contexts.{Active, greatest}
use Rattle.cdi_contexts.proofs.Numbers.{last_is_greatest}
use Rattle.cdi_contexts.proofs.table.Table.last.Goals as goal

pub returns : goal.returns
returns c =
    last_is_greatest c.self.inside.held.entries c.self.inside.places c.last.result c.self.invariant.0 c.self.invariant.1 c.last.ensures
    ∙ ap (λ (a : Active). greatest None a.holds) c.self.view_is
