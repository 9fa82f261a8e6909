use Rattle.std.proofs.Common.{subst}
use Rattle.cdi_contexts.specs.Standing.{IsOrderly}
use Rattle.cdi_contexts.proofs.Orderly.{orderly}
use Rattle.cdi_contexts.proofs.contexts.Contexts.law_slots.Goals as goal

pub returns : goal.returns
returns c =
    subst IsOrderly c.self.view_is (orderly c.self.inside.application c.self.inside.requests c.self.inside.sessions c.law_apart.ensures c.law_apart-2.ensures)
