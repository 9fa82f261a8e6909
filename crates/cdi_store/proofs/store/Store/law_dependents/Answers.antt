use Rattle.std.proofs.Common.{subst}
use Rattle.cdi_store.specs.Owned.{AreOwned}
use Rattle.cdi_store.proofs.store.Store.law_dependents.Goals as goal

pub returns : goal.returns
returns c = subst (λ k. AreOwned k.instances k.next) c.self.view_is c.self.invariant.owned
