use Rattle.std.proofs.Common.{arith}
use Rattle.cdi_store.proofs.Kept.{begun-kept}
use Rattle.cdi_store.proofs.store.Store.starting_at.Goals as goal

pub invariant_of-result : goal.invariant_of-result
invariant_of-result c =
    begun-kept c.new-2.result.slots c.new.result c.from.result c.new.ensures (omega arith) (omega arith)
