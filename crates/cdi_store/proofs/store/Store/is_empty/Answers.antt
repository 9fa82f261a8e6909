use Rattle.cdi_store.proofs.Slots.{length-instances_in}
use Rattle.cdi_store.proofs.store.Store.is_empty.Goals as goal

pub returns : goal.returns
returns c =
    rw (← c.self.view_is, length-instances_in c.self.inside.slots.slots c.self.inside.numbers c.self.invariant.sound.occupied) c.is_empty.ensures
