use Rattle.std.proofs.Common.{◌∙◌, sym, ap, length}
use Rattle.cdi_store.proofs.Slots.{length-instances_in}
use Rattle.cdi_store.proofs.store.Store.len.Goals as goal

pub returns : goal.returns
returns c =
    c.len.ensures
    ∙ sym (length-instances_in c.self.inside.slots.slots c.self.inside.numbers c.self.invariant.sound.occupied)
    ∙ ap (λ s. length s.instances) c.self.view_is
