use Rattle.std.proofs.Common.{◌∙◌, map, sym, ap}
use Rattle.cdi_store.proofs.Slots.{numbers-instances_in}
use Rattle.cdi_store.proofs.store.Store.numbers.Goals as goal

pub returns : goal.returns
returns c =
    let s = c.self.inside in
    rw (sym (ap (λ k. map (λ p. p.0) k.instances) c.self.view_is) ∙ numbers-instances_in s.slots.slots s.numbers c.self.invariant.sound.occupied) c.numbers.ensures
