use Rattle.std.proofs.Common.{subst}
use Rattle.cdi_store.specs.Slots.{IsOrderly}
use Rattle.cdi_store.proofs.Slots.{numbers-instances_in}
use Rattle.cdi_store.proofs.store.Store.law_numbers.Goals as goal

pub returns : goal.returns
returns c =
    let s = c.self.inside in
    let m = s.numbers in
    let sound = c.self.invariant.sound in
    subst IsOrderly c.self.view_is (record {
      rising = sound.rising;
      below = sound.below;
      apart = sound.apart;
      numbers = numbers-instances_in s.slots.slots m sound.occupied;
    })
