use Rattle.cdi_store.proofs.Slots.{slot_of_live, occupied_at, instance_at}
use Rattle.cdi_store.proofs.store.Store.instance.Goals as goal

pub index-requires : goal.index-requires
index-requires c =
    let s = c.self.inside in
    let e = slot_of_live s.slots.slots s.numbers s.next c.args.key c.args.self.now c.self.view_is c.if-not-is_live.ensures in
    occupied_at s.slots.slots s.numbers c.args.key.number c.args.key.slot c.self.invariant.sound.occupied e

pub returns-clause-found : goal.returns-clause-found
returns-clause-found c =
    let s = c.self.inside in
    let e = slot_of_live s.slots.slots s.numbers s.next c.args.key c.args.self.now c.self.view_is c.if-not-is_live.ensures in
    instance_at s.slots.slots s.numbers c.args.key.number c.args.key.slot s.next c.index.result.now c.args.self.now c.self.view_is c.self.invariant.sound.occupied e c.index.ensures
