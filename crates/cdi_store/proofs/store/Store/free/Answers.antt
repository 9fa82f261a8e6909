use Rattle.std.proofs.Common.{ap}
use Rattle.cdi_store.specs.Live.{without_instance}
use Rattle.cdi_store.proofs.Kept.{gone-kept}
use Rattle.cdi_store.proofs.Slots.{slot_of_live, occupied_at, instance_at, instances_in-left}
use Rattle.cdi_store.proofs.store.Store.free.Goals as goal

pub remove-requires-2 : goal.remove-requires-2
remove-requires-2 c =
    let s = c.self.inside in
    let e = slot_of_live s.slots.slots s.numbers s.next c.args.key c.args.self.now c.self.view_is c.if-not-is_live.ensures in
    occupied_at s.slots.slots s.numbers c.args.key.number c.args.key.slot c.self.invariant.sound.occupied e

pub invariant_of-self : goal.invariant_of-self
invariant_of-self c =
    let s = c.self.inside in
    let m = s.numbers in
    let e = slot_of_live s.slots.slots m s.next c.args.key c.args.self.now c.self.view_is c.if-not-is_live.ensures in
    rw c.remove.ensures (gone-kept s.slots.slots c.remove-2.new.self.slots m c.args.key.number c.args.key.slot s.next c.remove-2.ensures.updates.others e c.self.invariant)

pub returns-clause-freed : goal.returns-clause-freed
returns-clause-freed c =
    let s = c.self.inside in
    let e = slot_of_live s.slots.slots s.numbers s.next c.args.key c.args.self.now c.self.view_is c.if-not-is_live.ensures in
    instance_at s.slots.slots s.numbers c.args.key.number c.args.key.slot s.next c.remove-2.result c.args.self.now c.self.view_is c.self.invariant.sound.occupied e c.remove-2.ensures.value

pub returns-clause-ok : goal.returns-clause-ok
returns-clause-ok c =
    let s = c.self.inside in
    let m = s.numbers in
    let n = c.args.key.number in
    let e = slot_of_live s.slots.slots m s.next c.args.key c.args.self.now c.self.view_is c.if-not-is_live.ensures in
    let left = instances_in-left s.slots.slots c.remove-2.new.self.slots m n c.args.key.slot c.remove-2.ensures.updates.others c.self.invariant.sound.apart e in
    rw (c.remove.ensures, left) (ap (without_instance n) c.self.view_is)
