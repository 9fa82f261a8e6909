use Rattle.cdi_store.proofs.Kept.{released-kept}
use Rattle.cdi_store.proofs.Slots.{slot_of_live, kept-changed}
use Rattle.cdi_store.proofs.store.Store.release.Goals as goal

pub invariant_of-self : goal.invariant_of-self
invariant_of-self c =
    let s = c.self.inside in
    let m = s.numbers in
    let live = slot_of_live s.slots.slots m s.next in
    let owner = live c.args.owner c.args.self.now c.self.view_is c.if-not-is_live.ensures in
    let key = live c.args.key c.args.self.now c.self.view_is c.if-not-is_live-2.ensures in
    released-kept s.slots c.remove_dependent_from.new.slots m c.args.key.number c.args.key.slot s.next c.args.owner c.remove_dependent_from.ensures owner key c.self.invariant

pub returns-clause-ok : goal.returns-clause-ok
returns-clause-ok c =
    let s = c.self.inside in
    let m = s.numbers in
    let owner = slot_of_live s.slots.slots m s.next c.args.owner c.args.self.now c.self.view_is c.if-not-is_live.ensures in
    kept-changed _ s.slots c.remove_dependent_from.new.slots m c.args.owner.number c.args.owner.slot s.next c.args.self.now c.self.view_is c.self.invariant.sound owner c.remove_dependent_from.ensures
