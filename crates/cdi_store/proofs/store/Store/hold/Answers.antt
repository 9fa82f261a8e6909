use Rattle.std.proofs.Common.{refl}
use Rattle.cdi_store.proofs.Kept.{still-kept}
use Rattle.cdi_store.proofs.Slots.{slot_of_live, kept-changed}
use Rattle.cdi_store.proofs.store.Store.hold.Goals as goal

pub invariant_of-self : goal.invariant_of-self
invariant_of-self c =
    let s = c.self.inside in
    let m = s.numbers in
    let e = slot_of_live s.slots.slots m s.next c.args.key c.args.self.now c.self.view_is c.if-not-is_live.ensures in
    still-kept _ s.slots c.hold_in.new.slots m c.args.key.number c.args.key.slot s.next (λ o. refl) (λ o. refl) c.hold_in.ensures e c.self.invariant

pub returns-clause-ok : goal.returns-clause-ok
returns-clause-ok c =
    let s = c.self.inside in
    let m = s.numbers in
    let e = slot_of_live s.slots.slots m s.next c.args.key c.args.self.now c.self.view_is c.if-not-is_live.ensures in
    kept-changed _ s.slots c.hold_in.new.slots m c.args.key.number c.args.key.slot s.next c.args.self.now c.self.view_is c.self.invariant.sound e c.hold_in.ensures
