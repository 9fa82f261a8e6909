use Rattle.std.proofs.Common.{refl}
use Rattle.cdi_store.proofs.Kept.{same-kept, still-kept}
use Rattle.cdi_store.proofs.Slots.{slot_of_live, at-kept, kept-changed}
use Rattle.cdi_store.proofs.Owners.{no_reference}
use Rattle.cdi_store.proofs.store.Store.refer.Goals as goal

pub returns-in_err-refer_in-clause-memory : goal.returns-in_err-refer_in-clause-memory
returns-in_err-refer_in-clause-memory c = λ _.
    let s = c.self.inside in
    let m = s.numbers in
    let e = slot_of_live s.slots.slots m s.next c.args.key c.args.self.now c.self.view_is c.if-not-is_live.ensures in
    let is = at-kept s.slots.slots m c.args.key.number c.args.key.slot s.next c.args.self.now c.self.view_is c.self.invariant.sound.occupied e in
    rw is (no_reference _ c.args.field c.in_err-refer_in.ensures.there)

pub invariant_of-self-2 : goal.invariant_of-self-2
invariant_of-self-2 c =
    let s = c.self.inside in
    let m = s.numbers in
    let e = slot_of_live s.slots.slots m s.next c.args.key c.args.self.now c.self.view_is c.if-not-is_live.ensures in
    still-kept _ s.slots c.refer_in.new.slots m c.args.key.number c.args.key.slot s.next (λ o. refl) (λ o. refl) c.in_ok-refer_in.ensures.ok e c.self.invariant

pub returns-clause-ok : goal.returns-clause-ok
returns-clause-ok c =
    let s = c.self.inside in
    let m = s.numbers in
    let e = slot_of_live s.slots.slots m s.next c.args.key c.args.self.now c.self.view_is c.if-not-is_live.ensures in
    kept-changed _ s.slots c.refer_in.new.slots m c.args.key.number c.args.key.slot s.next c.args.self.now c.self.view_is c.self.invariant.sound e c.in_ok-refer_in.ensures.ok

pub invariant_of-self : goal.invariant_of-self
invariant_of-self c =
    let s = c.self.inside in
    same-kept s.slots c.refer_in.new.slots s.numbers s.next c.in_err-refer_in.ensures.err c.self.invariant
