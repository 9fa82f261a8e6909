use Rattle.std.proofs.Common.{◌∙◌, refl, sym, ap}
use Rattle.cdi_store.specs.Live.{owner_at}
use Rattle.cdi_store.proofs.Kept.{slots-of-live, left-kept, left-view}
use Rattle.cdi_store.proofs.Slots.{slot_of_live}
use Rattle.cdi_store.proofs.store.Store.leave_owner.Goals as goal

pub invariant_of-self : goal.invariant_of-self
invariant_of-self c =
    let s = c.self.inside in
    let m = s.numbers in
    let n = c.args.key.number in
    let o = c.in_ok-owner.owner in
    let e = slots-of-live s.slots.slots m s.next c.args.self.now o c.self.view_is c.in_ok-owner.ensures.owner_lives in
    let there = slot_of_live s.slots.slots m s.next c.args.key c.args.self.now c.self.view_is (sym (c.in_ok-owner.ensures.live.0 refl)) in
    let is = c.in_ok-owner.ensures.number ∙ ap (λ k. owner_at n k.instances) (sym c.self.view_is) in
    left-kept s.slots c.remove_dependent_from.new.slots m n c.args.key.slot s.next o e c.remove_dependent_from.ensures there is c.self.invariant

pub returns-clause-ok : goal.returns-clause-ok
returns-clause-ok c =
    let s = c.self.inside in
    let m = s.numbers in
    let o = c.in_ok-owner.owner in
    let e = slots-of-live s.slots.slots m s.next c.args.self.now o c.self.view_is c.in_ok-owner.ensures.owner_lives in
    left-view s.slots c.remove_dependent_from.new.slots m c.args.key.number s.next o c.args.self.now c.self.view_is e c.remove_dependent_from.ensures c.in_ok-owner.ensures.number c.self.invariant.sound
