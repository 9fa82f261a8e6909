use Rattle.std.proofs.Common.{◌∙◌, refl, sym, ap}
use Rattle.cdi_store.specs.Live.{owner_at}
use Rattle.cdi_store.proofs.Owners.{joins-owner, joins-no_owner}
use Rattle.cdi_store.proofs.Kept.{same-kept, joined-kept}
use Rattle.cdi_store.proofs.Slots.{slot_of_live, kept-changed}
use Rattle.cdi_store.proofs.store.Store.join_owner.Goals as goal

pub returns-in-None-clause-ok : goal.returns-in-None-clause-ok
returns-in-None-clause-ok c =
    let e = rw c.in-None.is at c.in_ok-owner.ensures.number in
    rw (joins-no_owner c.args.key.number c.args.self.now.instances e) refl

pub invariant_of-self : goal.invariant_of-self
invariant_of-self c =
    same-kept c.self.inside.slots c.put_dependent_last_in.new.slots c.self.inside.numbers c.self.inside.next c.in_err-put_dependent_last_in-in-Some.ensures.err c.self.invariant

pub invariant_of-self-in-Some : goal.invariant_of-self-in-Some
invariant_of-self-in-Some c =
    let s = c.self.inside in
    let m = s.numbers in
    let n = c.args.key.number in
    let e = slot_of_live s.slots.slots m s.next c.in-Some.owner c.args.self.now c.self.view_is (sym (rw c.in-Some.is at c.in_ok-owner.ensures.owner_lives)) in
    let there = slot_of_live s.slots.slots m s.next c.args.key c.args.self.now c.self.view_is (sym (c.in_ok-owner.ensures.live.0 refl)) in
    let is = (rw c.in-Some.is at c.in_ok-owner.ensures.number) ∙ ap (λ k. owner_at n k.instances) (sym c.self.view_is) in
    joined-kept s.slots c.put_dependent_last_in.new.slots m n c.args.key.slot s.next c.in-Some.owner c.in_ok-put_dependent_last_in-in-Some.ensures.ok e there is c.self.invariant

pub returns-in_ok-put_dependent_last_in-in-Some-clause-ok : goal.returns-in_ok-put_dependent_last_in-in-Some-clause-ok
returns-in_ok-put_dependent_last_in-in-Some-clause-ok c =
    let s = c.self.inside in
    let m = s.numbers in
    let e = slot_of_live s.slots.slots m s.next c.in-Some.owner c.args.self.now c.self.view_is (sym (rw c.in-Some.is at c.in_ok-owner.ensures.owner_lives)) in
    let is = rw c.in-Some.is at c.in_ok-owner.ensures.number in
    rw (joins-owner c.args.key.number c.in-Some.owner.number c.args.self.now.instances is)
    (kept-changed _ s.slots c.put_dependent_last_in.new.slots m c.in-Some.owner.number c.in-Some.owner.slot s.next c.args.self.now c.self.view_is c.self.invariant.sound e c.in_ok-put_dependent_last_in-in-Some.ensures.ok)
