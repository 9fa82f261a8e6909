use Rattle.std.proofs.Common.{◌∙◌, sym, ap}
use Rattle.cdi_store.specs.Live.{owner_at}
use Rattle.cdi_store.proofs.Kept.{Adopting, adopted-kept, adopted-view}
use Rattle.cdi_store.proofs.Slots.{slot_of_live}
use Rattle.cdi_store.proofs.store.Store.adopt.Goals as goal

pub invariant_of-self-2 : goal.invariant_of-self-2
invariant_of-self-2 c =
    let s = c.self.inside in
    let m = s.numbers in
    let now = c.args.self.now in
    let live = slot_of_live s.slots.slots m s.next in
    let a : Adopting s.slots c.put_dependent_last_in.new.slots c.set_owner_in.new.slots m c.args.owner c.args.key = record {
      joins = c.in_ok-put_dependent_last_in.ensures.ok;
      owned = c.set_owner_in.ensures;
      owner_there = live c.args.owner now c.self.view_is c.if-not-is_live.ensures;
      there = live c.args.key now c.self.view_is c.if-not-is_live-2.ensures;
    } in
    adopted-kept s.slots c.put_dependent_last_in.new.slots c.set_owner_in.new.slots m s.next c.args.owner c.args.key a (sym (c.requires (sym c.if-not-is_live-2.ensures)) ∙ ap (λ k. owner_at c.args.key.number k.instances) (sym c.self.view_is)) c.self.invariant

pub returns-clause-ok : goal.returns-clause-ok
returns-clause-ok c =
    let s = c.self.inside in
    let m = s.numbers in
    let now = c.args.self.now in
    let live = slot_of_live s.slots.slots m s.next in
    let a : Adopting s.slots c.put_dependent_last_in.new.slots c.set_owner_in.new.slots m c.args.owner c.args.key = record {
      joins = c.in_ok-put_dependent_last_in.ensures.ok;
      owned = c.set_owner_in.ensures;
      owner_there = live c.args.owner now c.self.view_is c.if-not-is_live.ensures;
      there = live c.args.key now c.self.view_is c.if-not-is_live-2.ensures;
    } in
    adopted-view s.slots c.put_dependent_last_in.new.slots c.set_owner_in.new.slots m s.next c.args.owner c.args.key now c.self.view_is a c.self.invariant.sound
