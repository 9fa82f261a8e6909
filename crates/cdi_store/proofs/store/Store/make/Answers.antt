use Rattle.std.proofs.Common.{◌≡◌, ◌∙◌, ◌<◌, ◌^◌, ◌++◌, ◌∷◌, [], sym, ap, refl, eq-eqb}
use Rattle.cdi_base.specs.declared.value.Value.TheVariants.{Null}
use Rattle.cdi_store.specs.declared.instance.Instance.{Instance}
use Rattle.cdi_store.specs.declared.instance.Phase.TheVariants.{New}
use Rattle.cdi_store.specs.Live.{newborn, with_newborn}
use Rattle.cdi_store.specs.Slots.{instances_in}
use Rattle.cdi_store.proofs.Numbers.{at-last}
use Rattle.cdi_store.proofs.Kept.{born-kept}
use Rattle.cdi_store.proofs.Slots.{taking, instances_in-taken}
use Rattle.cdi_store.proofs.store.Store.make.Goals as goal

pub invariant_of-self-2 : goal.invariant_of-self-2
invariant_of-self-2 c =
    let s = c.self.inside in
    let m = s.numbers in
    let n = s.next in
    let slot = c.insert_reserved-slot.result in
    let made : Instance = record { component = c.args.component; owner = c.args.owner; phase = New; fields = c.args.fields; references = c.new.result; value = Null; dependents = c.empty.result } in
    let number-is : c.in-Some.number ≡ n = c.in-Some.ensures.number ∙ sym (ap (λ k. k.next) c.self.view_is) in
    let t = taking s.slots c.reserve.new.self c.insert_reserved-slot.new.self m c.push.new.self c.in-Some.number n c.vacant_key.result slot made (ap (λ k. k.slots) c.in_ok-reserve.ensures.rest_kept) c.in_ok-push.ensures.ok number-is (c.vacant_key.ensures.value ∙ sym c.insert_reserved-slot.ensures.key) c.insert_reserved-slot.ensures.was_vacant c.insert_reserved-slot.ensures.updates in
    let left : n < 2 ^ 32 = rw (ap (λ k. k.next) c.self.view_is) (c.in-Some.ensures.left.0 refl) in
    let is_newborn : made ≡ newborn c.args.component c.args.owner c.args.fields = rw (c.new.ensures, c.empty.ensures) refl in
    born-kept s.slots.slots c.insert_reserved-slot.new.self.slots m c.push.new.self n slot made c.args.component c.args.owner c.args.fields is_newborn t left c.self.invariant

pub returns-clause-instances : goal.returns-clause-instances
returns-clause-instances c =
    let s = c.self.inside in
    let m = s.numbers in
    let n = s.next in
    let slot = c.insert_reserved-slot.result in
    let made : Instance = record { component = c.args.component; owner = c.args.owner; phase = New; fields = c.args.fields; references = c.new.result; value = Null; dependents = c.empty.result } in
    let number-is : c.in-Some.number ≡ n = c.in-Some.ensures.number ∙ sym (ap (λ k. k.next) c.self.view_is) in
    let t = taking s.slots c.reserve.new.self c.insert_reserved-slot.new.self m c.push.new.self c.in-Some.number n c.vacant_key.result slot made (ap (λ k. k.slots) c.in_ok-reserve.ensures.rest_kept) c.in_ok-push.ensures.ok number-is (c.vacant_key.ensures.value ∙ sym c.insert_reserved-slot.ensures.key) c.insert_reserved-slot.ensures.was_vacant c.insert_reserved-slot.ensures.updates in
    let is_newborn : made ≡ newborn c.args.component c.args.owner c.args.fields = rw (c.new.ensures, c.empty.ensures) refl in
    ap (instances_in c.insert_reserved-slot.new.self.slots) t.entries
    ∙ instances_in-taken s.slots.slots c.insert_reserved-slot.new.self.slots m n slot made t.vacant t.taken t.others c.self.invariant.sound.occupied
    ∙ ap (λ (o : Instance). instances_in s.slots.slots m ++ (n, o) ∷ []) is_newborn
    ∙ ap (λ k. with_newborn k.next c.args.component c.args.owner c.args.fields k.instances) c.self.view_is

pub returns-clause-slots : goal.returns-clause-slots
returns-clause-slots c =
    let s = c.self.inside in
    let m = s.numbers in
    let n = s.next in
    let slot = c.insert_reserved-slot.result in
    let made : Instance = record { component = c.args.component; owner = c.args.owner; phase = New; fields = c.args.fields; references = c.new.result; value = Null; dependents = c.empty.result } in
    let number-is : c.in-Some.number ≡ n = c.in-Some.ensures.number ∙ sym (ap (λ k. k.next) c.self.view_is) in
    let t = taking s.slots c.reserve.new.self c.insert_reserved-slot.new.self m c.push.new.self c.in-Some.number n c.vacant_key.result slot made (ap (λ k. k.slots) c.in_ok-reserve.ensures.rest_kept) c.in_ok-push.ensures.ok number-is (c.vacant_key.ensures.value ∙ sym c.insert_reserved-slot.ensures.key) c.insert_reserved-slot.ensures.was_vacant c.insert_reserved-slot.ensures.updates in
    t.entries ∙ ap (λ k. k.slots ++ (k.next, slot) ∷ []) c.self.view_is

pub returns-clause-live : goal.returns-clause-live
returns-clause-live c =
    let s = c.self.inside in
    let m = s.numbers in
    let n = s.next in
    let slot = c.insert_reserved-slot.result in
    let made : Instance = record { component = c.args.component; owner = c.args.owner; phase = New; fields = c.args.fields; references = c.new.result; value = Null; dependents = c.empty.result } in
    let number-is : c.in-Some.number ≡ n = c.in-Some.ensures.number ∙ sym (ap (λ k. k.next) c.self.view_is) in
    let t = taking s.slots c.reserve.new.self c.insert_reserved-slot.new.self m c.push.new.self c.in-Some.number n c.vacant_key.result slot made (ap (λ k. k.slots) c.in_ok-reserve.ensures.rest_kept) c.in_ok-push.ensures.ok number-is (c.vacant_key.ensures.value ∙ sym c.insert_reserved-slot.ensures.key) c.insert_reserved-slot.ensures.was_vacant c.insert_reserved-slot.ensures.updates in
    rw (t.entries, number-is, at-last m n slot c.self.invariant.sound.below) (eq-eqb slot slot refl)
