use Rattle.std.proofs.Common.{◌∙◌, ℕ, Option, None, cond, refl, ap, arith}
use Rattle.std.specs.Option.{option_or}
use Rattle.cdi_machine.specs.declared.member.Method.{Method}
use Rattle.cdi_shared_maps.specs.Maps.{value_in, value_from, changed}
use Rattle.cdi_method_maps.specs.NamedMethods.{method_named, is_among}
use Rattle.cdi_method_maps.specs.KeptMethods.{method_by}
use Rattle.cdi_method_maps.proofs.Growth.{ArePlaces-grown, method_by-grown}
use Rattle.cdi_method_maps.proofs.Maps.{ArePlaces-from, ArePlaces-add, ArePlaces-made, count-add, methods-add, method_by-made, KeepsMaps-grown}
use Rattle.cdi_method_maps.proofs.method_maps.MethodMaps.add.Goals as goal

pub returns-in_err-changes-clause-kept : goal.returns-in_err-changes-clause-kept
returns-in_err-changes-clause-kept c = KeepsMaps-grown _ _ c.in_err-changes.ensures.grows (omega arith) (λ map key lt. refl)

pub invariant_of-self-in-Break-branch-2 : goal.invariant_of-self-in-Break-branch-2
invariant_of-self-in-Break-branch-2 c =
    let old = c.args.self.now in
    record { places = λ map. ArePlaces-grown old.kept c.put_all.new.self (value_in old.maps map) c.in_ok-changes.ensures.grows (old.places map) }

pub returns-in_err-hide-clause-kept : goal.returns-in_err-hide-clause-kept
returns-in_err-hide-clause-kept c = KeepsMaps-grown _ _ c.in_ok-changes.ensures.grows (omega arith) (λ map key lt. refl)

pub invariant_of-self-2 : goal.invariant_of-self-2
invariant_of-self-2 c =
    let old = c.args.self.now in
    let kept = c.put_all.new.self in
    let grows = c.in_ok-changes.ensures.grows in
    let changes = c.as_slice.result.now in
    let places = value_from old.maps c.args.origin in
    let are = ArePlaces-grown old.kept kept places grows (ArePlaces-from old.kept old.maps c.args.origin old.places) in
    let made = ArePlaces-made kept c.args.methods c.args.hidden.now c.in_ok-changes.changes.items changes places c.in_ok-changes.ensures.changes (c.as_slice.ensures.value ∙ c.in_ok-hide.ensures) are in
    record { places = ArePlaces-add old.kept kept old.maps c.add.new.self grows old.places c.add.ensures.kept c.add.result (changed changes places) made c.add.ensures.number c.add.ensures.added c.add.ensures.values c.add.ensures.err }

pub returns-clause-methods : goal.returns-clause-methods
returns-clause-methods c =
    let old = c.args.self.now in
    let kept = c.put_all.new.self in
    let grows = c.in_ok-changes.ensures.grows in
    let changes = c.as_slice.result.now in
    let places = value_from old.maps c.args.origin in
    let placed = ArePlaces-from old.kept old.maps c.args.origin old.places in
    let are = ArePlaces-grown old.kept kept places grows placed in
    let own_or_left = λ (o : Option Method) (name : ℕ). option_or (method_named name c.args.methods) (cond (is_among name c.args.hidden.now) None o) in
    let by_name = method_by-made kept c.args.methods c.args.hidden.now c.in_ok-changes.changes.items changes places c.in_ok-changes.ensures.changes (c.as_slice.ensures.value ∙ c.in_ok-hide.ensures) are in
    methods-add c.add.result kept c.add.new.self (changed changes places) (λ name. own_or_left (method_by old.kept places name) name) c.add.ensures.values (λ name. by_name name ∙ ap (λ (o : Option Method). own_or_left o name) (method_by-grown old.kept kept places name grows placed))

pub returns-clause-kept : goal.returns-clause-kept
returns-clause-kept c =
    KeepsMaps-grown _ _ c.in_ok-changes.ensures.grows (count-add c.add.result c.args.self.now.maps c.add.new.self c.add.ensures.added c.add.ensures.err) c.add.ensures.kept
