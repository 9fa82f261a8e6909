use Rattle.std.proofs.Common.{◌≡◌, ◌∙◌, ap, sym, subst, None, Some, ◌++◌, ◌∷◌, [], nat_eq}
use Rattle.indexmap.specs.IndexMap.{insert_entry}
use Rattle.cdi_base.specs.Maps.{at}
use Rattle.cdi_contexts.specs.Group.{kept_named, AreTaken}
use Rattle.cdi_store.specs.NameIndex.{Points}
use Rattle.std.specs.String.{string_bytes}
use Rattle.cdi_contexts.proofs.Indexed.{index-pushed}
use Rattle.cdi_contexts.proofs.Slots.{pushed, vacant, apart_pushed, taken_pushed}
use Rattle.cdi_contexts.proofs.group.Group.insert.Goals as goal

pub invariant_of-self-2 : goal.invariant_of-self-2
invariant_of-self-2 g c =
    let m = c.self.inside.kept.entries in
    let slot = c.insert_reserved-slot.result in
    let kept = c.args.kept in
    let taken : AreTaken c.reserve-2.new.self m = subst (λ s. AreTaken s m) (sym c.reserve-2.ensures.rest_kept) c.self.invariant.0 in
    let free : at m slot ≡ None = vacant c.reserve-2.new.self m slot taken c.insert_reserved-slot.ensures.was_vacant in
    let is : c.insert.new.self.entries ≡ m ++ (slot, kept) ∷ [] = c.in_ok-insert.ensures.entries ∙ ap (λ es. insert_entry nat_eq es slot kept) c.reserve.ensures.entries ∙ pushed m slot kept free in
    let new : kept_named m kept.name ≡ None = ap (λ es. kept_named es kept.name) c.self.view_is ∙ c.requires in
    let named_so : string_bytes c.into_string-name.result ≡ kept.name = c.into_string-name.ensures ∙ c.in_ok-clone.ensures.cases in
    let same : c.vacant_key.result ≡ slot = c.vacant_key.ensures.value ∙ sym c.insert_reserved-slot.ensures.key in
    let points : Points kept.name (Some slot) c.self.inside.names c.add.new.self = subst (λ s. Points kept.name (Some s) c.self.inside.names c.add.new.self) same (subst (λ n. Points n (Some c.vacant_key.result) c.self.inside.names c.add.new.self) named_so c.in_ok-add.ensures.ok) in
    rw is (taken_pushed c.reserve-2.new.self c.insert_reserved-slot.new.self m slot kept _ taken c.insert_reserved-slot.ensures.updates, apart_pushed m slot kept c.self.invariant.1 free new, index-pushed m slot kept c.self.inside.names c.add.new.self c.self.invariant.2 new points)

pub returns-clause-ok : goal.returns-clause-ok
returns-clause-ok g c =
    let m = c.self.inside.kept.entries in
    let slot = c.insert_reserved-slot.result in
    let kept = c.args.kept in
    let taken : AreTaken c.reserve-2.new.self m = subst (λ s. AreTaken s m) (sym c.reserve-2.ensures.rest_kept) c.self.invariant.0 in
    let free : at m slot ≡ None = vacant c.reserve-2.new.self m slot taken c.insert_reserved-slot.ensures.was_vacant in
    c.in_ok-insert.ensures.entries ∙ ap (λ es. insert_entry nat_eq es slot kept) c.reserve.ensures.entries ∙ pushed m slot kept free ∙ ap (λ es. es ++ (slot, kept) ∷ []) c.self.view_is

pub returns-clause-free : goal.returns-clause-free
returns-clause-free g c =
    let m = c.self.inside.kept.entries in
    let slot = c.insert_reserved-slot.result in
    let taken : AreTaken c.reserve-2.new.self m = subst (λ s. AreTaken s m) (sym c.reserve-2.ensures.rest_kept) c.self.invariant.0 in
    sym (ap (λ es. at es slot) c.self.view_is) ∙ vacant c.reserve-2.new.self m slot taken c.insert_reserved-slot.ensures.was_vacant
