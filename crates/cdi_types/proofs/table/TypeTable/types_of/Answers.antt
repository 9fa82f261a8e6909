use Rattle.std.proofs.Common.{◌≡◌, ◌∙◌, List, Some, length, slice_get, take, true≢false, sym, ap, subst, refl, arith}
use Rattle.std.proofs.lemmas.Grind.{common_steps}
use Rattle.std.proofs.lemmas.Option.{slice_get_read}
use Rattle.cdi_types.specs.ListsThose.{ListsThose}
use Rattle.cdi_types.proofs.Listings.{keep_next, skip_next, keep_last}
use Rattle.cdi_types.specs.Subtype.{object, names_of, IsSubtype}
use Rattle.cdi_types.specs.declared.declaration.TypeDeclaration.{TypeDeclaration}
use Rattle.cdi_types.proofs.table.TypeTable.types_of.Goals as goal
use Rattle.cdi_types.proofs.table.TypeTable.types_of.Goals.{then-is_subtype_from+in_ok-push, else-is_subtype_from}

pub loop-index-init : goal.loop-index-init
loop-index-init c = rw c.empty-found.ensures ListsThose.none

pub loop-index-preserved : goal.loop-index-preserved
loop-index-preserved c =
    let i = c.loop-index in
    let d = c.declared-item.result in
    let items = c.declarations-declared-items.result.now in
    let place = rw c.self.view_is at c.place-place.ensures in
    let here : slice_get items i.index ≡ Some d = slice_get_read items (length items) i.index d refl c.loop-index-test.true c.declared-item.is in
    let there : slice_get c.self.inside.graph i.index ≡ Some d = ap (λ (ds : List TypeDeclaration). slice_get ds i.index) (sym c.declarations-declared-items.ensures) ∙ here in
    let above = rw c.self.view_is at (c.first_place-above_place.ensures d there) in
    elim c.if-is_subtype_from.branch [
      | then-is_subtype_from+in_ok-push w ↦ rw (w.found-is, w.in_ok-push.ensures.ok) (keep_next (λ d. d.name) _ i.index _ i.found c.loop-index-test.true c.declared-item.is i.invariant ((w.if-is_subtype_from.ensures place above).0 refl))
      | else-is_subtype_from w ↦ rw w.found-is (skip_next (λ d. d.name) _ i.index _ i.found c.loop-index-test.true c.declared-item.is i.invariant (λ s. true≢false (sym ((w.if-is_subtype_from.ensures place above).1 s))))
    ]

pub returns : goal.returns
returns c =
    let i = c.loop-index in
    let P : List TypeDeclaration → Type 0 = λ ds. ListsThose (IsSubtype c.args.self.now c.args.name) (names_of ds) i.found in
    let all : take i.index c.declarations-declared-items.result.now ≡ c.args.self.now = grind (arith, common_steps, c.declarations-declared-items.ensures, c.self.view_is) in
    rw (c.in_ok-push-2.ensures.ok, c.name.ensures.number) (keep_last object (subst P all i.invariant) IsSubtype.object_above)
