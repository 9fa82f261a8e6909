use Rattle.std.proofs.Common.{◌∙◌, Bool, ◌++◌, ◌∷◌, [], ap, sym, filter, map, take}
use Rattle.std.proofs.lemmas.List.{take_more}
use Rattle.cdi_place_index.proofs.Steps.{one_more}
use Rattle.cdi_place_index.specs.PlaceRows.{row_at}
use Rattle.cdi_problems.specs.Elements.{Element, element_of, place_of}
use Rattle.cdi_problems.specs.Places.{same_place}
use Rattle.cdi_place_index.proofs.index.element_rows.Goals as goal

pub loop-element-preserved : goal.loop-element-preserved
loop-element-preserved c = λ p.
    let i = c.loop-element.element-index in
    let xs = c.args.elements.now in
    let e = c.element-item.result in
    let test : Element → Bool = λ s. same_place (place_of s) p in
    one_more element_of test (same_place c.place.result p) (row_at c.loop-element.rows p) (row_at c.add.new.self p) e (take i xs) (ap (λ q. same_place q p) c.place.ensures) (c.in_ok-add.ensures p) (c.loop-element.invariant p)
    ∙ ap (λ es. filter test (map element_of es)) (sym (take_more xs i e c.loop-element-test.true ∙ ap (λ x. take i xs ++ x ∷ []) (sym c.element-item.is)))
