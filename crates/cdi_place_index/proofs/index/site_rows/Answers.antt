use Rattle.std.proofs.Common.{◌∙◌, Bool, ◌++◌, ◌∷◌, [], ap, sym, filter, map, take}
use Rattle.std.proofs.lemmas.List.{take_more}
use Rattle.cdi_place_index.proofs.Steps.{one_more}
use Rattle.cdi_place_index.specs.PlaceRows.{row_at}
use Rattle.cdi_body_check.specs.Sites.{Site, site_of, place_of}
use Rattle.cdi_problems.specs.Places.{same_place}
use Rattle.cdi_place_index.proofs.index.site_rows.Goals as goal

pub loop-site-preserved : goal.loop-site-preserved
loop-site-preserved c = λ p.
    let i = c.loop-site.site-index in
    let xs = c.args.sites.now in
    let e = c.site-item.result in
    let test : Site → Bool = λ s. same_place (place_of s) p in
    one_more site_of test (same_place c.place.result p) (row_at c.loop-site.rows p) (row_at c.add.new.self p) e (take i xs) (ap (λ q. same_place q p) c.place.ensures) (c.in_ok-add.ensures p) (c.loop-site.invariant p)
    ∙ ap (λ es. filter test (map site_of es)) (sym (take_more xs i e c.loop-site-test.true ∙ ap (λ x. take i xs ++ x ∷ []) (sym c.site-item.is)))
