use Rattle.std.proofs.Common.{◌∙◌, [], ◌∷◌, ◌++◌, map, true≢false, sym, ap, refl}
use Rattle.std.proofs.lemmas.List.{map-append}
use Rattle.cdi_types.specs.ListsThose.{ListsThose}
use Rattle.cdi_types.proofs.Listings.{keep_next, skip_next}
use Rattle.cdi_problems.specs.Elements.{element_of, place_of}
use Rattle.cdi_problems.proofs.finding.list_places.Goals as goal
use Rattle.cdi_problems.proofs.finding.list_places.Goals.{then-holds+in_ok-push, else-holds}

pub loop-element-init : goal.loop-element-init
loop-element-init g c = rw c.empty-found.ensures (record { those = []; listed = ListsThose.none; are = refl })

pub loop-element-preserved : goal.loop-element-preserved
loop-element-preserved g c =
    let i = c.loop-element in
    let e = c.element-item.result in
    elim c.if-holds.branch [
      | then-holds+in_ok-push w ↦ record {
        those = i.invariant.those ++ element_of e ∷ [];
        listed =
            keep_next element_of c.args.elements.now i.element-index e i.invariant.those c.loop-element-test.true c.element-item.is i.invariant.listed (c.holds.ensures.0 w.if-holds.true);
        are =
            w.found-is ∙ w.in_ok-push.ensures.ok ∙ ap (λ found. found ++ w.place.result ∷ []) i.invariant.are
            ∙ ap (λ p. map place_of i.invariant.those ++ p ∷ []) w.place.ensures
            ∙ sym (map-append place_of i.invariant.those (element_of e ∷ []));
      }
      | else-holds w ↦ record {
        those = i.invariant.those;
        listed =
            skip_next element_of c.args.elements.now i.element-index e i.invariant.those c.loop-element-test.true c.element-item.is i.invariant.listed (λ h. true≢false (sym (c.holds.ensures.1 h) ∙ w.if-holds.false));
        are = w.found-is ∙ i.invariant.are;
      }
    ]
