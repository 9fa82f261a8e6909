use Rattle.std.proofs.Common.{◌∙◌, [], ◌∷◌, ◌++◌, map, true≢false, sym, ap, append-nil, append_assoc}
use Rattle.std.proofs.lemmas.List.{map-append}
use Rattle.cdi_types.specs.ListsThose.{ListsThose}
use Rattle.cdi_types.proofs.Listings.{keep_next, skip_next}
use Rattle.cdi_body_check.specs.Sites.{site_of, place_of}
use Rattle.cdi_body_check.proofs.finding.add_places.Goals as goal
use Rattle.cdi_body_check.proofs.finding.add_places.Goals.{then-holds+in_ok-push, else-holds}

pub loop-site-init : goal.loop-site-init
loop-site-init g c = record { those = []; listed = ListsThose.none; are = sym (append-nil _) }

pub loop-site-preserved : goal.loop-site-preserved
loop-site-preserved g c =
    let i = c.loop-site in
    let s = c.site-item.result in
    let those = i.invariant.those in
    elim c.if-holds.branch [
      | then-holds+in_ok-push w ↦ record {
        those = those ++ site_of s ∷ [];
        listed = keep_next site_of c.args.sites.now i.site-index s those c.loop-site-test.true c.site-item.is i.invariant.listed (c.holds.ensures.0 w.if-holds.true);
        are =
            w.found-is ∙ w.in_ok-push.ensures.ok ∙ ap (λ found. found ++ w.place.result ∷ []) i.invariant.are
            ∙ ap (λ p. (c.args.found.now ++ map place_of those) ++ p ∷ []) w.place.ensures
            ∙ append_assoc c.args.found.now (map place_of those) (place_of (site_of s) ∷ [])
            ∙ ap (λ places. c.args.found.now ++ places) (sym (map-append place_of those (site_of s ∷ [])));
      }
      | else-holds w ↦ record {
        those = those;
        listed = skip_next site_of c.args.sites.now i.site-index s those c.loop-site-test.true c.site-item.is i.invariant.listed (λ h. true≢false (sym (c.holds.ensures.1 h) ∙ w.if-holds.false));
        are = w.found-is ∙ i.invariant.are;
      }
    ]
