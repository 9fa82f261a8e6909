use Rattle.cdi_class_lives.specs.Kept.{are_below}
use Rattle.std.proofs.Common.{◌≤◌, arith, length-append, rules, ◌≡◌, ◌∙◌, ◌++◌, ◌∷◌, [], length, map, Some, slice_get, refl, sym, ap, append_assoc, append-nil}
use Rattle.std.proofs.lemmas.Iterator.Adapters.{YieldsList-from_vec}
use Rattle.std.proofs.lemmas.Iterator.Consumers.{YieldsList-end}
use Rattle.std.proofs.lemmas.List.{map-append, map-id}
use Rattle.cdi_class_lives.proofs.Keeping.{are_below_both, are_below_more, below_if_told}
use Rattle.cdi_class_lives.proofs.Kept.{are_there_still, is_last}
use Rattle.cdi_class_lives.proofs.places.keep_all.Goals as goal

pub loop-item-init : goal.loop-item-init
loop-item-init g c = record { kept = sym (append-nil c.args.kept.now); added = []; places = sym (append-nil c.args.places.now); told = refl }

pub loop-item-preserved : goal.loop-item-preserved
loop-item-preserved g c =
    let inv = c.loop-item.invariant in
    let kept = c.loop-item.kept in
    let item = c.in-Some.item in
    let place = c.in-Ok.place in
    let more : c.push.new.self ≡ kept ++ item ∷ [] = c.in_ok-push.ensures.ok in
    let at : place ≡ length kept = search rules in
    record {
      kept = more ∙ ap (λ xs. xs ++ item ∷ []) inv.kept ∙ append_assoc c.args.kept.now c.loop-item.yielded (item ∷ []);
      added = inv.added ++ place ∷ [];
      places = c.in_ok-push-2.ensures.ok ∙ ap (λ ps. ps ++ place ∷ []) inv.places ∙ append_assoc c.args.places.now inv.added (place ∷ []);
      told =
          ap (λ xs. map (slice_get xs) (inv.added ++ place ∷ [])) more
          ∙ map-append (slice_get (kept ++ item ∷ [])) inv.added (place ∷ [])
          ∙ ap (λ os. os ++ slice_get (kept ++ item ∷ []) place ∷ []) (are_there_still kept (item ∷ []) inv.added c.loop-item.yielded inv.told)
          ∙ ap (λ o. map Some c.loop-item.yielded ++ o ∷ []) (ap (slice_get (kept ++ item ∷ [])) at ∙ is_last kept item)
          ∙ sym (map-append Some c.loop-item.yielded (item ∷ []));
    }

pub returns-clause-places : goal.returns-clause-places
returns-clause-places g c =
    let inv = c.loop-item.invariant in
    let gives = c.into_iter-item-iterator.ensures.into_iter_gives in
    let all = YieldsList-end (YieldsList-from_vec {s = c.into_iter-item-iterator.result} c.into_vec-item-items.result.items gives.0 (gives.1 ∙ c.into_vec-item-items.result.ok.0)) c.loop-item.yielded c.loop-item.item-iterator c.loop-item.yielded_by c.next.result c.next.new.self c.in-None.is c.next.ensures.steps in
    let whole : c.loop-item.yielded ≡ c.args.items = sym (map-id c.loop-item.yielded) ∙ all.0 ∙ c.into_vec-item-items.ensures in
    ap (map (slice_get c.loop-item.kept)) inv.places
    ∙ map-append (slice_get c.loop-item.kept) c.args.places.now inv.added
    ∙ ap (λ os. map (slice_get c.loop-item.kept) c.args.places.now ++ os) (inv.told ∙ ap (map Some) whole)

pub returns-clause-below : goal.returns-clause-below
returns-clause-below g c =
    let inv = c.loop-item.invariant in
    let kept = c.loop-item.kept in
    let grown : length c.args.kept.now ≤ length kept = omega (arith, ap length inv.kept, length-append c.args.kept.now c.loop-item.yielded) in
    λ e.
    ap (are_below (length kept)) inv.places
    ∙ are_below_both (length kept) c.args.places.now inv.added
    (are_below_more (length c.args.kept.now) (length kept) c.args.places.now grown e)
    (below_if_told kept inv.added c.loop-item.yielded inv.told)
