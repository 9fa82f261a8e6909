-- Places that are added list by list.
use Rattle.std.proofs.Common.{◌≡◌, ◌∙◌, ℕ, ◌+◌, ◌<◌, List, [], ◌∷◌, ◌++◌, length, map, take, get_or, sym, ap, subst, append_assoc, append-nil, Result, Ok, Err, IfOk}
use Rattle.std.specs.declared.alloc.AllocError.{AllocError}
use Rattle.std.proofs.lemmas.List.{take_more, flat_map_more, map-append}
use Rattle.std.specs.List.{flat_map}
use Rattle.cdi_base.specs.declared.place.Place.{Place}
use Rattle.cdi_problems.specs.Places.{once}
use Rattle.cdi_types.specs.ListsThose.{ListsThose}
use Rattle.cdi_body_check.specs.Findings.{AddsPlacesOf, ArePlacesOf}
use Rattle.cdi_body_check.specs.Sites.{Site, place_of}

module _ (P : Site → Type 0) where
  listed_both : {xs ys those others : List Site} → ListsThose P xs those → ListsThose P ys others → ListsThose P (xs ++ ys) (those ++ others)
  listed_both ListsThose.none rest = rest
  listed_both (ListsThose.keep p more) rest = ListsThose.keep p (listed_both more rest)
  listed_both (ListsThose.skip n more) rest = ListsThose.skip n (listed_both more rest)

  pub none_added : (found : List Place) → AddsPlacesOf P [] found found
  none_added found = record { those = []; listed = ListsThose.none; are = sym (append-nil found) }

  pub both_added : (xs ys : List Site) (a b c : List Place) → AddsPlacesOf P xs a b → AddsPlacesOf P ys b c → AddsPlacesOf P (xs ++ ys) a c
  both_added xs ys a b c first second = record {
    those = first.those ++ second.those;
    listed = listed_both first.listed second.listed;
    are =
        second.are ∙ ap (λ found. found ++ map place_of second.those) first.are
        ∙ append_assoc a (map place_of first.those) (map place_of second.those)
        ∙ ap (λ places. a ++ places) (sym (map-append place_of first.those second.those));
  }

  -- what is added to nothing, each once, is what is found
  pub all_found : (sites : List Site) (found listed : List Place) (r : Result (List Place) AllocError) → AddsPlacesOf P sites [] found → listed ≡ found → IfOk r (λ places. places ≡ once listed) → IfOk r (ArePlacesOf P sites)
  all_found sites found listed (Ok places) adds same e = record { those = adds.those; listed = adds.listed; are = e ∙ ap once (same ∙ adds.are) }
  all_found sites found listed (Err error) adds same e = e

  -- those of one item more
  pub next_added : {X : Type 0} (what : X → List Site) (xs : List X) (i : ℕ) (x : X) → i < length xs → x ≡ get_or xs i x → (a b c : List Place)
      → AddsPlacesOf P (flat_map what (take i xs)) a b → AddsPlacesOf P (what x) b c → AddsPlacesOf P (flat_map what (take (i + 1) xs)) a c
  next_added what xs i x lt is a b c before here =
      let more : flat_map what (take i xs) ++ what x ≡ flat_map what (take (i + 1) xs) =
      flat_map_more what [] (take i xs) x ∙ ap (λ y. flat_map what (take i xs ++ y ∷ [])) is ∙ ap (flat_map what) (sym (take_more xs i x lt)) in
      let Q : List Site → Type 0 = λ ss. AddsPlacesOf P ss a c in
      subst Q more (both_added (flat_map what (take i xs)) (what x) a b c before here)
