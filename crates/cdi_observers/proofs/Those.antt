-- Lists of those items for which something holds.
use Rattle.std.proofs.Common.{◌≡◌, ◌∙◌, ◌↔◌, ℕ, ◌+◌, ◌<◌, Bool, true, false, cond, List, [], ◌∷◌, ◌++◌, length, get_or, take, map, filter, refl, sym, ap, subst, ◌⊎◌, inl, inr, arith}
use Rattle.std.specs.List.{AllByRecursion, Contains}
use Rattle.std.proofs.lemmas.List.Elements.{Contains-append_right}
use Rattle.std.proofs.lemmas.Bool.{true≢false}
use Rattle.std.proofs.lemmas.List.{take_more}
use Rattle.cdi_types.specs.ListsThose.{ListsThose}
use Rattle.cdi_types.proofs.Listings.{keep_last, skip_last}
use Rattle.cdi_types.proofs.Listed.{not_in_none, first_or_later}

module _ {X : Type 0} {P : X → Type 0} where
  -- there is one such list
  pub only_those : {xs ys zs : List X} → ListsThose P xs ys → ListsThose P xs zs → ys ≡ zs
  only_those ListsThose.none ListsThose.none = refl
  only_those (ListsThose.keep {x = x} p k) (ListsThose.keep q l) = ap (λ ys. x ∷ ys) (only_those k l)
  only_those (ListsThose.keep p k) (ListsThose.skip n l) = absurd (n p)
  only_those (ListsThose.skip n k) (ListsThose.keep q l) = absurd (n q)
  only_those (ListsThose.skip n k) (ListsThose.skip m l) = only_those k l

  -- of each item that is looked at it holds or doesn't
  pub decided : {xs ys : List X} (x : X) → ListsThose P xs ys → Contains xs x → P x ⊎ (P x → ⊥)
  decided x ListsThose.none there = absurd (not_in_none [] x refl there)
  decided x (ListsThose.keep {x = y} {xs = xs} p k) there =
      elim (first_or_later y xs x there) [ inl same ↦ inl (subst P same p) | inr later ↦ decided x k later ]
  decided x (ListsThose.skip {x = y} {xs = xs} n k) there =
      elim (first_or_later y xs x there) [ inl same ↦ inr (let N : X → Type 0 = λ z. P z → ⊥ in subst N same n) | inr later ↦ decided x k later ]

  pub list_those : (xs : List X) → ((x : X) → Contains xs x → P x ⊎ (P x → ⊥)) → (ys : List X) × ListsThose P xs ys
  list_those [] told = ([], ListsThose.none)
  list_those (x ∷ xs) told =
      let rest = list_those xs (λ y there. told y (Contains-append_right (x ∷ []) xs y there)) in
      elim (told x (0, omega arith, refl)) [ inl p ↦ (x ∷ rest.0, ListsThose.keep p rest.1) | inr n ↦ (rest.0, ListsThose.skip n rest.1) ]

  -- those of a part, made into other items of which the same holds
  pub those_made : {Y : Type 0} {Q : Y → Type 0} (f : X → Y) (test : X → Bool) {xs ys : List X} → AllByRecursion (λ x. P x ↔ Q (f x)) xs → ListsThose P xs ys → ListsThose Q (map f (filter test xs)) (map f (filter test ys))
  those_made f test same ListsThose.none = ListsThose.none
  those_made {Q = Q} f test same (ListsThose.keep {x = x} {xs = xs} {found = found} p k) = by (test x) (those_made f test same.1 k)
    where
      by : (b : Bool) → ListsThose Q (map f (filter test xs)) (map f (filter test found)) → ListsThose Q (map f (cond b (x ∷ filter test xs) (filter test xs))) (map f (cond b (x ∷ filter test found) (filter test found)))
      by true rest = ListsThose.keep (same.0.0 p) rest
      by false rest = rest
  those_made {Q = Q} f test same (ListsThose.skip {x = x} {xs = xs} {found = found} n k) = by (test x) (those_made f test same.1 k)
    where
      by : (b : Bool) → ListsThose Q (map f (filter test xs)) (map f (filter test found)) → ListsThose Q (map f (cond b (x ∷ filter test xs) (filter test xs))) (map f (filter test found))
      by true rest = ListsThose.skip (λ q. n (same.0.1 q)) rest
      by false rest = rest

  -- what holds of each holds of those
  pub held_by_those : (H : X → Type 0) {xs ys : List X} → AllByRecursion H xs → ListsThose P xs ys → AllByRecursion H ys
  held_by_those H all ListsThose.none = tt
  held_by_those H all (ListsThose.keep p k) = (all.0, held_by_those H all.1 k)
  held_by_those H all (ListsThose.skip n k) = held_by_those H all.1 k

-- the next item of a loop is one of those, or it isn't
module _ {X : Type 0} {P : X → Type 0} (xs ys : List X) (i : ℕ) (x : X) (lt : i < length xs) (is : x ≡ get_or xs i x) (so_far : ListsThose P (take i xs) ys) where
  next : take i xs ++ x ∷ [] ≡ take (i + 1) xs
  next = ap (λ y. take i xs ++ y ∷ []) is ∙ sym (take_more xs i x lt)

  pub one_more : P x → ListsThose P (take (i + 1) xs) (ys ++ x ∷ [])
  one_more p = let Q : List X → Type 0 = λ zs. ListsThose P zs (ys ++ x ∷ []) in subst Q next (keep_last x so_far p)

  pub no_more : (P x → ⊥) → ListsThose P (take (i + 1) xs) ys
  no_more n = let Q : List X → Type 0 = λ zs. ListsThose P zs ys in subst Q next (skip_last x so_far n)

pub in_map : {X Y : Type 0} (f : X → Y) (xs : List X) (x : X) → Contains xs x → Contains (map f xs) (f x)
in_map f [] x there = absurd (not_in_none [] x refl there)
in_map {Y = Y} f (y ∷ ys) x there =
    elim (first_or_later y ys x there) [
      | inl same ↦ (let P : Y → Type 0 = λ z. Contains (f y ∷ map f ys) z in subst P (ap f same) (0, omega arith, refl))
      | inr later ↦ Contains-append_right (f y ∷ []) (map f ys) (f x) (in_map f ys x later)
    ]

module _ {X : Type 0} (test : X → Bool) where
  pub in_filter : (xs : List X) (x : X) → Contains xs x → test x ≡ true → Contains (filter test xs) x
  in_filter [] x there passes = absurd (not_in_none [] x refl there)
  in_filter (y ∷ ys) x there passes = by (test y) refl (in_filter ys x)
    where
      by : (b : Bool) → test y ≡ b → (Contains ys x → test x ≡ true → Contains (filter test ys) x) → Contains (cond b (y ∷ filter test ys) (filter test ys)) x
      by true is rest =
          elim (first_or_later y ys x there) [
            | inl same ↦ (let P : X → Type 0 = λ z. Contains (y ∷ filter test ys) z in subst P same (0, omega arith, refl))
            | inr later ↦ Contains-append_right (y ∷ []) (filter test ys) x (rest later passes)
          ]
      by false is rest =
          elim (first_or_later y ys x there) [ inl same ↦ absurd (true≢false (sym passes ∙ ap test (sym same) ∙ is)) | inr later ↦ rest later passes ]

  pub from_filter : (xs : List X) (x : X) → Contains (filter test xs) x → Contains xs x
  from_filter [] x there = there
  from_filter (y ∷ ys) x there = by (test y) there (from_filter ys x)
    where
      by : (b : Bool) → Contains (cond b (y ∷ filter test ys) (filter test ys)) x → (Contains (filter test ys) x → Contains ys x) → Contains (y ∷ ys) x
      by true e rest =
          elim (first_or_later y (filter test ys) x e) [
            | inl same ↦ (let P : X → Type 0 = λ z. Contains (y ∷ ys) z in subst P same (0, omega arith, refl))
            | inr later ↦ Contains-append_right (y ∷ []) ys x (rest later)
          ]
      by false e rest = Contains-append_right (y ∷ []) ys x (rest e)

  pub same_filter : (other : X → Bool) → ((x : X) → test x ≡ other x) → (xs : List X) → filter test xs ≡ filter other xs
  same_filter other same [] = refl
  same_filter other same (x ∷ xs) = ap (λ b. cond b (x ∷ filter test xs) (filter test xs)) (same x) ∙ ap (λ ys. cond (other x) (x ∷ ys) ys) (same_filter other same xs)
