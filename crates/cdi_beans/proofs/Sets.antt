-- A set has what the list of its uses has.
use Rattle.std.proofs.Common.{◌≡◌, ◌∙◌, ◌↔◌, ℕ, not, Bool, true, false, ◌||◌, ◌&&◌, List, [], ◌∷◌, refl, sym, ap}
use Rattle.std.proofs.lemmas.List.Folds.{Any-from_list_any, list_any-from_Any}
use Rattle.std.specs.List.{Any, Contains, list_any, list_all}
use Rattle.cdi_quals.specs.Order.{compare_qualifiers}
use Rattle.cdi_quals.specs.OrderedSet.{IsOrderedSet}
use Rattle.cdi_quals.specs.Qualifiers.{has, has_all, same_binding}
use Rattle.cdi_quals.specs.declared.qualifier.Qualifier.{Qualifier}

implied : (a b : Bool) → (a ≡ true → b ≡ true) → (b ≡ true → a ≡ true) → a ≡ b
implied true b f g = sym (f refl)
implied false true f g = g refl
implied false false f g = refl

module _ {X : Type 0} (p : X → Bool) where
  any_within : (xs ys : List X) → ((x : X) → Contains xs x → Contains ys x) → list_any p xs ≡ true → list_any p ys ≡ true
  any_within xs ys within e =
      let found : Any (λ x. p x ≡ true) xs = Any-from_list_any p xs e in
      let there : Contains ys found.1 = within found.1 (found.0, found.2, found.3) in
      list_any-from_Any p ys (there.0, found.1, there.1, there.2, found.4)

  pub same_any : (xs ys : List X) → ((x : X) → Contains xs x ↔ Contains ys x) → list_any p xs ≡ list_any p ys
  same_any xs ys same = implied (list_any p xs) (list_any p ys) (any_within xs ys (λ x. (same x).0)) (any_within ys xs (λ x. (same x).1))

not_all : {X : Type 0} (p : X → Bool) (xs : List X) → list_all p xs ≡ not (list_any (λ x. not (p x)) xs)
not_all p [] = refl
not_all p (x ∷ xs) = by (p x) (not_all p xs)
  where
    by : (b : Bool) → list_all p xs ≡ not (list_any (λ x. not (p x)) xs) → (b && list_all p xs) ≡ not (not b || list_any (λ x. not (p x)) xs)
    by true e = e
    by false e = refl

same_all : {X : Type 0} (p q : X → Bool) (xs ys : List X) → ((x : X) → p x ≡ q x) → ((x : X) → Contains xs x ↔ Contains ys x) → list_all p xs ≡ list_all q ys
same_all p q xs ys agree same =
    not_all p xs ∙ ap not (same_any (λ x. not (p x)) xs ys same) ∙ sym (not_all p ys) ∙ ap (λ r. list_all r ys) (λ i x. agree x i)

pub same_having : (names : List (List ℕ)) (uses set required wanted : List Qualifier) → IsOrderedSet (compare_qualifiers names) uses set → IsOrderedSet (compare_qualifiers names) required wanted → has_all set wanted ≡ has_all uses required
same_having names uses set required wanted is are = same_all (has set) (has uses) wanted required (λ q. same_any (same_binding q) set uses is.same) are.same
