-- Lists and sets of names, and one item more that is looked at.
use Rattle.std.proofs.Common.{◌≡◌, ◌∙◌, ℕ, ◌+◌, ◌<◌, ◌||◌, Bool, true, false, cond, nat_eq, List, [], ◌∷◌, ◌++◌, length, map, filter, take, get_or, refl, sym, ap}
use Rattle.std.proofs.lemmas.List.{take_more, map-append}
use Rattle.std.proofs.lemmas.List.Elements.{filter-append}
use Rattle.std.proofs.lemmas.List.Folds.{list_any-append}
use Rattle.std.specs.HashSet.{HashSet, contains}
use Rattle.cdi_deployment.specs.Lists.{stands_in}
use Rattle.cdi_bean_check.specs.NameSets.{HasNames}

module _ {X Y : Type 0} (p : X → Bool) (f : X → Y) (xs : List X) (i : ℕ) (x : X) (lt : i < length xs) (is : x ≡ get_or xs i x) where
  -- what a loop over a list has picked, with the next item
  next_picked : map f (filter p (take (i + 1) xs)) ≡ map f (filter p (take i xs)) ++ map f (cond (p x) (x ∷ []) [])
  next_picked =
      ap (λ ys. map f (filter p ys)) (take_more xs i x lt ∙ ap (λ y. take i xs ++ y ∷ []) (sym is))
      ∙ ap (map f) (filter-append p (take i xs) (x ∷ []))
      ∙ map-append f (filter p (take i xs)) (filter p (x ∷ []))

  pub one_picked : p x ≡ true → map f (filter p (take (i + 1) xs)) ≡ map f (filter p (take i xs)) ++ f x ∷ []
  one_picked e = next_picked ∙ ap (λ b. map f (filter p (take i xs)) ++ map f (cond b (x ∷ []) [])) e

  pub none_picked : p x ≡ false → map f (filter p (take (i + 1) xs)) ≡ map f (filter p (take i xs)) ++ []
  none_picked e = next_picked ∙ ap (λ b. map f (filter p (take i xs)) ++ map f (cond b (x ∷ []) [])) e

or_last : (a b : Bool) → cond a true b ≡ (b || (a || false))
or_last true true = refl
or_last true false = refl
or_last false true = refl
or_last false false = refl

-- a set with one name more
pub one_more : {S : Type 0} (names : List ℕ) (name : ℕ) (set larger : HashSet ℕ S) → HasNames names set → ((q : ℕ) → contains nat_eq larger q ≡ cond (nat_eq name q) true (contains nat_eq set q)) → HasNames (names ++ name ∷ []) larger
one_more names name set larger has is = record {
  same = λ q. is q ∙ ap (λ b. cond (nat_eq name q) true b) (has.same q) ∙ or_last (nat_eq name q) (stands_in names q) ∙ sym (list_any-append (λ n. nat_eq n q) names (name ∷ []));
}
