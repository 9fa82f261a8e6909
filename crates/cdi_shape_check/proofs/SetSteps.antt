-- Sets of names and of methods, and one item more that is looked at.
use Rattle.std.proofs.Common.{◌≡◌, ◌∙◌, ℕ, ◌+◌, ◌<◌, ◌||◌, Bool, true, false, cond, nat_eq, List, [], ◌∷◌, ◌++◌, length, map, take, get_or, refl, sym, ap}
use Rattle.std.proofs.lemmas.List.{take_more, map_push, flat_map_more}
use Rattle.std.proofs.lemmas.List.Folds.{list_any-append}
use Rattle.std.specs.HashSet.{HashSet, contains}
use Rattle.std.specs.List.{list_any, flat_map}
use Rattle.cdi_name_check.specs.NameSets.{HasNames, HasPairs, same_pair}

module _ {X : Type 0} (xs : List X) (i : ℕ) (x : X) (lt : i < length xs) (is : x ≡ get_or xs i x) where
  longer : take (i + 1) xs ≡ take i xs ++ x ∷ []
  longer = take_more xs i x lt ∙ ap (λ y. take i xs ++ y ∷ []) (sym is)

  -- a test for some item, with the next item
  pub any_next : (p : X → Bool) → list_any p (take (i + 1) xs) ≡ (list_any p (take i xs) || (p x || false))
  any_next p = ap (list_any p) longer ∙ list_any-append p (take i xs) (x ∷ [])

  module _ {Y : Type 0} (f : X → Y) where
    mapped : map f (take (i + 1) xs) ≡ map f (take i xs) ++ f x ∷ []
    mapped = ap (map f) longer ∙ map_push f (take i xs) x

    any_mapped : (p : Y → Bool) → list_any p (map f (take (i + 1) xs)) ≡ (list_any p (map f (take i xs)) || (p (f x) || false))
    any_mapped p = ap (list_any p) mapped ∙ list_any-append p (map f (take i xs)) (f x ∷ [])

    -- what another item more lists
    pub listed_mapped : {Z : Type 0} (g : Y → List Z) (so_far : List Z) → so_far ≡ flat_map g (map f (take i xs)) → so_far ++ g (f x) ≡ flat_map g (map f (take (i + 1) xs))
    listed_mapped g so_far e = ap (λ zs. zs ++ g (f x)) e ∙ flat_map_more g [] (map f (take i xs)) (f x) ∙ ap (flat_map g) (sym mapped)

or_last : (here before found : Bool) → cond here true (before || found) ≡ (before || (found || (here || false)))
or_last true true found = refl
or_last true false true = refl
or_last true false false = refl
or_last false true found = refl
or_last false false true = refl
or_last false false false = refl

or_none : (before found : Bool) → (before || found) ≡ (before || (found || (false || false)))
or_none true found = refl
or_none false true = refl
or_none false false = refl

or_nothing : (a b : Bool) → (a || b) ≡ (a || (b || false))
or_nothing true b = refl
or_nothing false true = refl
or_nothing false false = refl

-- an item's own key is added, or none is
module _ {X : Type 0} (test : X → Bool) (xs : List X) (i : ℕ) (x : X) (lt : i < length xs) (is : x ≡ get_or xs i x) (before now larger : Bool) (so_far : now ≡ (before || list_any test (take i xs))) where
  pub key_added : (here : Bool) → test x ≡ here → larger ≡ cond here true now → larger ≡ (before || list_any test (take (i + 1) xs))
  key_added here e added =
      added ∙ ap (cond here true) so_far ∙ or_last here before (list_any test (take i xs))
      ∙ ap (λ b. before || (list_any test (take i xs) || (b || false))) (sym e)
      ∙ ap (λ b. before || b) (sym (any_next xs i x lt is test))

  pub none_added : test x ≡ false → now ≡ (before || list_any test (take (i + 1) xs))
  none_added e =
      so_far ∙ or_none before (list_any test (take i xs))
      ∙ ap (λ b. before || (list_any test (take i xs) || (b || false))) (sym e)
      ∙ ap (λ b. before || b) (sym (any_next xs i x lt is test))

-- what one item more adds to a set
module _ {X Y S : Type 0} (f : X → Y) (xs : List X) (i : ℕ) (x : X) (lt : i < length xs) (is : x ≡ get_or xs i x) where
  pub names_added : (test : ℕ → Y → Bool) (set larger : HashSet ℕ S) → HasNames (λ name. list_any (test name) (map f (take i xs))) set
      → ((name : ℕ) → contains nat_eq larger name ≡ (contains nat_eq set name || test name (f x))) → HasNames (λ name. list_any (test name) (map f (take (i + 1) xs))) larger
  names_added test set larger so_far added = record {
    same = λ name.
        added name ∙ ap (λ b. b || test name (f x)) (so_far.same name) ∙ or_nothing (list_any (test name) (map f (take i xs))) (test name (f x))
        ∙ sym (any_mapped xs i x lt is f (test name));
  }

  pub pairs_added : (test : ℕ → ℕ → Y → Bool) (set larger : HashSet (ℕ × ℕ) S) → HasPairs (λ name count. list_any (test name count) (map f (take i xs))) set
      → ((name count : ℕ) → contains same_pair larger (name, count) ≡ (contains same_pair set (name, count) || test name count (f x)))
      → HasPairs (λ name count. list_any (test name count) (map f (take (i + 1) xs))) larger
  pairs_added test set larger so_far added = record {
    same = λ name count.
        added name count ∙ ap (λ b. b || test name count (f x)) (so_far.same name count) ∙ or_nothing (list_any (test name count) (map f (take i xs))) (test name count (f x))
        ∙ sym (any_mapped xs i x lt is f (test name count));
  }
