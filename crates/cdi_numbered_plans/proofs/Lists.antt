-- Lists that a loop goes over.
use Rattle.std.proofs.Common.{ℕ, ◌≡◌, ◌∙◌, ◌+◌, ◌<◌, Bool, true, false, cond, List, [], ◌∷◌, ◌++◌, map, filter, length, take, get_or, sym, ap}
use Rattle.std.specs.List.{list_all}
use Rattle.std.proofs.lemmas.List.{append-nil, map-append, take_more}
use Rattle.std.proofs.lemmas.List.Elements.{filter-append}
use Rattle.std.proofs.lemmas.List.Sums.{AllPass-from_list_all}

-- an item of a list in which each passes a test
pub passes : {X : Type 0} (test : X → Bool) (xs : List X) (i : ℕ) (x : X) → i < length xs → x ≡ get_or xs i x → list_all test xs ≡ true → test x ≡ true
passes test xs i x lt is all = ap test is ∙ AllPass-from_list_all test xs all i x lt

-- what passes a test, each changed, and one item more
module _ {X Y : Type 0} (test : X → Bool) (f : X → Y) (xs : List X) (i : ℕ) (x : X) (lt : i < length xs) (is : x ≡ get_or xs i x) where
  abbrev passed : List X → List Y
  passed items = map f (filter test items)

  one_more : (b : Bool) → test x ≡ b → passed (take (i + 1) xs) ≡ passed (take i xs) ++ map f (cond b (x ∷ []) [])
  one_more b e =
      ap passed (take_more xs i x lt ∙ ap (λ y. take i xs ++ y ∷ []) (sym is))
      ∙ ap (map f) (filter-append test (take i xs) (x ∷ []))
      ∙ map-append f (filter test (take i xs)) (filter test (x ∷ []))
      ∙ ap (λ t. passed (take i xs) ++ map f (cond t (x ∷ []) [])) e

  pub some_more : test x ≡ true → passed (take (i + 1) xs) ≡ passed (take i xs) ++ f x ∷ []
  some_more e = one_more true e

  pub none_more : test x ≡ false → passed (take (i + 1) xs) ≡ passed (take i xs)
  none_more e = one_more false e ∙ append-nil (passed (take i xs))
