-- An item more, in the row at its place.
use Rattle.std.proofs.Common.{◌≡◌, ◌∙◌, Bool, true, false, cond, List, [], ◌∷◌, ◌++◌, map, filter, sym, ap, append-nil}
use Rattle.std.proofs.lemmas.List.{map-append}
use Rattle.std.proofs.lemmas.List.Elements.{filter-append}

module _ {A B : Type 0} (f : A → B) (test : B → Bool) where
  one : (here : Bool) (row : List A) (a : A) → here ≡ test (f a) → map f (cond here (row ++ a ∷ []) row) ≡ map f row ++ filter test (f a ∷ [])
  one true row a e = map-append f row (a ∷ []) ∙ ap (λ t. map f row ++ cond t (f a ∷ []) []) e
  one false row a e = sym (append-nil (map f row)) ∙ ap (λ t. map f row ++ cond t (f a ∷ []) []) e

  -- what a row shows with one item more
  pub one_more : (here : Bool) (row new : List A) (a : A) (listed : List A) → here ≡ test (f a) → new ≡ cond here (row ++ a ∷ []) row → map f row ≡ filter test (map f listed) → map f new ≡ filter test (map f (listed ++ a ∷ []))
  one_more here row new a listed e is so =
      ap (map f) is ∙ one here row a e ∙ ap (λ xs. xs ++ filter test (f a ∷ [])) so
      ∙ sym (ap (filter test) (map-append f listed (a ∷ [])) ∙ filter-append test (map f listed) (f a ∷ []))
