-- A list of found items, and one item more that is looked at.
use Rattle.std.proofs.Common.{◌≡◌, ◌∙◌, ℕ, ◌+◌, ◌<◌, List, [], ◌∷◌, ◌++◌, length, map, take, get_or, sym, ap, subst}
use Rattle.std.proofs.lemmas.List.{take_more, map_push}
use Rattle.cdi_types.specs.ListsThose.{ListsThose}

-- a loop over a list reads the next item
next_item : {X Y : Type 0} (f : Y → X) (ys : List Y) (i : ℕ) (y : Y) → i < length ys → y ≡ get_or ys i y → map f (take i ys) ++ f y ∷ [] ≡ map f (take (i + 1) ys)
next_item f ys i y lt is = sym (map_push f (take i ys) y) ∙ ap (λ z. map f (take i ys ++ z ∷ [])) is ∙ ap (map f) (sym (take_more ys i y lt))

module _ {X : Type 0} {P : X → Type 0} where
  pub keep_last : {xs kept : List X} (x : X) → ListsThose P xs kept → P x → ListsThose P (xs ++ x ∷ []) (kept ++ x ∷ [])
  keep_last x ListsThose.none p = ListsThose.keep p ListsThose.none
  keep_last x (ListsThose.keep q rest) p = ListsThose.keep q (keep_last x rest p)
  keep_last x (ListsThose.skip n rest) p = ListsThose.skip n (keep_last x rest p)

  pub skip_last : {xs kept : List X} (x : X) → ListsThose P xs kept → ¬ P x → ListsThose P (xs ++ x ∷ []) kept
  skip_last x ListsThose.none p = ListsThose.skip p ListsThose.none
  skip_last x (ListsThose.keep q rest) p = ListsThose.keep q (skip_last x rest p)
  skip_last x (ListsThose.skip n rest) p = ListsThose.skip n (skip_last x rest p)

  -- the next item of a loop is kept
  pub keep_next : {Y : Type 0} (f : Y → X) (ys : List Y) (i : ℕ) (y : Y) (kept : List X) → i < length ys → y ≡ get_or ys i y → ListsThose P (map f (take i ys)) kept → P (f y) → ListsThose P (map f (take (i + 1) ys)) (kept ++ f y ∷ [])
  keep_next f ys i y kept lt is k p = let Q : List X → Type 0 = λ xs. ListsThose P xs (kept ++ f y ∷ []) in subst Q (next_item f ys i y lt is) (keep_last (f y) k p)

  -- or does not
  pub skip_next : {Y : Type 0} (f : Y → X) (ys : List Y) (i : ℕ) (y : Y) (kept : List X) → i < length ys → y ≡ get_or ys i y → ListsThose P (map f (take i ys)) kept → ¬ P (f y) → ListsThose P (map f (take (i + 1) ys)) kept
  skip_next f ys i y kept lt is k p = let Q : List X → Type 0 = λ xs. ListsThose P xs kept in subst Q (next_item f ys i y lt is) (skip_last (f y) k p)
