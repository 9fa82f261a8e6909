-- Lists of places in a list of what is kept: they tell the same if more is kept, and places are left out as what stands at them is.
use Rattle.std.proofs.Common.{ℕ, ◌<◌, length, length-append, ◌≡◌, ◌∙◌, Bool, true, false, cond, List, [], ◌∷◌, ◌++◌, map, filter, Some, slice_get, refl, ap, arith}
use Rattle.std.proofs.lemmas.List.{get_or_append_left}
use Rattle.std.proofs.lemmas.Option.{get_or_from_slice_get, slice_get-get_or, slice_get_within}

module _ {X : Type 0} where
  pub there_still : (kept more : List X) (place : ℕ) (x : X) → slice_get kept place ≡ Some x → slice_get (kept ++ more) place ≡ Some x
  there_still kept more place x e =
      let within : place < length kept = slice_get_within kept place x e in
      slice_get-get_or (kept ++ more) place x (omega (arith, within, length-append kept more))
      ∙ ap Some (get_or_append_left kept more x place within ∙ get_or_from_slice_get kept place x x e)

  module _ (kept : List X) where
    pub are_there_still : (more : List X) (places : List ℕ) (xs : List X) → map (slice_get kept) places ≡ map Some xs → map (slice_get (kept ++ more)) places ≡ map Some xs
    are_there_still more [] [] e = refl
    are_there_still more [] (x ∷ xs) e = absurd cc
    are_there_still more (p ∷ ps) [] e = absurd cc
    are_there_still more (p ∷ ps) (x ∷ xs) e =
        let first : slice_get kept p ≡ Some x = cc in
        let rest : map (slice_get kept) ps ≡ map Some xs = cc in
        ap (λ o. o ∷ map (slice_get (kept ++ more)) ps) (there_still kept more p x first)
        ∙ ap (λ os. Some x ∷ os) (are_there_still more ps xs rest)

    module _ (leaves : X → Bool) (leaves_place : ℕ → Bool) (same : (place : ℕ) (x : X) → slice_get kept place ≡ Some x → leaves_place place ≡ leaves x) where
      pub are_left : (places : List ℕ) (xs : List X) → map (slice_get kept) places ≡ map Some xs → map (slice_get kept) (filter leaves_place places) ≡ map Some (filter leaves xs)
      are_left [] [] e = refl
      are_left [] (x ∷ xs) e = absurd cc
      are_left (p ∷ ps) [] e = absurd cc
      are_left (p ∷ ps) (x ∷ xs) e =
          let first : slice_get kept p ≡ Some x = cc in
          let rest : map (slice_get kept) ps ≡ map Some xs = cc in
          ap (λ b. map (slice_get kept) (cond b (p ∷ filter leaves_place ps) (filter leaves_place ps))) (same p x first)
          ∙ by first (are_left ps xs rest) (leaves x)
        where
          by : slice_get kept p ≡ Some x → map (slice_get kept) (filter leaves_place ps) ≡ map Some (filter leaves xs)
              → (b : Bool) → map (slice_get kept) (cond b (p ∷ filter leaves_place ps) (filter leaves_place ps)) ≡ map Some (cond b (x ∷ filter leaves xs) (filter leaves xs))
          by first rest true = ap (λ o. o ∷ map (slice_get kept) (filter leaves_place ps)) first ∙ ap (λ os. Some x ∷ os) rest
          by first rest false = rest

-- the last one is at the end
pub is_last : {X : Type 0} (kept : List X) (x : X) → slice_get (kept ++ x ∷ []) (length kept) ≡ Some x
is_last [] x = refl
is_last (y ∷ kept) x = is_last kept x
