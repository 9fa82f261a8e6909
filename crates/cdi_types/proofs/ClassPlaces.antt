-- The first element that passes a test, by its place.
use Rattle.std.proofs.Common.{Bor, ◌≤◌, refl, ◌≡◌, ◌∙◌, ℕ, ◌+◌, ◌<◌, Bool, true, false, cond, List, [], ◌∷◌, ◌++◌, length, take, get_or, slice_get, position, Option, Some, None, sym, ap, arith}
use Rattle.std.proofs.lemmas.Bool.Decides.{nat_tests}
use Rattle.std.proofs.lemmas.Grind.{common_steps}
use Rattle.std.proofs.lemmas.List.{take_more}
use Rattle.std.proofs.lemmas.List.Folds.{find_at}
use Rattle.std.proofs.lemmas.Option.{slice_get_past, slice_get_read}
use Rattle.std.specs.Bool.{nat_lt}
use Rattle.std.specs.List.{find, position_or_len}
use Rattle.std.specs.Option.{option_copied, is_some, IfSome}
use Rattle.cdi_types.proofs.Places.{or_here, position-push}

module _ {X : Type 0} (p : X → Bool) where
  pub position-more : (xs : List X) (i : ℕ) (x : X) → i < length xs → x ≡ get_or xs i x → position p (take (i + 1) xs) ≡ or_here (position p (take i xs)) (p x) i
  position-more xs i x within is =
      let len : length (take i xs) ≡ i = grind (arith, common_steps) in
      ap (position p) (take_more xs i x within) ∙ ap (λ y. position p (take i xs ++ y ∷ [])) (sym is) ∙ position-push p (take i xs) x ∙ ap (or_here (position p (take i xs)) (p x)) len

  pub found_at : (xs : List X) (i : ℕ) → position p xs ≡ Some i → find p xs ≡ slice_get xs i
  found_at xs i e = find_at p xs ∙ ap (slice_get xs) (by (nat_lt (position_or_len p xs) (length xs)) e)
    where
      by : (b : Bool) → cond b (Some (position_or_len p xs)) None ≡ Some i → position_or_len p xs ≡ i
      by true h = cc
      by false h = absurd cc

-- what stands at a place of a slice, read there
pub got : {X : Type 0} (r : Option (Bor X)) (xs : List X) (i : ℕ) → is_some r ≡ nat_lt i (length xs) → IfSome r (λ x. x.now ≡ get_or xs i x.now) → option_copied r ≡ slice_get xs i
got None xs i past is = let h : length xs ≤ i = grind (arith, nat_tests) in sym (slice_get_past xs i h)
got (Some x) xs i within is = let h : i < length xs = grind (arith, nat_tests) in sym (slice_get_read xs (length xs) i x.now refl h is)
