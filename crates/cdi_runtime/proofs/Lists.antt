-- Lists, their items and tests of these.
use Rattle.std.proofs.Common.{ℕ, zero, suc, ◌≡◌, ◌<◌, ◌||◌, Bool, true, false, List, [], ◌∷◌, length, map, Some, IsSome, refl, sym, ap, subst, arith}
use Rattle.std.specs.Prelude.{option_map, slice_get}
use Rattle.std.proofs.lemmas.Bool.{and_parts, true≢false}
use Rattle.std.proofs.lemmas.Option.{same_Some}
use Rattle.std.specs.List.{list_all, list_any}

module _ {X : Type 0} where
  -- an item of a list that passes a test passes it
  pub passes_at : (test : X → Bool) (xs : List X) (i : ℕ) (x : X) → list_all test xs ≡ true → slice_get xs i ≡ Some x → test x ≡ true
  passes_at test [] i x h e = absurd cc
  passes_at test (y ∷ ys) zero x h e = let P : X → Type 0 = λ z. test z ≡ true in subst P (same_Some y x e) (and_parts (test y) (list_all test ys) h).0
  passes_at test (y ∷ ys) (suc i) x h e = passes_at test ys i x (and_parts (test y) (list_all test ys) h).1 e

  -- an item of a list has a place in it
  pub within : (xs : List X) (i : ℕ) → IsSome (slice_get xs i) → i < length xs
  within [] i some = absurd cc
  within (y ∷ ys) zero some = omega arith
  within (y ∷ ys) (suc i) some = let less = within ys i some in omega (arith, less)

  -- what passes one test and fails the other isn't there
  pub none_passes : (test other : X → Bool) (xs : List X) → ((x : X) → test x ≡ true → other x ≡ true → ⊥) → list_all other xs ≡ true → list_any test xs ≡ true → ⊥
  none_passes test other [] apart h e = absurd (true≢false (sym e))
  none_passes test other (y ∷ ys) apart h e = by (and_parts (other y) (list_all other ys) h) (λ k f. none_passes test other ys apart k f) (test y) refl e
    where
      by : (other y ≡ true) × (list_all other ys ≡ true) → (list_all other ys ≡ true → list_any test ys ≡ true → ⊥) → (b : Bool) → test y ≡ b → (b || list_any test ys) ≡ true → ⊥
      by parts later true is f = apart y is parts.0
      by parts later false is f = later parts.1 f

module _ {X Y : Type 0} (f : X → Y) where
  pub mapped_at : (xs : List X) (i : ℕ) → slice_get (map f xs) i ≡ option_map f (slice_get xs i)
  mapped_at [] i = refl
  mapped_at (x ∷ xs) zero = refl
  mapped_at (x ∷ xs) (suc i) = mapped_at xs i

  pub mapped_length : (xs : List X) → length (map f xs) ≡ length xs
  mapped_length [] = refl
  mapped_length (x ∷ xs) = ap suc (mapped_length xs)
