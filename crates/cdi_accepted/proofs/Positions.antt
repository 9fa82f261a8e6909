-- Where items stand in a list.
use Rattle.std.proofs.Common.{ℕ, zero, suc, ◌≡◌, ◌<◌, ◌+◌, ◌∙◌, inl, inr, Bool, true, false, cond, not, List, [], ◌∷◌, length, get_or, Some, None, refl, sym, ap, subst, arith}
use Rattle.std.specs.Prelude.{position, slice_get}
use Rattle.std.proofs.lemmas.Bool.{lt-ltb, true≢false}
use Rattle.std.proofs.lemmas.List.Quantifiers.{position-Some}
use Rattle.std.proofs.lemmas.Option.{same_Some, slice_get-get_or}
use Rattle.std.specs.List.{enumerate_from, position_or_len}
use Rattle.cdi_accepted.proofs.Lists.{Among}

-- what stands at a position passes
pub record IsFound {A : Type 0} (p : A → Bool) (xs : List A) (n : ℕ) : Type 0 where
  pub item : A
  pub has : slice_get xs n ≡ Some item
  pub passes : p item ≡ true

pub found_at : {A : Type 0} (p : A → Bool) (xs : List A) (n : ℕ) → position p xs ≡ Some n → IsFound p xs n
found_at p [] n e = absurd cc
found_at {A} p (x ∷ xs) n e =
    let at = position-Some p (x ∷ xs) n x e in
    record { item = get_or (x ∷ xs) n x; has = slice_get-get_or (x ∷ xs) n x at.0; passes = at.1 }

pub numbered_at : {A : Type 0} (first : ℕ) (xs : List A) (i : ℕ) (x : A) → slice_get xs i ≡ Some x → Among (first + i, x) (enumerate_from first xs)
numbered_at first [] i x e = absurd cc
numbered_at {A} first (y ∷ ys) zero x e = let one : first + 0 ≡ first = omega arith in inl (ap (λ (n : ℕ). (n, x)) one ∙ ap (λ (z : A). (first, z)) (sym (same_Some y x e)))
numbered_at {A} first (y ∷ ys) (suc i) x e =
    let one : (first + 1) + i ≡ first + suc i = omega arith in
    inr (subst (λ (n : ℕ). Among (n, x) (enumerate_from (first + 1) ys)) one (numbered_at (first + 1) ys i x e))

first_below : {A : Type 0} (p : A → Bool) (xs : List A) (x : A) → Among x xs → p x ≡ true → position_or_len p xs < length xs
first_below p [] x a e = absurd a
first_below {A} p (y ∷ ys) x a e = by (p y) refl a (first_below p ys x)
  where
    by : (b : Bool) → p y ≡ b → Among x (y ∷ ys) → (Among x ys → p x ≡ true → position_or_len p ys < length ys) → cond (not b) (1 + position_or_len p ys) 0 < suc (length ys)
    by true f q rec = omega arith
    by false f (inl same) rec = absurd (true≢false (sym e ∙ ap p same ∙ f))
    by false f (inr q) rec = let lt = rec q e in omega arith

-- where an item passes, one is found
pub some_position : {A : Type 0} (p : A → Bool) (xs : List A) (x : A) → Among x xs → p x ≡ true → position p xs ≡ Some (position_or_len p xs)
some_position p xs x a e = ap (λ b. cond b (Some (position_or_len p xs)) None) (lt-ltb (position_or_len p xs) (length xs) (first_below p xs x a e))
