-- The bits of words behind which words with no bit were put.
use Rattle.std.proofs.Common.{◌≡◌, ◌∙◌, ℕ, zero, suc, ◌≤◌, ◌/◌, ◌%◌, ◌||◌, Bool, true, false, nat_eq, List, [], ◌∷◌, ◌++◌, length, take, replicate, get_or, refl, ap, arith}
use Rattle.std.proofs.lemmas.Bool.Decides.{nat_tests}
use Rattle.std.proofs.lemmas.List.{take_all}
use Rattle.std.specs.Int.{bit_at}
use Rattle.cdi_paths.specs.BitRow.{has_bit}

zeros : (k i : ℕ) → ◌≡◌ {A = ℕ} (get_or {A = ℕ} (replicate {A = ℕ} k 0) i 0) 0
zeros zero zero = refl
zeros zero (suc i) = refl
zeros (suc k) zero = refl
zeros (suc k) (suc i) = zeros k i

same_word : (ws : List ℕ) (k i : ℕ) → get_or (ws ++ replicate k 0) i 0 ≡ get_or ws i 0
same_word [] k zero = zeros k zero
same_word [] k (suc i) = zeros k (suc i)
same_word (w ∷ ws) k zero = refl
same_word (w ∷ ws) k (suc i) = same_word ws k i

-- no bit of them is another
pub has_bit-grown : (ws grown : List ℕ) (n k : ℕ) → length ws ≤ n → grown ≡ take n ws ++ replicate k 0 → (i : ℕ) → has_bit grown i ≡ has_bit ws i
has_bit-grown ws grown n k short is i =
    ap (λ vs. has_bit vs i) (is ∙ ap (λ vs. vs ++ replicate k 0) (take_all n ws short))
    ∙ ap (λ w. nat_eq (bit_at w (i % 64)) 1) (same_word ws k (i / 64))

-- a bit that was set, as the set of names tells it
pub one_more : (had : Bool) (i bit name : ℕ) → bit ≡ name → (had || nat_eq i bit) ≡ (nat_eq name i || had)
one_more true i bit name e = by (nat_eq name i)
  where
    by : (b : Bool) → true ≡ (b || true)
    by true = refl
    by false = refl
one_more false i bit name e = either (nat_eq name i) (nat_eq i bit) (grind (arith, nat_tests))
  where
    either : (a b : Bool) → b ≡ a → b ≡ (a || false)
    either true b e = e
    either false b e = e
