-- A row's bits after a write to its words.
use Rattle.std.proofs.Common.{◌≡◌, ◌≢◌, ◌∙◌, ℕ, ◌*◌, ◌/◌, ◌%◌, ◌^◌, ◌<◌, max, Bool, true, false, ◌||◌, nat_eq, List, length, get_or, set, bit_or, sym, ap, ◌⊎◌, inl, inr, arith}
use Rattle.std.proofs.Math.Nat.{div-add-mod}
use Rattle.std.proofs.lemmas.Bool.{cases_eq}
use Rattle.std.proofs.lemmas.Bool.Decides.{nat_tests}
use Rattle.std.proofs.lemmas.List.{get_or-set_same, get_or-set_other}
use Rattle.std.proofs.lemmas.Nat.Bits.{bit_at_or, bit_at-lt, bit_at_set_same, bit_at_set_other}
use Rattle.std.specs.Int.{bit_at, w64}
use Rattle.cdi_paths.specs.BitRow.{has_bit}

-- a test of the larger of two bits
either : (a b : ℕ) → a < 2 → b < 2 → nat_eq (max a b) 1 ≡ (nat_eq a 1 || nat_eq b 1)
either a b x y = grind (arith, nat_tests)

one : (a : ℕ) (b : Bool) → a ≡ 1 → true ≡ (b || nat_eq a 1)
one a b e = grind (arith, nat_tests)

word-put : (w b i : ℕ) → b < 64 → nat_eq (bit_at (bit_or w (1 * 2 ^ b % 2 ^ 64)) i) 1 ≡ (nat_eq (bit_at w i) 1 || nat_eq i b)
word-put w b i lt = by (cases_eq i b)
  where
    by : (i ≡ b) ⊎ (i ≢ b) → nat_eq (bit_at (bit_or w (1 * 2 ^ b % 2 ^ 64)) i) 1 ≡ (nat_eq (bit_at w i) 1 || nat_eq i b)
    by (inl e) =
        let set : bit_at (bit_or w (1 * 2 ^ b % 2 ^ 64)) i ≡ 1 = ap (bit_at (bit_or w (1 * 2 ^ b % 2 ^ 64))) e ∙ bit_at_set_same w64 w b lt in
        grind (arith, nat_tests, set)
    by (inr ne) =
        let kept : bit_at (bit_or w (1 * 2 ^ b % 2 ^ 64)) i ≡ bit_at w i = bit_at_set_other w64 w b lt i ne in
        grind (arith, nat_tests, kept)

pub has_bit-put : (ws : List ℕ) (w bit i : ℕ) → w ≡ get_or ws (bit / 64) 0 → bit / 64 < length ws
    → has_bit (set ws (bit / 64) (bit_or w (1 * 2 ^ (bit % 64) % 2 ^ 64))) i ≡ (has_bit ws i || nat_eq i bit)
has_bit-put ws w bit i is within = by (cases_eq (i / 64) (bit / 64))
  where
    word : ℕ
    word = bit_or w (1 * 2 ^ (bit % 64) % 2 ^ 64)

    same_bit : i / 64 ≡ bit / 64 → nat_eq (i % 64) (bit % 64) ≡ nat_eq i bit
    same_bit e = grind (arith, nat_tests, div-add-mod i 64, div-add-mod bit 64)

    other : i / 64 ≢ bit / 64 → nat_eq i bit ≡ false
    other ne = grind (arith, nat_tests, ne)

    by : (i / 64 ≡ bit / 64) ⊎ (i / 64 ≢ bit / 64) → has_bit (set ws (bit / 64) word) i ≡ (has_bit ws i || nat_eq i bit)
    by (inl e) =
        ap (λ w. nat_eq (bit_at w (i % 64)) 1) (ap (λ k. get_or (set ws (bit / 64) word) k 0) e ∙ get_or-set_same ws (bit / 64) word 0 within) ∙ word-put w (bit % 64) (i % 64) (omega arith)
        ∙ ap (λ x. nat_eq (bit_at x (i % 64)) 1 || nat_eq (i % 64) (bit % 64)) is
        ∙ ap (λ k. nat_eq (bit_at (get_or ws k 0) (i % 64)) 1 || nat_eq (i % 64) (bit % 64)) (sym e) ∙ ap (λ b. has_bit ws i || b) (same_bit e)
    by (inr ne) =
        ap (λ w. nat_eq (bit_at w (i % 64)) 1) (get_or-set_other ws (bit / 64) (i / 64) word 0 ne) ∙ grind (arith, nat_tests, other ne)

-- a row whose words are joined one by one
pub has_bit-join : (ws xs ys : List ℕ) (i : ℕ) → get_or ws (i / 64) 0 ≡ bit_or (get_or xs (i / 64) 0) (get_or ys (i / 64) 0) → has_bit ws i ≡ (has_bit xs i || has_bit ys i)
has_bit-join ws xs ys i word =
    let x = get_or xs (i / 64) 0 in
    let y = get_or ys (i / 64) 0 in
    ap (λ w. nat_eq (bit_at w (i % 64)) 1) word ∙ ap (λ b. nat_eq b 1) (bit_at_or x y (i % 64)) ∙ either (bit_at x (i % 64)) (bit_at y (i % 64)) (bit_at-lt x (i % 64)) (bit_at-lt y (i % 64))
