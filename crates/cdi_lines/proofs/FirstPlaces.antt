-- The first place of a byte, as it is found and as it is defined.
use Rattle.std.proofs.Common.{◌≡◌, ◌∙◌, ℕ, Bool, true, false, cond, List, length, position, Option, Some, None, inl, inr, sym, ap, arith}
use Rattle.std.proofs.lemmas.Bool.{cases_Bool, le-ltb, lt-ltb}
use Rattle.std.proofs.lemmas.List.Sums.{position_or_len_is}
use Rattle.std.specs.List.{position_or_len}
use Rattle.std.specs.Prelude.{nat_lt, slice_index}
use Rattle.memchr.specs.Find.{IsFirstByte}

module _ (test : ℕ → Bool) (bytes : List ℕ) where
  fails : (k : ℕ) → (test (slice_index bytes k) ≡ true → ⊥) → test (slice_index bytes k) ≡ false
  fails k other = elim (cases_Bool (test (slice_index bytes k))) [ inl holds ↦ absurd (other holds) | inr not ↦ not ]

  at_place : (n : ℕ) → position_or_len test bytes ≡ n → position test bytes ≡ cond (nat_lt n (length bytes)) (Some n) None
  at_place n is = ap (λ m. cond (nat_lt m (length bytes)) (Some m) None) is

  pub first_place : (found : Option ℕ) → IsFirstByte test bytes found → found ≡ position test bytes
  first_place None nowhere =
      let n = length bytes in
      let is = position_or_len_is test bytes n 0 (omega arith) (λ k lt. fails k (nowhere k (omega arith) lt)) (λ lt. absurd (omega (arith, lt))) in
      sym (at_place n is ∙ ap (λ b. cond b (Some n) None) (le-ltb n n (omega arith)))
  first_place (Some k) (none, holds) =
      let is = position_or_len_is test bytes k 0 (omega (arith, none.high)) (λ j lt. fails j (none.before j (omega arith) lt)) (λ lt. holds) in
      sym (at_place k is ∙ ap (λ b. cond b (Some k) None) (lt-ltb k (length bytes) none.high))
