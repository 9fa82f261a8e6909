-- The places of the interceptors that pass a test, one interceptor after the other.
use Rattle.std.proofs.Common.{◌≡◌, ◌∙◌, ℕ, zero, suc, ◌+◌, ◌-◌, ◌<◌, ◌≤◌, Bool, true, false, cond, List, [], ◌∷◌, length, drop, get_or, map, filter, refl, ap, arith}
use Rattle.std.specs.Prelude.{slice_get, slice_index}
use Rattle.std.specs.List.{enumerate_from}
use Rattle.std.specs.List.Sorted.{IsStrictlyIncreasing}
use Rattle.std.proofs.lemmas.List.{drop_all}
use Rattle.cdi_beans.specs.declared.bean.EnabledInterceptor.{EnabledInterceptor}
use Rattle.cdi_quals.proofs.Pairs.{next}
use Rattle.cdi_plans.specs.Chains.{places_from}

module _ (passes : EnabledInterceptor → Bool) where
  abbrev places_with : Bool → ℕ → EnabledInterceptor → List EnabledInterceptor → List ℕ
  places_with b i j js = map (λ p. p.0) (cond b ((i, j) ∷ filter (λ p. passes p.1) (enumerate_from (i + 1) js)) (filter (λ p. passes p.1) (enumerate_from (i + 1) js)))

  module _ (js : List EnabledInterceptor) (i : ℕ) (j : EnabledInterceptor) (lt : i < length js) (is : j ≡ get_or js i j) where
    first : places_from passes i (drop i js) ≡ places_with (passes j) i j (drop (i + 1) js)
    first = ap (places_from passes i) (next js i j lt is)

    -- one that passes
    pub taken : passes j ≡ true → places_from passes i (drop i js) ≡ i ∷ places_from passes (i + 1) (drop (i + 1) js)
    taken e = first ∙ ap (λ b. places_with b i j (drop (i + 1) js)) e

    -- one that doesn't
    pub passed_over : passes j ≡ false → places_from passes i (drop i js) ≡ places_from passes (i + 1) (drop (i + 1) js)
    passed_over e = first ∙ ap (λ b. places_with b i j (drop (i + 1) js)) e

  pub none_left : (js : List EnabledInterceptor) (i : ℕ) → length js ≤ i → places_from passes i (drop i js) ≡ []
  none_left js i past = ap (places_from passes i) (drop_all i js past)

  from_here : (k : ℕ) (js : List EnabledInterceptor) (i : ℕ) → i < length (places_from passes k js) → k ≤ slice_index (places_from passes k js) i
  from_here k [] i lt = absurd (omega arith)
  from_here k (j ∷ js) i lt = by (passes j) i lt (from_here (k + 1) js)
    where
      by : (b : Bool) (i : ℕ) → i < length (places_with b k j js) → ((i : ℕ) → i < length (places_from passes (k + 1) js) → k + 1 ≤ slice_index (places_from passes (k + 1) js) i) → k ≤ slice_index (places_with b k j js) i
      by false i lt more = let further = more i lt in omega arith
      by true zero lt more = omega arith
      by true (suc i) lt more = let further = more i (omega arith) in omega arith

  -- they rise
  pub rising : (k : ℕ) (js : List EnabledInterceptor) → IsStrictlyIncreasing (places_from passes k js)
  rising k [] i lt = absurd (omega arith)
  rising k (j ∷ js) i lt = by (passes j) i lt (rising (k + 1) js) (from_here (k + 1) js)
    where
      by : (b : Bool) (i : ℕ) → i + 1 < length (places_with b k j js) → IsStrictlyIncreasing (places_from passes (k + 1) js) → ((i : ℕ) → i < length (places_from passes (k + 1) js) → k + 1 ≤ slice_index (places_from passes (k + 1) js) i) → slice_index (places_with b k j js) i < slice_index (places_with b k j js) (i + 1)
      by false i lt rest above = rest i lt
      by true zero lt rest above = let further = above 0 (omega arith) in omega arith
      by true (suc i) lt rest above =
          let further : slice_index (places_from passes (k + 1) js) i < slice_index (places_from passes (k + 1) js) (i + 1) = rest i (omega arith) in
          let same : suc i + 1 ≡ suc (i + 1) = omega arith in
          rw same further

-- a list without its first item
pub get_behind : {X : Type 0} (x : X) (xs : List X) (n : ℕ) → 0 < n → slice_get (x ∷ xs) n ≡ slice_get xs (n - 1)
get_behind x xs zero h = absurd (omega arith)
get_behind x xs (suc n) h = let e : suc n - 1 ≡ n = omega arith in rw e refl

-- two tests that are passed by the same interceptors
pub same_places : (p q : EnabledInterceptor → Bool) → ((j : EnabledInterceptor) → p j ≡ q j) → (k : ℕ) (js : List EnabledInterceptor) → places_from p k js ≡ places_from q k js
same_places p q same k [] = refl
same_places p q same k (j ∷ js) = ap (λ b. places_with p b k j js) (same j) ∙ by (q j) (same_places p q same (k + 1) js)
  where
    by : (b : Bool) → places_from p (k + 1) js ≡ places_from q (k + 1) js → places_with p b k j js ≡ places_with q b k j js
    by true rest = ap (λ ps. k ∷ ps) rest
    by false rest = rest
