-- A value that is put on a page.
use Rattle.std.proofs.Common.{◌≡◌, ◌≢◌, ◌∙◌, ℕ, ◌<◌, ◌≤◌, cond, ◌&&◌, nat_eq, List, [], length, get_or, set, replicate, Option, None, sym, ap, ◌⊎◌, inl, inr, arith}
use Rattle.std.proofs.lemmas.Bool.{cases_eq, cases_lt, eq-eqb, ne_eqb, cond-true, cond-false, and_from, and_left, and_right}
use Rattle.std.proofs.lemmas.List.{get_or-set_same, get_or-set_other, get_or-replicate, get_or_past, length-replicate}
use Rattle.cdi_shared_maps.specs.Pages.{value_on}

-- a list of one value over and over, also past its end
pub get_or-replicate_same : {X : Type 0} (n i : ℕ) (d : X) → get_or (replicate n d) i d ≡ d
get_or-replicate_same n i d = by (cases_lt i n)
  where
    by : (i < n) ⊎ (n ≤ i) → get_or (replicate n d) i d ≡ d
    by (inl lt) = get_or-replicate n i d d lt
    by (inr ge) = get_or_past (replicate n d) i d (omega (arith, ge, length-replicate n d))

-- the values after one is put at a place of a page
pub value_on-set : (pages : List (List (Option ℕ))) (row : List (Option ℕ)) (page place : ℕ) (value : Option ℕ)
    → page < length pages → place < length row → row ≡ get_or pages page []
    → (n i : ℕ) → value_on (set pages page (set row place value)) n i ≡ cond (nat_eq n page && nat_eq i place) value (value_on pages n i)
value_on-set pages row page place value within inside read n i = by (cases_eq n page) (cases_eq i place)
  where
    on : n ≡ page → value_on (set pages page (set row place value)) n i ≡ get_or (set row place value) i None
    on e =
        ap (λ (k : ℕ). value_on (set pages page (set row place value)) k i) e
        ∙ ap (λ (p : List (Option ℕ)). get_or p i None) (get_or-set_same pages page (set row place value) [] within)

    by : (n ≡ page) ⊎ (n ≢ page) → (i ≡ place) ⊎ (i ≢ place)
        → value_on (set pages page (set row place value)) n i ≡ cond (nat_eq n page && nat_eq i place) value (value_on pages n i)
    by (inl a) (inl b) =
        on a
        ∙ ap (λ (k : ℕ). get_or (set row place value) k None) b
        ∙ get_or-set_same row place value None inside
        ∙ sym (cond-true (nat_eq n page && nat_eq i place) value (value_on pages n i) (and_from (nat_eq n page) (nat_eq i place) (eq-eqb n page a) (eq-eqb i place b)))
    by (inl a) (inr b) =
        on a
        ∙ get_or-set_other row place i value None b
        ∙ ap (λ (p : List (Option ℕ)). get_or p i None) read
        ∙ ap (λ (k : ℕ). value_on pages k i) (sym a)
        ∙ sym (cond-false (nat_eq n page && nat_eq i place) value (value_on pages n i) (and_right (nat_eq n page) (nat_eq i place) (ne_eqb i place b)))
    by (inr a) b =
        ap (λ (p : List (Option ℕ)). get_or p i None) (get_or-set_other pages page n (set row place value) [] a)
        ∙ sym (cond-false (nat_eq n page && nat_eq i place) value (value_on pages n i) (and_left (nat_eq n page) (nat_eq i place) (ne_eqb n page a)))
