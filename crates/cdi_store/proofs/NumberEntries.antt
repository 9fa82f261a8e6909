-- What an index finds among its entries, and what a change of the entries is to its numbers.
use Rattle.std.proofs.Common.{◌≡◌, ◌≢◌, ◌∙◌, ℕ, ◌+◌, ◌-◌, ◌<◌, ◌≤◌, zero, suc, List, [], ◌∷◌, ◌++◌, cond, length, get_or, set, map, Option, Some, None, Result, Ok, Err, Bool, true, false, IsSome, IsNone, is_some, inl, inr, refl, sym, ap, subst, arith, eq-eqb}
use Rattle.std.specs.Option.{option_map}
use Rattle.std.specs.Result.{result_ok}
use Rattle.std.specs.List.{All, AllByRecursion, HoldsAt, cons_option, filter_map}
use Rattle.std.specs.List.Sorted.{IsSearchInRange, IsBinarySearchResult, IsNonDecreasingBy}
use Rattle.std.specs.Ordering.{nat_cmp, ordering_index}
use Rattle.std.proofs.lemmas.Bool.{cases_lt}
use Rattle.std.proofs.lemmas.Bool.Decides.{nat_tests}
use Rattle.std.proofs.lemmas.Cmp.{ranked}
use Rattle.std.proofs.lemmas.List.{length_push}
use Rattle.std.proofs.lemmas.List.Elements.{All-from_recursion, recursion_from_All, All-set, All-push, All-filter, filter_map-append}
use Rattle.cdi_base.specs.Maps.{Map, at, without}
use Rattle.cdi_store.specs.declared.number_index.Entry.{Entry}
use Rattle.cdi_store.specs.NumberEntries.{AreAllBelow, AreCounted, AreAscending, IsPlaceOf, live_ones, pair_of, pairs_in}
use Rattle.cdi_store.specs.Slots.{AreBelow}
use Rattle.cdi_store.proofs.Absent.{without-absent}
use Rattle.cdi_store.proofs.Numbers.{equal_or_not}

-- ---- a pair in front

at-same : (e : Entry) (n : ℕ) (m : Map ℕ) → e.number ≡ n → at m n ≡ None → at (cons_option (pair_of e) m) n ≡ e.slot
at-same e n m same none = by e.slot
  where
    by : (o : Option ℕ) → at (cons_option (option_map (λ slot. (e.number, slot)) o) m) n ≡ o
    by None = none
    by (Some slot) = rw (same, eq-eqb n n refl) refl

at-other : (e : Entry) (n : ℕ) (m : Map ℕ) → e.number ≢ n → at (cons_option (pair_of e) m) n ≡ at m n
at-other e n m differs = by e.slot
  where
    by : (o : Option ℕ) → at (cons_option (option_map (λ slot. (e.number, slot)) o) m) n ≡ at m n
    by None = refl
    by (Some slot) = elim (equal_or_not n e.number) [ inl s ↦ absurd (differs (sym s.1)) | inr s ↦ rw s.0 refl ]

without-same : (e : Entry) (n : ℕ) (m : Map ℕ) → e.number ≡ n → at m n ≡ None → without n (cons_option (pair_of e) m) ≡ m
without-same e n m same none = by e.slot
  where
    by : (o : Option ℕ) → without n (cons_option (option_map (λ slot. (e.number, slot)) o) m) ≡ m
    by None = without-absent m n none
    by (Some slot) = rw (same, eq-eqb n n refl) (without-absent m n none)

without-other : (e : Entry) (n : ℕ) (m : Map ℕ) → e.number ≢ n → without n (cons_option (pair_of e) m) ≡ cons_option (pair_of e) (without n m)
without-other e n m differs = by e.slot
  where
    by : (o : Option ℕ) → without n (cons_option (option_map (λ slot. (e.number, slot)) o) m) ≡ cons_option (option_map (λ slot. (e.number, slot)) o) (without n m)
    by None = refl
    by (Some slot) = elim (equal_or_not n e.number) [ inl s ↦ absurd (differs (sym s.1)) | inr s ↦ rw s.0 refl ]

-- ---- what is found

absent : (es : List Entry) (n : ℕ) → AllByRecursion (λ e. e.number ≢ n) es → at (pairs_in es) n ≡ None
absent [] n h = refl
absent (e ∷ more) n h = at-other e n (pairs_in more) h.0 ∙ absent more n h.1

-- a number that no entry has is absent
pub at-absent : (es : List Entry) (n : ℕ) → All (λ e. e.number ≢ n) es → at (pairs_in es) n ≡ None
at-absent es n h = absent es n (recursion_from_All (λ e. e.number ≢ n) es h)

-- nor has a later entry the number of the first one
later : (e : Entry) (more : List Entry) (n : ℕ) → e.number ≡ n → AllByRecursion (λ f. e.number < f.number) more → at (pairs_in more) n ≡ None
later e more n same h =
    at-absent more n (λ k d l is. let above = All-from_recursion (λ f. e.number < f.number) more h k d l in omega arith)

before : (e : Entry) (more : List Entry) (n k : ℕ) (d : Entry) → AllByRecursion (λ f. e.number < f.number) more → k < length more → (get_or more k d).number ≡ n → e.number < n
before e more n k d h l is = let above = All-from_recursion (λ f. e.number < f.number) more h k d l in omega arith

-- the entry of a number has its slot
pub at-place : (es : List Entry) (n k : ℕ) (d : Entry) → AreAscending es → k < length es → (get_or es k d).number ≡ n → at (pairs_in es) n ≡ (get_or es k d).slot
at-place [] n k d h l is = absurd (omega arith)
at-place (e ∷ more) n zero d h l is = at-same e n (pairs_in more) is (later e more n is h.0)
at-place (e ∷ more) n (suc k) d h l is =
    let below = before e more n k d h.0 (omega arith) is in
    at-other e n (pairs_in more) (λ same. omega arith) ∙ at-place more n k d h.1 (omega arith) is

-- ---- a search

ascending : (es : List Entry) → AreAscending es → (i j : ℕ) (d : Entry) → i ≤ j → j < length es → (get_or es i d).number ≤ (get_or es j d).number
ascending [] h i j d le lt = absurd (omega arith)
ascending (e ∷ more) h zero zero d le lt = omega arith
ascending (e ∷ more) h zero (suc j) d le lt =
    let above = All-from_recursion (λ f. e.number < f.number) more h.0 j d (omega arith) in omega arith
ascending (e ∷ more) h (suc i) zero d le lt = absurd (omega arith)
ascending (e ∷ more) h (suc i) (suc j) d le lt = ascending more h.1 i j d (omega arith) (omega arith)

higher : (a b n : ℕ) → a ≤ b → ordering_index (nat_cmp a n) ≤ ordering_index (nat_cmp b n)
higher a b n le = grind (arith, nat_tests)

comparisons_rise : (es : List Entry) (n : ℕ) → AreAscending es → IsNonDecreasingBy (λ e. ordering_index (nat_cmp e.number n)) es
comparisons_rise es n h = λ i j d le lt. higher (get_or es i d).number (get_or es j d).number n (ascending es h i j d le lt)

-- a binary search ends at the entry of a number, or there is none
pub searched : (es : List Entry) (n : ℕ) (r : Result ℕ ℕ) (place : Option ℕ) → AreAscending es → IsSearchInRange r (length es) → IsBinarySearchResult (λ e. nat_cmp e.number n) es r → place ≡ result_ok r → IsPlaceOf n es place
searched es n (Ok k) place h within equal is = rw is (within, λ d. ranked _ n _ (sym (equal d)))
searched es n (Err k) place h within parted is = rw is (λ i d l same. elim (cases_lt i k) [
  | inl s ↦ let below = ranked _ n _ (sym ((parted (comparisons_rise es n h)).0 i d (omega arith) s)) in omega arith
  | inr s ↦ let above = ranked _ n _ (sym ((parted (comparisons_rise es n h)).1 i d s l)) in omega arith
])

-- ---- an entry whose instance is gone

pub pairs-gone : (es : List Entry) (n k : ℕ) (d e : Entry) → AreAscending es → k < length es → (get_or es k d).number ≡ n → e.slot ≡ None → pairs_in (set es k e) ≡ without n (pairs_in es)
pairs-gone [] n k d e h l is gone = absurd (omega arith)
pairs-gone (f ∷ more) n zero d e h l is gone = rw gone (sym (without-same f n (pairs_in more) is (later f more n is h.0)))
pairs-gone (f ∷ more) n (suc k) d e h l is gone =
    let below = before f more n k d h.0 (omega arith) is in
    ap (cons_option (pair_of f)) (pairs-gone more n k d e h.1 (omega arith) is gone)
    ∙ sym (without-other f n (pairs_in more) (λ same. omega arith))

length-front : (e : Entry) (m : Map ℕ) (o : Option ℕ) → e.slot ≡ o → length (cons_option (pair_of e) m) ≡ length m + cond (is_some o) 1 0
length-front e m None is = rw is (omega arith)
length-front e m (Some slot) is = rw is (omega arith)

pub length-gone : (es : List Entry) (k : ℕ) (d e : Entry) → k < length es → IsSome (get_or es k d).slot → e.slot ≡ None → length (pairs_in (set es k e)) + 1 ≡ length (pairs_in es)
length-gone [] k d e l some gone = absurd (omega arith)
length-gone (f ∷ more) zero d e l some gone = by f.slot refl some
  where
    by : (o : Option ℕ) → f.slot ≡ o → IsSome o → length (cons_option (pair_of e) (pairs_in more)) + 1 ≡ length (cons_option (pair_of f) (pairs_in more))
    by None is some' = absurd (cc)
    by (Some slot) is some' = omega (arith, length-front e (pairs_in more) None gone, length-front f (pairs_in more) (Some slot) is)
length-gone (f ∷ more) (suc k) d e l some gone =
    omega (arith, length-gone more k d e (omega arith) some gone, length-front f (pairs_in (set more k e)) f.slot refl, length-front f (pairs_in more) f.slot refl)

pub ascending-set : (es : List Entry) (k : ℕ) (d e : Entry) → AreAscending es → k < length es → (get_or es k d).number ≡ e.number → AreAscending (set es k e)
ascending-set [] k d e h l is = absurd (omega arith)
ascending-set (f ∷ more) zero d e h l is = (rw (← is) h.0, h.1)
ascending-set (f ∷ more) (suc k) d e h l is =
    let P = λ (g : Entry). f.number < g.number in (
      recursion_from_All P (set more k e) (All-set P more k e (before f more e.number k d h.0 (omega arith) is) (All-from_recursion P more h.0)),
      ascending-set more k d e h.1 (omega arith) is,
    )

-- the place has the entry of the number
abbrev Has : ℕ → List Entry → ℕ → Type 0
Has n es k = (k < length es) × HoldsAt (λ (e : Entry). e.number ≡ n) es k

-- the same list by another name
has : (xs es : List Entry) (n k : ℕ) → xs ≡ es → Has n xs k → Has n es k
has xs es n k same there = subst (λ l. Has n l k) same there

-- what is read at the place of a number is its slot
pub at-found : (xs es : List Entry) (n k : ℕ) (e : Entry) → xs ≡ es → AreAscending es → Has n xs k → e ≡ get_or es k e → at (pairs_in es) n ≡ e.slot
at-found xs es n k e same h there is =
    let t = has xs es n k same there in
    at-place es n k e h t.0 (t.1 e) ∙ ap (λ (f : Entry). f.slot) (sym is)

-- nothing changes where no entry has the number
pub without-none : (xs es : List Entry) (n : ℕ) → xs ≡ es → All (λ e. e.number ≢ n) xs → pairs_in es ≡ without n (pairs_in es)
without-none xs es n same h =
    sym (without-absent (pairs_in es) n (at-absent es n (subst (λ l. All (λ (e : Entry). e.number ≢ n) l) same h)))

-- or where the instance is gone already
pub without-gone : (xs es : List Entry) (n k : ℕ) (e : Entry) → xs ≡ es → AreAscending es → Has n xs k → e ≡ get_or es k e → IsNone e.slot → pairs_in es ≡ without n (pairs_in es)
without-gone xs es n k e same h there is gone =
    sym (without-absent (pairs_in es) n (at-found xs es n k e same h there is ∙ none e.slot gone))
  where
    none : (o : Option ℕ) → IsNone o → o ≡ None
    none None _ = refl
    none (Some slot) h = absurd (cc)

-- what holds once a live instance is gone
pub record IsLeft (es : List Entry) (n k live : ℕ) (e : Entry) : Type 0 where
  pub counted : AreCounted (set es k e) (live - 1)
  pub pairs : pairs_in (set es k e) ≡ without n (pairs_in es)
  pub positive : 1 ≤ live

-- d is the entry at the place, and e, which has its number, takes its place
pub left : (xs es : List Entry) (n k live : ℕ) (d e : Entry) → xs ≡ es → AreCounted es live → Has n xs k → d ≡ get_or es k d → IsSome d.slot → e ≡ get_or es k e → IsLeft es n k live (record { number = e.number; slot = None })
left xs es n k live d e same h there is some at =
    let t = has xs es n k same there in
    let gone : Entry = record { number = e.number; slot = None } in
    let lives : IsSome (get_or es k d).slot = rw (← is) some in
    let number : n ≡ e.number = sym (t.1 e) ∙ ap (λ (f : Entry). f.number) (sym at) in
    let fewer = length-gone es k d gone t.0 lives refl in
    let count = h.count in
    record {
      counted = record { ascending = ascending-set es k d gone h.ascending t.0 (t.1 d ∙ number); count = omega arith };
      pairs = pairs-gone es n k d gone h.ascending t.0 (t.1 d) refl;
      positive = omega arith;
    }

-- ---- the entries whose instances live

pub pairs-live : (es : List Entry) → pairs_in (live_ones es) ≡ pairs_in es
pairs-live [] = refl
pairs-live (e ∷ more) = by e.slot refl ∙ ap (cons_option (pair_of e)) (pairs-live more)
  where
    by : (o : Option ℕ) → e.slot ≡ o → pairs_in (cond (is_some o) (e ∷ live_ones more) (live_ones more)) ≡ cons_option (pair_of e) (pairs_in (live_ones more))
    by None is = rw is refl
    by (Some slot) is = refl

pub ascending-live : (es : List Entry) → AreAscending es → AreAscending (live_ones es)
ascending-live [] h = h
ascending-live (e ∷ more) h = by (is_some e.slot) (ascending-live more h.1)
  where
    P : Entry → Type 0
    P f = e.number < f.number

    by : (b : Bool) → AreAscending (live_ones more) → AreAscending (cond b (e ∷ live_ones more) (live_ones more))
    by true rest = (recursion_from_All P (live_ones more) (All-filter (λ f. is_some f.slot) P more (All-from_recursion P more h.0)), rest)
    by false rest = rest

pub below-live : (n : ℕ) (es : List Entry) → AreBelow n (pairs_in es) → AreAllBelow n (live_ones es)
below-live n [] h = h
below-live n (e ∷ more) h = by e.slot h (below-live n more)
  where
    by : (o : Option ℕ) → AreBelow n (cons_option (option_map (λ slot. (e.number, slot)) o) (pairs_in more)) → (AreBelow n (pairs_in more) → AreAllBelow n (live_ones more)) → AreAllBelow n (cond (is_some o) (e ∷ live_ones more) (live_ones more))
    by None i rest = rest i
    by (Some slot) i rest = (i.0, rest i.1)

-- ---- an entry at the end

pub ascending-last : (es : List Entry) (e : Entry) → AreAllBelow e.number es → AreAscending es → AreAscending (es ++ e ∷ [])
ascending-last [] e below h = (tt, tt)
ascending-last (f ∷ more) e below h =
    let P = λ (g : Entry). f.number < g.number in
    (recursion_from_All P (more ++ e ∷ []) (All-push P more e (All-from_recursion P more h.0) below.0), ascending-last more e below.1 h.1)

pub pairs-last : (es : List Entry) (n slot : ℕ) → pairs_in (es ++ record { number = n; slot = Some slot } ∷ []) ≡ pairs_in es ++ (n, slot) ∷ []
pairs-last es n slot = filter_map-append pair_of es (record { number = n; slot = Some slot } ∷ [])

-- all numbers are below one that is above the last
pub below-end : (n : ℕ) (es : List Entry) (k : ℕ) (d : Entry) → k + 1 ≡ length es → AreAscending es → (get_or es k d).number < n → AreAllBelow n es
below-end n [] k d last h below = tt
below-end n (e ∷ []) zero d last h below = (below, tt)
below-end n (e ∷ f ∷ more) zero d last h below = absurd (omega arith)
below-end n (e ∷ more) (suc k) d last h below =
    let above = All-from_recursion (λ f. e.number < f.number) more h.0 k d (omega arith) in
    (omega arith, below-end n more k d (omega arith) h.1 below)

pub length-pairs : (es : List Entry) → length (pairs_in es) ≤ length es
length-pairs [] = omega arith
length-pairs (e ∷ more) = by e.slot refl (length-pairs more)
  where
    by : (o : Option ℕ) → e.slot ≡ o → length (pairs_in more) ≤ length more → length (cons_option (pair_of e) (pairs_in more)) ≤ suc (length more)
    by None is rest = rw is (omega arith)
    by (Some slot) is rest = rw is (omega arith)

pub pushed : (old es : List Entry) (live n slot : ℕ) → AreAscending es → AreAllBelow n es → pairs_in es ≡ pairs_in old → AreCounted old live → AreCounted (es ++ record { number = n; slot = Some slot } ∷ []) (live + 1)
pushed old es live n slot h below same counted =
    let e : Entry = record { number = n; slot = Some slot } in
    let count = counted.count in
    record {
      ascending = ascending-last es e below h;
      count = rw (pairs-last es n slot, same) (omega (arith, length_push (pairs_in old) (n, slot)));
    }

-- ---- the numbers

pub numbers-in : (es : List Entry) → filter_map (λ e. option_map (λ slot. e.number) e.slot) es ≡ map (λ p. p.0) (pairs_in es)
numbers-in [] = refl
numbers-in (e ∷ more) = by e.slot (numbers-in more)
  where
    by : (o : Option ℕ) → filter_map (λ f. option_map (λ slot. f.number) f.slot) more ≡ map (λ p. p.0) (pairs_in more) → cons_option (option_map (λ slot. e.number) o) (filter_map (λ f. option_map (λ slot. f.number) f.slot) more) ≡ map (λ p. p.0) (cons_option (option_map (λ slot. (e.number, slot)) o) (pairs_in more))
    by None rest = rest
    by (Some slot) rest = ap (λ r. e.number ∷ r) rest
