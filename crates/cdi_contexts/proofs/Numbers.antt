-- What the numbers of a context's instances are when an entry changes, and that the last of them is the greatest.
use Rattle.std.proofs.Common.{◌≡◌, ◌∙◌, ℕ, refl, ap, sym, [], ◌∷◌, cond, not, true, false, true≢false, Bool, Some, None, Option, ◌==◌, ◌≤◌, ◌&&◌, ◌||◌, max, arith}
use Rattle.std.specs.Bool.{nat_lt}
use Rattle.std.specs.Map.{keys_of}
use Rattle.std.specs.BTreeMap.{is_at}
use Rattle.std.specs.Ordering.{nat_cmp, is_eq, is_lt, ordering_then}
use Rattle.std.specs.List.{AllByRecursion}
use Rattle.std.specs.List.Sorted.{IsStrictlySortedBy}
use Rattle.std.proofs.lemmas.Map.Keys.{sorted_head, sorted_tail}
use Rattle.std.proofs.lemmas.Map.Views.{exact_unsigned_eq}
use Rattle.std.specs.declared.cmp.Ordering.{Ordering}
use Rattle.std.specs.declared.cmp.Ordering.TheVariants.{Less, Equal, Greater}
use Rattle.cdi_base.specs.Maps.{Map, at}
use Rattle.cdi_contexts.specs.declared.context.Held.{Held}
use Rattle.cdi_contexts.specs.declared.context.Held.TheVariants.{Making, Is}
use Rattle.cdi_contexts.specs.declared.places.Place.{Place}
use Rattle.cdi_contexts.specs.declared.places.Places.{Places}
use Rattle.cdi_contexts.specs.Contexts.{fits, greater, greatest}
use Rattle.cdi_contexts.specs.Places.{has_number, is_listed, is_place, place_cmp, Adds, IsLast, IsOutline, Replaces, Takes}
use Rattle.cdi_contexts.proofs.Entries.{is_equal}

abbrev place : ℕ → ℕ → Place
place number bean = record { number = number; bean = bean }

both_equal : (a b : Ordering) → is_eq (ordering_then a b) ≡ (is_eq b && is_eq a)
both_equal Less Less = refl
both_equal Less Equal = refl
both_equal Less Greater = refl
both_equal Equal Less = refl
both_equal Equal Equal = refl
both_equal Equal Greater = refl
both_equal Greater Less = refl
both_equal Greater Equal = refl
both_equal Greater Greater = refl

pub is_at-place : (number bean : ℕ) (q : Place) → is_at (place_cmp (place number bean)) q ≡ is_place bean (Some (Is number)) q
is_at-place number bean q =
    both_equal (nat_cmp number q.number) (nat_cmp bean q.bean)
    ∙ ap (λ b. b && is_eq (nat_cmp number q.number)) (is_equal bean q.bean) ∙ ap (λ b. (bean == q.bean) && b) (is_equal number q.number)

never : (b : Bool) → (b && false) ≡ false
never true = refl
never false = refl

pub making-apart : (bean : ℕ) (p : Place) → is_place bean (Some Making) p ≡ false
making-apart bean p = never (bean == p.bean)

pub added : (b o : Bool) → cond b true o ≡ (b || o)
added true o = refl
added false o = refl

pub taken : (b o : Bool) → cond b false o ≡ (not b && o)
taken true o = refl
taken false o = refl

pub kept : (b o : Bool) → o ≡ ((not b || b) && o)
kept true o = refl
kept false o = refl

other : (m : Map Held) (bean : ℕ) (p : Place) → (bean == p.bean) ≡ true → at m p.bean ≡ at m bean
other m bean p e = ap (at m) (sym (exact_unsigned_eq bean p.bean e))

-- what was added for a bean that has nothing, taken out again
pub taken_back : (m : Map Held) (bean : ℕ) (held : Held) (old between new : Places) → IsOutline m old → at m bean ≡ None → Adds bean held old between → Takes bean (Some held) between new → IsOutline m new
taken_back m bean held old between new is none adds takes = λ p.
    takes p ∙ ap (λ o. not (is_place bean (Some held) p) && o) (adds p ∙ ap (λ o. is_place bean (Some held) p || o) (is p))
    ∙ by p (bean == p.bean) refl
  where
    at_none : (i h : Bool) → h ≡ false → (not i && (i || h)) ≡ h
    at_none true h e = sym e
    at_none false h e = refl

    by : (p : Place) (b : Bool) → (bean == p.bean) ≡ b
        → (not (b && has_number p.number (Some held)) && ((b && has_number p.number (Some held)) || has_number p.number (at m p.bean))) ≡ has_number p.number (at m p.bean)
    by p true e = at_none (has_number p.number (Some held)) (has_number p.number (at m p.bean)) (ap (has_number p.number) (other m bean p e ∙ none))
    by p false e = refl

-- an entry that takes the place of what the bean had
pub replaced : (m after : Map Held) (bean : ℕ) (held : Held) (old between new : Places) → IsOutline m old → ((b : ℕ) → at after b ≡ cond (bean == b) (Some held) (at m b))
    → Adds bean held old between → Replaces bean (at m bean) held between new → IsOutline after new
replaced m after bean held old between new is changes adds replaces = λ p.
    replaces p ∙ ap (λ o. (not (is_place bean (at m bean) p) || is_place bean (Some held) p) && o) (adds p ∙ ap (λ o. is_place bean (Some held) p || o) (is p))
    ∙ by p (bean == p.bean) refl ∙ sym (ap (has_number p.number) (changes p.bean))
  where
    chosen : (b h : Bool) → ((not b || h) && (h || b)) ≡ h
    chosen true true = refl
    chosen true false = refl
    chosen false true = refl
    chosen false false = refl

    by : (p : Place) (b : Bool) → (bean == p.bean) ≡ b
        → ((not (b && has_number p.number (at m bean)) || (b && has_number p.number (Some held))) && ((b && has_number p.number (Some held)) || has_number p.number (at m p.bean)))
        ≡ has_number p.number (cond b (Some held) (at m p.bean))
    by p true e =
        ap (λ o. (not (has_number p.number (at m bean)) || has_number p.number (Some held)) && (has_number p.number (Some held) || has_number p.number o)) (other m bean p e)
        ∙ chosen (has_number p.number (at m bean)) (has_number p.number (Some held))
    by p false e = refl

-- nothing for a bean
pub left : (m after : Map Held) (bean : ℕ) (old new : Places) → IsOutline m old → ((b : ℕ) → at after b ≡ cond (bean == b) None (at m b)) → Takes bean (at m bean) old new → IsOutline after new
left m after bean old new is changes takes = λ p.
    takes p ∙ ap (λ o. not (is_place bean (at m bean) p) && o) (is p) ∙ by p (bean == p.bean) refl ∙ sym (ap (has_number p.number) (changes p.bean))
  where
    gone : (b : Bool) → (not b && b) ≡ false
    gone true = refl
    gone false = refl

    by : (p : Place) (b : Bool) → (bean == p.bean) ≡ b → (not (b && has_number p.number (at m bean)) && has_number p.number (at m p.bean)) ≡ has_number p.number (cond b None (at m p.bean))
    by p true e = ap (λ o. not (has_number p.number (at m bean)) && has_number p.number o) (other m bean p e) ∙ gone (has_number p.number (at m bean))
    by p false e = refl

pub own : (n : ℕ) → (n == n) ≡ true
own n = grind arith

-- an entry that needs no memory has its number there
pub fits-listed : (m : Map Held) (bean : ℕ) (held : Held) (s : Places) → IsOutline m s → fits (at m bean) held ≡ true → is_listed bean held s ≡ true
fits-listed m bean Making s is h = refl
fits-listed m bean (Is n) s is h = is (place n bean) ∙ by (at m bean) h
  where
    by : (o : Option Held) → fits o (Is n) ≡ true → has_number n o ≡ true
    by None i = absurd (true≢false (sym i))
    by (Some Making) i = absurd (true≢false (sym i))
    by (Some (Is k)) i = i

-- ---- the greatest

-- each number is at most n
abbrev AreUpTo : ℕ → Map Held → Type 0
AreUpTo n m = (b k : ℕ) → at m b ≡ Some (Is k) → k ≤ n

at_absent : {X : Type 0} (m : Map X) (k : ℕ) → AllByRecursion (λ j. nat_cmp k j ≡ Less) (keys_of m) → at m k ≡ None
at_absent [] k h = refl
at_absent (p ∷ more) k h = let e : (k == p.0) ≡ false = sym (is_equal k p.0) ∙ ap is_eq h.0 in rw e (at_absent more k h.1)

-- what the later entries have is what all have
later : {X : Type 0} (p : ℕ × X) (more : Map X) → IsStrictlySortedBy nat_cmp (keys_of (p ∷ more)) → (b : ℕ) (x : X) → at more b ≡ Some x → at (p ∷ more) b ≡ Some x
later p more s b x h = by (b == p.0) refl
  where
    none : at more p.0 ≡ None
    none = at_absent more p.0 (sorted_head nat_cmp p.0 (keys_of more) s)

    by : (t : Bool) → (b == p.0) ≡ t → cond t (Some p.1) (at more b) ≡ Some x
    by true e = absurd (let z : Some x ≡ None = sym h ∙ ap (at more) (exact_unsigned_eq b p.0 e) ∙ none in cc)
    by false e = h

first : {X : Type 0} (p : ℕ × X) (more : Map X) → at (p ∷ more) p.0 ≡ Some p.1
first p more = rw (own p.0) refl

abbrev IsUpTo : ℕ → Option ℕ → Type 0
IsUpTo n None = Unit {0}
IsUpTo n (Some k) = k ≤ n

max_of : (k n : ℕ) → k ≤ n → max k n ≡ n
max_of k n h = omega (arith, h)

max_to : (n k : ℕ) → k ≤ n → max n k ≡ n
max_to n k h = omega (arith, h)

max_up : (a b n : ℕ) → a ≤ n → b ≤ n → max a b ≤ n
max_up a b n h i = omega (arith, h, i)

up-greater : (n : ℕ) (most : Option ℕ) (h : Held) → IsUpTo n most → ((k : ℕ) → h ≡ Is k → k ≤ n) → IsUpTo n (greater most h)
up-greater n None Making u i = u
up-greater n (Some a) Making u i = u
up-greater n None (Is k) u i = i k refl
up-greater n (Some a) (Is k) u i = max_up a k n u (i k refl)

stays_greatest : (n : ℕ) (h : Held) → ((k : ℕ) → h ≡ Is k → k ≤ n) → greater (Some n) h ≡ Some n
stays_greatest n Making i = refl
stays_greatest n (Is k) i = ap (λ j. Some j) (max_to n k (i k refl))

-- once the greatest was met it stays
once_met : (n : ℕ) (m : Map Held) → IsStrictlySortedBy nat_cmp (keys_of m) → AreUpTo n m → greatest (Some n) m ≡ Some n
once_met n [] s u = refl
once_met n (p ∷ more) s u =
    ap (λ o. greatest o more) (stays_greatest n p.1 (λ k e. u p.0 k (first p more ∙ ap (λ h. Some h) e)))
    ∙ once_met n more (sorted_tail nat_cmp p.0 (keys_of more) s) (λ b k e. u b k (later p more s b (Is k) e))

meets : (n : ℕ) (most : Option ℕ) → IsUpTo n most → greater most (Is n) ≡ Some n
meets n None u = refl
meets n (Some a) u = ap (λ j. Some j) (max_of a n u)

is_greatest : (n bean : ℕ) (most : Option ℕ) (m : Map Held) → IsStrictlySortedBy nat_cmp (keys_of m) → AreUpTo n m → IsUpTo n most → at m bean ≡ Some (Is n) → greatest most m ≡ Some n
is_greatest n bean most [] s u v h = absurd cc
is_greatest n bean most (p ∷ more) s u v h =
    by (bean == p.0) h (λ i. is_greatest n bean (greater most p.1) more tail up (up-greater n most p.1 v (λ k e. u p.0 k (first p more ∙ ap (λ h. Some h) e))) i)
  where
    tail : IsStrictlySortedBy nat_cmp (keys_of more)
    tail = sorted_tail nat_cmp p.0 (keys_of more) s

    up : AreUpTo n more
    up = λ b k e. u b k (later p more s b (Is k) e)

    by : (t : Bool) → cond t (Some p.1) (at more bean) ≡ Some (Is n) → (at more bean ≡ Some (Is n) → greatest (greater most p.1) more ≡ Some n) → greatest (greater most p.1) more ≡ Some n
    by true i rest = let same : p.1 ≡ Is n = cc in ap (λ x. greatest (greater most x) more) same ∙ ap (λ o. greatest o more) (meets n most v) ∙ once_met n more tail up
    by false i rest = rest i

none_greatest : (m : Map Held) → IsStrictlySortedBy nat_cmp (keys_of m) → ((b k : ℕ) → at m b ≡ Some (Is k) → false ≡ true) → greatest None m ≡ None
none_greatest [] s h = refl
none_greatest (p ∷ more) s h =
    ap (λ o. greatest o more) (by p.1 (first p more))
    ∙ none_greatest more (sorted_tail nat_cmp p.0 (keys_of more) s) (λ b k e. h b k (later p more s b (Is k) e))
  where
    by : (x : Held) → at (p ∷ more) p.0 ≡ Some x → greater None x ≡ None
    by Making e = refl
    by (Is k) e = absurd (true≢false (sym (h p.0 k e)))

is_number : (n : ℕ) (o : Option Held) → has_number n o ≡ true → o ≡ Some (Is n)
is_number n None h = absurd (true≢false (sym h))
is_number n (Some Making) h = absurd (true≢false (sym h))
is_number n (Some (Is k)) h = ap (λ j. Some (Is j)) (exact_unsigned_eq k n h)

-- the greatest place's number is the greatest of all entries
pub last_is_greatest : (m : Map Held) (s : Places) (last : Option ℕ) → IsStrictlySortedBy nat_cmp (keys_of m) → IsOutline m s → IsLast s last → last ≡ greatest None m
last_is_greatest m s None sorted is h = sym (none_greatest m sorted (λ b k e. sym (h (place k b)) ∙ is (place k b) ∙ ap (has_number k) e ∙ own k))
last_is_greatest m s (Some n) sorted is h =
    let bean = h.0.0 in
    sym (is_greatest n bean None m sorted (λ b k e. h.1 (place k b) (is (place k b) ∙ ap (has_number k) e ∙ own k)) tt (is_number n (at m bean) (sym (is (place n bean)) ∙ h.0.1)))

not_below : (a b : ℕ) → nat_lt a b ≡ false → b ≤ a
not_below a b h = grind arith

-- what isn't greater in the order of places has no greater number
pub up_to : (p q : Place) → is_lt (place_cmp p q) ≡ false → q.number ≤ p.number
up_to p q h = by (nat_lt p.number q.number) refl h
  where
    by : (b : Bool) → nat_lt p.number q.number ≡ b → is_lt (ordering_then (cond b Less (cond (p.number == q.number) Equal Greater)) (nat_cmp p.bean q.bean)) ≡ false → q.number ≤ p.number
    by true e i = absurd (true≢false i)
    by false e i = not_below p.number q.number e
