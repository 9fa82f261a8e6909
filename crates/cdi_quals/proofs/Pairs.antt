-- Two lists that are compared item by item.
use Rattle.std.proofs.Common.{◌≡◌, ◌≢◌, ◌∙◌, ℕ, zero, suc, min, ◌+◌, ◌<◌, Bool, true, false, ◌&&◌, ◌||◌, not, nat_eq, List, [], ◌∷◌, ◌++◌, append_assoc, map, length, drop, get_or, refl, sym, ap, add-one, drop-cons, arith, nat_cmp, Ordering, Less, Equal, Greater}
use Rattle.std.specs.Cmp.Lexicographic.{slice_cmp}
use Rattle.std.proofs.lemmas.Bool.Decides.{nat_tests}
use Rattle.std.specs.Bool.{nat_lt}
use Rattle.std.specs.Ordering.{is_eq, is_ne}
use Rattle.cdi_quals.specs.Order.{compare_values}
use Rattle.cdi_quals.specs.Qualifiers.{agree, agrees}
use Rattle.cdi_quals.specs.declared.qualifier.QualifierMember.{QualifierMember}

pub next : {X : Type 0} (xs : List X) (i : ℕ) (x : X) → i < length xs → x ≡ get_or xs i x → drop i xs ≡ x ∷ drop (i + 1) xs
next xs i x within is =
    let here : drop i xs ≡ get_or xs i x ∷ drop (i + 1) xs = rw (add-one, drop-cons xs i x) refl in
    here ∙ ap (λ y. y ∷ drop (i + 1) xs) (sym is)

less : (n : ℕ) → nat_cmp 0 (suc n) ≡ Less
less n = grind (arith, nat_tests)

greater : (n : ℕ) → nat_cmp (suc n) 0 ≡ Greater
greater n = grind (arith, nat_tests)

both_more : (m n : ℕ) → nat_cmp m n ≡ nat_cmp (suc m) (suc n)
both_more m n = by (nat_lt m n) (nat_eq m n) refl refl
  where
    by : (l e : Bool) → nat_lt m n ≡ l → nat_eq m n ≡ e → nat_cmp m n ≡ nat_cmp (suc m) (suc n)
    by true true a b = grind (arith, nat_tests)
    by true false a b = grind (arith, nat_tests)
    by false true a b = grind (arith, nat_tests)
    by false false a b = grind (arith, nat_tests)

-- where one list has ended, the longer one comes last
pub ended : {X : Type 0} (R : X → X → Ordering) (xs ys : List X) (i : ℕ) → i ≡ min (length xs) (length ys) → slice_cmp R (drop i xs) (drop i ys) ≡ nat_cmp (length xs) (length ys)
ended R [] [] zero e = refl
ended R [] [] (suc i) e = absurd (omega (arith, e))
ended R [] (y ∷ ys) zero e = sym (less (length ys))
ended R [] (y ∷ ys) (suc i) e = absurd (omega (arith, e))
ended R (x ∷ xs) [] zero e = sym (greater (length xs))
ended R (x ∷ xs) [] (suc i) e = absurd (omega (arith, e))
ended R (x ∷ xs) (y ∷ ys) zero e = absurd (omega (arith, e))
ended R (x ∷ xs) (y ∷ ys) (suc i) e = let less_one : i ≡ min (length xs) (length ys) = omega (arith, e) in ended R xs ys i less_one ∙ both_more (length xs) (length ys)

-- equal values agree
pub agrees_at_equal : (x y : QualifierMember) (o : Ordering) → o ≡ compare_values x.value y.value → is_ne o ≡ false → agrees x y ≡ true
agrees_at_equal x y o is level = by o level is x.is_binding
  where
    by : (o : Ordering) → is_ne o ≡ false → o ≡ compare_values x.value y.value → (b : Bool) → (not b || is_eq (compare_values x.value y.value)) ≡ true
    by Less h e b = absurd cc
    by Greater h e b = absurd cc
    by Equal h e true = ap is_eq (sym e)
    by Equal h e false = refl

pub agrees_at_nonbinding : (x y : QualifierMember) → x.is_binding ≡ false → agrees x y ≡ true
agrees_at_nonbinding x y e = ap (λ b. not b || is_eq (compare_values x.value y.value)) e

-- lists of different lengths don't agree
pub apart_by_length : (xs ys : List QualifierMember) → length xs ≢ length ys → agree xs ys ≡ false
apart_by_length [] [] ne = absurd (ne refl)
apart_by_length [] (y ∷ ys) ne = refl
apart_by_length (x ∷ xs) [] ne = refl
apart_by_length (x ∷ xs) (y ∷ ys) ne = by (agrees x y) (apart_by_length xs ys (λ e. ne (grind arith)))
  where
    by : (b : Bool) → agree xs ys ≡ false → (b && agree xs ys) ≡ false
    by true e = e
    by false e = refl

-- a loop goes on at members that agree
pub goes_on : (xs ys : List QualifierMember) (i : ℕ) (x y : QualifierMember) → i < length xs → i < length ys → x ≡ get_or xs i x → y ≡ get_or ys i y → agrees x y ≡ true
    → agree (drop i xs) (drop i ys) ≡ agree xs ys → agree (drop (i + 1) xs) (drop (i + 1) ys) ≡ agree xs ys
goes_on xs ys i x y a b is-x is-y same so_far =
    sym (ap (λ zs. agree zs (drop i ys)) (next xs i x a is-x) ∙ ap (agree (x ∷ drop (i + 1) xs)) (next ys i y b is-y) ∙ ap (λ t. t && agree (drop (i + 1) xs) (drop (i + 1) ys)) same) ∙ so_far

-- a loop that maps a list goes on at one item more
pub maps_on : {X Y : Type 0} (f : X → Y) (xs : List X) (i : ℕ) (x : X) (front all : List Y) (y : Y) → i < length xs → x ≡ get_or xs i x → y ≡ f x
    → front ++ map f (drop i xs) ≡ all → (front ++ y ∷ []) ++ map f (drop (i + 1) xs) ≡ all
maps_on f xs i x front all y within is-x is-y so_far =
    append_assoc front (y ∷ []) (map f (drop (i + 1) xs)) ∙ ap (λ z. front ++ z ∷ map f (drop (i + 1) xs)) is-y ∙ sym (ap (λ zs. front ++ map f zs) (next xs i x within is-x)) ∙ so_far
