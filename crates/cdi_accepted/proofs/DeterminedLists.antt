-- Lists that another list determines: by a sentence on its items, or item by item.
use Rattle.std.proofs.Common.{◌≡◌, ◌∙◌, ◌≤◌, ◌+◌, ◌⊎◌, inl, inr, ℕ, zero, Bool, true, false, cond, List, [], ◌∷◌, filter, refl, sym, ap, arith}
use Rattle.std.specs.List.{AllZip, Contains, enumerate_from}
use Rattle.cdi_event_tables.proofs.OneSet.{behind, in_front}
use Rattle.cdi_types.specs.ListsThose.{ListsThose}

-- ---- by a sentence

pub one_listed : {X : Type 0} {P : X → Type 0} {items these those : List X} → ListsThose P items these → ListsThose P items those → these ≡ those
one_listed ListsThose.none ListsThose.none = refl
one_listed (ListsThose.keep {x = x} p f) (ListsThose.keep q g) = ap (λ l. x ∷ l) (one_listed f g)
one_listed (ListsThose.keep p f) (ListsThose.skip n g) = absurd (n p)
one_listed (ListsThose.skip n f) (ListsThose.keep q g) = absurd (n q)
one_listed (ListsThose.skip n f) (ListsThose.skip m g) = one_listed f g

-- ---- item by item

-- what stands in the relation to an item is one
abbrev pub IsFunctional : {X Y : Type 0} → (X → Y → Type 0) → Type 0
IsFunctional {X} {Y} R = (x : X) (y z : Y) → R x y → R x z → y ≡ z

pub one_zipped : {X Y : Type 0} (R : X → Y → Type 0) → IsFunctional R → (xs : List X) (ys zs : List Y) → AllZip R xs ys → AllZip R xs zs → ys ≡ zs
one_zipped R one [] [] [] a b = refl
one_zipped R one [] [] (z ∷ zs) a b = absurd b
one_zipped R one [] (y ∷ ys) zs a b = absurd a
one_zipped R one (x ∷ xs) [] zs a b = absurd a
one_zipped R one (x ∷ xs) (y ∷ ys) [] a b = absurd b
one_zipped R one (x ∷ xs) (y ∷ ys) (z ∷ zs) a b =
    let head : y ≡ z = one x y z a.0 b.0 in
    let tail : ys ≡ zs = one_zipped R one xs ys zs a.1 b.1 in
    λ i. head i ∷ tail i

-- ---- items with their places

pub kept_in : {X : Type 0} (test : X → Bool) (xs : List X) (x : X) → Contains (filter test xs) x → Contains xs x
kept_in test [] x there = there
kept_in test (y ∷ ys) x there = by (test y) (λ h. behind y ys x (kept_in test ys x h)) there
  where
    by : (b : Bool) → (Contains (filter test ys) x → Contains (y ∷ ys) x) → Contains (cond b (y ∷ filter test ys) (filter test ys)) x → Contains (y ∷ ys) x
    by true rest h = elim (in_front y (filter test ys) x h) [ inl e ↦ (zero, omega arith, e) | inr k ↦ rest k ]
    by false rest h = rest h

from_there : {X : Type 0} (n : ℕ) (xs : List X) (p : ℕ × X) → Contains (enumerate_from n xs) p → n ≤ p.0
from_there n [] p (k, lt, e) = absurd (omega (arith, lt))
from_there n (x ∷ xs) p there = by (in_front (n, x) (enumerate_from (n + 1) xs) p there) (from_there (n + 1) xs p)
  where
    by : ((n, x) ≡ p) ⊎ Contains (enumerate_from (n + 1) xs) p → (Contains (enumerate_from (n + 1) xs) p → n + 1 ≤ p.0) → n ≤ p.0
    by (inl e) later = let same : n ≡ p.0 = ap (λ q. q.0) e in omega (arith, same)
    by (inr h) later = let more : n + 1 ≤ p.0 = later h in omega (arith, more)

-- at one place there is one item
pub one_at : {X : Type 0} (n : ℕ) (xs : List X) (p q : ℕ × X) → Contains (enumerate_from n xs) p → Contains (enumerate_from n xs) q → p.0 ≡ q.0 → p ≡ q
one_at n [] p q (k, lt, e) there same = absurd (omega (arith, lt))
one_at n (x ∷ xs) p q a b same =
    by (in_front (n, x) (enumerate_from (n + 1) xs) p a) (in_front (n, x) (enumerate_from (n + 1) xs) q b)
    (λ h k. one_at (n + 1) xs p q h k same)
  where
    by : ((n, x) ≡ p) ⊎ Contains (enumerate_from (n + 1) xs) p → ((n, x) ≡ q) ⊎ Contains (enumerate_from (n + 1) xs) q → (Contains (enumerate_from (n + 1) xs) p → Contains (enumerate_from (n + 1) xs) q → p ≡ q) → p ≡ q
    by (inl e) (inl f) later = sym e ∙ f
    by (inl e) (inr k) later =
        let here : n ≡ p.0 = ap (λ r. r.0) e in
        let more : n + 1 ≤ q.0 = from_there (n + 1) xs q k in
        absurd (omega (arith, here, more, same))
    by (inr h) (inl f) later =
        let here : n ≡ q.0 = ap (λ r. r.0) f in
        let more : n + 1 ≤ p.0 = from_there (n + 1) xs p h in
        absurd (omega (arith, here, more, same))
    by (inr h) (inr k) later = later h k
