-- Maps by numbers: what holds of each entry, numbers that rise and slots that differ.
use Rattle.std.proofs.Common.{◌≡◌, ◌≢◌, ℕ, ◌<◌, ◌==◌, Bool, true, false, [], ◌∷◌, ◌++◌, cond, Some, not, ◌⊎◌, inl, inr, refl, sym, arith, eq-eqb}
use Rattle.std.specs.List.{AllByRecursion}
use Rattle.std.proofs.lemmas.Map.Views.{exact_unsigned_eq}
use Rattle.cdi_base.specs.Maps.{Map, at, without}
use Rattle.cdi_store.specs.Slots.{AreRising, AreApart, AreBelow}

tested : (b : Bool) (m n : ℕ) → (m == n) ≡ b → (((m == n) ≡ true) × (m ≡ n)) ⊎ (((m == n) ≡ false) × (m ≢ n))
tested true m n h = inl (h, exact_unsigned_eq m n h)
tested false m n h = inr (h, λ s. let t : (n == n) ≡ false = rw s at h in grind arith)

-- two numbers are equal or not, and the test tells
pub equal_or_not : (m n : ℕ) → (((m == n) ≡ true) × (m ≡ n)) ⊎ (((m == n) ≡ false) × (m ≢ n))
equal_or_not m n = tested (m == n) m n refl

module _ {X : Type 0} where
  pub at-last : (m : Map X) (n : ℕ) (x : X) → AllByRecursion (λ p. p.0 < n) m → at (m ++ (n, x) ∷ []) n ≡ Some x
  at-last [] n x h = rw (eq-eqb n n refl) refl
  at-last (p ∷ more) n x h = elim (equal_or_not n p.0) [
    | inl s ↦ absurd (let below = h.0 in omega (arith, s.1))
    | inr s ↦ rw s.0 (at-last more n x h.1)
  ]

  -- ---- what holds of each entry

  pub All-at : (P : ℕ × X → Type 0) (m : Map X) (n : ℕ) (x : X) → AllByRecursion P m → at m n ≡ Some x → P (n, x)
  All-at P [] n x h e = absurd (cc)
  All-at P (p ∷ more) n x h e = elim (equal_or_not n p.0) [
    | inl s ↦ let t : Some p.1 ≡ Some x = rw s.0 at e in let u : p.1 ≡ x = cc in rw (s.1, ← u) h.0
    | inr s ↦ All-at P more n x h.1 (rw s.0 at e)
  ]

  pub All-weaker : (P Q : ℕ × X → Type 0) (m : Map X) → ((p : ℕ × X) → P p → Q p) → AllByRecursion P m → AllByRecursion Q m
  All-weaker P Q [] f h = h
  All-weaker P Q (p ∷ more) f h = (f p h.0, All-weaker P Q more f h.1)

  pub All-both : (P Q R : ℕ × X → Type 0) (m : Map X) → ((p : ℕ × X) → P p → Q p → R p) → AllByRecursion P m → AllByRecursion Q m → AllByRecursion R m
  All-both P Q R [] f h g = h
  All-both P Q R (p ∷ more) f h g = (f p h.0 g.0, All-both P Q R more f h.1 g.1)

  pub All-last : (P : ℕ × X → Type 0) (m : Map X) (p : ℕ × X) → AllByRecursion P m → P p → AllByRecursion P (m ++ p ∷ [])
  All-last P [] p h g = (g, h)
  All-last P (q ∷ more) p h g = (h.0, All-last P more p h.1 g)

  All-chosen : (P : ℕ × X → Type 0) (b : Bool) (p : ℕ × X) (m : Map X) → P p → AllByRecursion P m → AllByRecursion P (cond b (p ∷ m) m)
  All-chosen P true p m g h = (g, h)
  All-chosen P false p m g h = h

  pub All-without : (P : ℕ × X → Type 0) (m : Map X) (n : ℕ) → AllByRecursion P m → AllByRecursion P (without n m)
  All-without P [] n h = h
  All-without P (p ∷ more) n h = All-chosen P (not (n == p.0)) p (without n more) h.0 (All-without P more n h.1)

-- ---- numbers that rise and slots that differ

pub rising-last : (m : Map ℕ) (n slot : ℕ) → AreBelow n m → AreRising m → AreRising (m ++ (n, slot) ∷ [])
rising-last [] n slot b h = (tt, tt)
rising-last (p ∷ more) n slot b h = (All-last (λ q. p.0 < q.0) more (n, slot) h.0 b.0, rising-last more n slot b.1 h.1)

pub apart-last : (m : Map ℕ) (n slot : ℕ) → AllByRecursion (λ p. p.1 ≢ slot) m → AreApart m → AreApart (m ++ (n, slot) ∷ [])
apart-last [] n slot b h = (tt, tt)
apart-last (p ∷ more) n slot b h = (All-last (λ q. q.1 ≢ p.1) more (n, slot) h.0 (λ e. b.0 (sym e)), apart-last more n slot b.1 h.1)

rising-chosen : (b : Bool) (p : ℕ × ℕ) (m : Map ℕ) → AllByRecursion (λ q. p.0 < q.0) m → AreRising m → AreRising (cond b (p ∷ m) m)
rising-chosen true p m g h = (g, h)
rising-chosen false p m g h = h

pub rising-without : (m : Map ℕ) (n : ℕ) → AreRising m → AreRising (without n m)
rising-without [] n h = h
rising-without (p ∷ more) n h =
    rising-chosen (not (n == p.0)) p (without n more) (All-without (λ q. p.0 < q.0) more n h.0) (rising-without more n h.1)

apart-chosen : (b : Bool) (p : ℕ × ℕ) (m : Map ℕ) → AllByRecursion (λ q. q.1 ≢ p.1) m → AreApart m → AreApart (cond b (p ∷ m) m)
apart-chosen true p m g h = (g, h)
apart-chosen false p m g h = h

pub apart-without : (m : Map ℕ) (n : ℕ) → AreApart m → AreApart (without n m)
apart-without [] n h = h
apart-without (p ∷ more) n h =
    apart-chosen (not (n == p.0)) p (without n more) (All-without (λ q. q.1 ≢ p.1) more n h.0) (apart-without more n h.1)

-- the number that goes was the only one with its slot
pub slot-without : (m : Map ℕ) (n slot : ℕ) → AreApart m → at m n ≡ Some slot → AllByRecursion (λ p. p.1 ≢ slot) (without n m)
slot-without [] n slot h e = tt
slot-without (p ∷ more) n slot h e = elim (equal_or_not n p.0) [
  | inl s ↦
      let t : Some p.1 ≡ Some slot = rw s.0 at e in
      let u : p.1 ≡ slot = cc in
      rw (s.0, ← u) (All-without (λ q. q.1 ≢ p.1) more n h.0)
  | inr s ↦
      let t : at more n ≡ Some slot = rw s.0 at e in
      rw s.0 (λ u. All-at (λ q. q.1 ≢ p.1) more n slot h.0 t (sym u), slot-without more n slot h.1 t)
]
