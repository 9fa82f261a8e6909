-- Priorities that rise.
use Rattle.std.proofs.Common.{◌≡◌, ◌∙◌, ℤ, List, [], ◌∷◌, Less, Greater, refl, sym, ap, subst, inl, inr, arith}
use Rattle.std.proofs.lemmas.Cmp.{int_cmp_total}
use Rattle.std.proofs.lemmas.List.Elements.{Contains-append_right}
use Rattle.std.specs.List.{AllByRecursion, Contains}
use Rattle.std.specs.List.Sorted.{IsStrictlySortedBy}
use Rattle.std.specs.Ordering.{int_cmp, ordering_reverse}
use Rattle.cdi_types.proofs.Listed.{not_in_none, first_or_later}

pub not_both : (p q : ℤ) → int_cmp p q ≡ Less → int_cmp q p ≡ Less → ⊥
not_both p q less more =
    let e : Less ≡ Greater = sym less ∙ int_cmp_total.antisymm p q ∙ ap ordering_reverse more in
    cc

pub not_itself : (p : ℤ) → int_cmp p p ≡ Less → ⊥
not_itself p less = not_both p p less less

-- what holds of each, of one of them
pub at_one : {X : Type 0} (P : X → Type 0) (xs : List X) (x : X) → AllByRecursion P xs → Contains xs x → P x
at_one P [] x all there = absurd (not_in_none [] x refl there)
at_one P (y ∷ ys) x all there =
    elim (first_or_later y ys x there) [ inl same ↦ subst P same all.0 | inr later ↦ at_one P ys x all.1 later ]

pub at_each : {X : Type 0} (P : X → Type 0) (xs : List X) → ((x : X) → Contains xs x → P x) → AllByRecursion P xs
at_each P [] told = tt
at_each P (x ∷ xs) told = (told x (0, omega arith, refl), at_each P xs (λ y there. told y (Contains-append_right (x ∷ []) xs y there)))

first : (p q : ℤ) (ps qs : List ℤ) → AllByRecursion (λ r. int_cmp p r ≡ Less) ps → AllByRecursion (λ r. int_cmp q r ≡ Less) qs → Contains (q ∷ qs) p → Contains (p ∷ ps) q → p ≡ q
first p q ps qs up up' to from =
    elim (first_or_later q qs p to) [
      | inl same ↦ sym same
      | inr above ↦ elim (first_or_later p ps q from) [
        | inl same ↦ same
        | inr above' ↦ absurd (not_both p q (at_one (λ r. int_cmp p r ≡ Less) ps q up above') (at_one (λ r. int_cmp q r ≡ Less) qs p up' above))
      ]
    ]

later : (p q r : ℤ) (ps qs : List ℤ) → p ≡ q → AllByRecursion (λ r. int_cmp p r ≡ Less) ps → Contains ps r → Contains (q ∷ qs) r → Contains qs r
later p q r ps qs same up there to =
    elim (first_or_later q qs r to) [
      | inl is ↦ absurd (not_itself r (let P : ℤ → Type 0 = λ s. int_cmp s r ≡ Less in subst P (same ∙ is) (at_one (λ r. int_cmp p r ≡ Less) ps r up there)))
      | inr after ↦ after
    ]

-- lists that rise are told by what they contain
pub same_rising : (ps qs : List ℤ) → IsStrictlySortedBy int_cmp ps → IsStrictlySortedBy int_cmp qs → ((p : ℤ) → Contains ps p → Contains qs p) → ((p : ℤ) → Contains qs p → Contains ps p) → ps ≡ qs
unfolding IsStrictlySortedBy
same_rising [] [] up up' to from = refl
same_rising [] (q ∷ qs) up up' to from = absurd (not_in_none [] q refl (from q (0, omega arith, refl)))
same_rising (p ∷ ps) [] up up' to from = absurd (not_in_none [] p refl (to p (0, omega arith, refl)))
same_rising (p ∷ ps) (q ∷ qs) up up' to from =
    let same : p ≡ q = first p q ps qs up.0 up'.0 (to p (0, omega arith, refl)) (from q (0, omega arith, refl)) in
    let rest : ps ≡ qs = same_rising ps qs up.1 up'.1 (λ r there. later p q r ps qs same up.0 there (to r (Contains-append_right (p ∷ []) ps r there))) (λ r there. later q p r qs ps (sym same) up'.0 there (from r (Contains-append_right (q ∷ []) qs r there))) in
    ap (λ z. z ∷ ps) same ∙ ap (λ zs. q ∷ zs) rest
