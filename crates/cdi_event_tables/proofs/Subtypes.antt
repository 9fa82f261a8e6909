-- Where no type is its own proper supertype, the subtypes that steps up lead to, no more than there are declarations, are all.
use Rattle.std.proofs.Common.{ℕ, zero, suc, ◌≡◌, ◌∙◌, ◌≤◌, ◌==◌, ◌||◌, ◌⊎◌, inl, inr, Bool, true, false, IsTrue, ◌↔◌, nat_eq, List, [], ◌∷◌, length, refl, sym, ap, subst, arith}
use Rattle.std.specs.Cmp.{nat_eq_equiv}
use Rattle.std.specs.List.{AllByRecursion, Contains, IsDistinct, list_any}
use Rattle.std.proofs.lemmas.Bool.{eqb-true, eq-eqb, ne_eqb, true≢false}
use Rattle.std.proofs.lemmas.List.Elements.{Contains-append_right}
use Rattle.std.proofs.lemmas.Map.Made.{length-le_from_is_member}
use Rattle.std.proofs.lemmas.Map.Views.{Contains-from_any, list_any-from_Contains}
use Rattle.cdi_event_tables.specs.Events as computed
use Rattle.cdi_types.proofs.Listed.{first_or_later, not_in_none}
use Rattle.cdi_types.proofs.Supertypes.{declared_above}
use Rattle.cdi_types.specs.Subtype.{IsAcyclic, IsBelow, IsSubtype, names_of, object, supertypes_of}
use Rattle.cdi_types.specs.declared.declaration.TypeDeclaration.{TypeDeclaration}

or_true : (a b : Bool) → a ≡ true → (a || b) ≡ true
or_true a b e = ap (λ x. x || b) e

or_later : (a b : Bool) → b ≡ true → (a || b) ≡ true
or_later true b e = refl
or_later false b e = e

or_split : (a b : Bool) → (a || b) ≡ true → (a ≡ true) ⊎ (b ≡ true)
or_split true b e = inl refl
or_split false b e = inr e

passes : {X : Type 0} (p : X → Bool) (xs : List X) (x : X) → Contains xs x → p x ≡ true → list_any p xs ≡ true
passes p [] x there e = absurd (not_in_none [] x refl there)
passes {X} p (y ∷ ys) x there e =
    elim (first_or_later y ys x there) [
      | inl same ↦ or_true (p y) (list_any p ys) (ap p same ∙ e)
      | inr later ↦ or_later (p y) (list_any p ys) (passes p ys x later e)
    ]

here : {X : Type 0} (x : X) (xs : List X) → Contains (x ∷ xs) x
here x xs = (0, omega arith, refl)

found : {X : Type 0} (p : X → Bool) (xs : List X) → list_any p xs ≡ true → (x : X) × Contains xs x × (p x ≡ true)
found p [] e = absurd (true≢false (sym e))
found {X} p (y ∷ ys) e =
    elim (or_split (p y) (list_any p ys) e) [
      | inl now ↦ (y, here y ys, now)
      | inr later ↦ (let more = found p ys later in (more.0, Contains-append_right (y ∷ []) ys more.0 more.1, more.2))
    ]

named : (types : List TypeDeclaration) (d : TypeDeclaration) (a : ℕ) → Contains types d → d.name ≡ a → Contains (names_of types) a
named [] d a there e = absurd (not_in_none [] d refl there)
named (c ∷ cs) d a there e =
    elim (first_or_later c cs d there) [
      | inl same ↦ (let P : ℕ → Type 0 = λ n. Contains (c.name ∷ names_of cs) n in subst P (ap (λ (x : TypeDeclaration). x.name) same ∙ e) (here c.name (names_of cs)))
      | inr later ↦ Contains-append_right (c.name ∷ []) (names_of cs) a (named cs d a later e)
    ]

long : (types : List TypeDeclaration) → length (names_of types) ≡ length types
long [] = refl
long (d ∷ ds) = ap suc (long ds)

module _ (types : List TypeDeclaration) where
  -- ---- a way up is a way up

  pub below_from_steps : (n a b : ℕ) → computed.is_below_within types n a b ≡ true → IsBelow types a b
  below_from_steps zero a b e = absurd (true≢false (sym e))
  below_from_steps (suc n) a b e =
      let step = found (λ c. (c == b) || computed.is_below_within types n c b) (supertypes_of types a) e in
      elim (or_split (step.0 == b) (computed.is_below_within types n step.0 b) step.2) [
        | inl same ↦ (let P : ℕ → Type 0 = λ c. Contains (supertypes_of types a) c in IsBelow.directly (subst P (eqb-true step.0 b same) step.1))
        | inr more ↦ IsBelow.further step.1 (below_from_steps n step.0 b more)
      ]

  -- ---- the types that a way up leaves

  left : (a b : ℕ) → IsBelow types a b → List ℕ
  left a b (IsBelow.directly e) = a ∷ []
  left a b (IsBelow.further {b = m} e s) = a ∷ left m b s

  steps_from_below : (a b : ℕ) (w : IsBelow types a b) (n : ℕ) → length (left a b w) ≤ n → computed.is_below_within types n a b ≡ true
  unfolding left
  steps_from_below a b (IsBelow.directly e) zero le = absurd (omega arith)
  steps_from_below a b (IsBelow.directly e) (suc n) le =
      passes (λ c. (c == b) || computed.is_below_within types n c b) (supertypes_of types a) b e (or_true (b == b) (computed.is_below_within types n b b) (eq-eqb b b refl))
  steps_from_below a b (IsBelow.further {b = m} e s) zero le = absurd (omega arith)
  steps_from_below a b (IsBelow.further {b = m} e s) (suc n) le =
      passes (λ c. (c == b) || computed.is_below_within types n c b) (supertypes_of types a) m e (or_later (m == b) (computed.is_below_within types n m b) (steps_from_below m b s n (omega arith)))

  -- it begins at the first, and the others stand above that
  above_first : (a b : ℕ) (w : IsBelow types a b) (q : ℕ) → Contains (left a b w) q → (q ≡ a) ⊎ IsBelow types a q
  unfolding left
  above_first a b (IsBelow.directly e) q there =
      elim (first_or_later a [] q there) [ inl same ↦ inl (sym same) | inr never ↦ absurd (not_in_none [] q refl never) ]
  above_first a b (IsBelow.further {b = m} e s) q there =
      elim (first_or_later a (left m b s) q there) [
        | inl same ↦ inl (sym same)
        | inr later ↦ (elim (above_first m b s q later) [
          | inl same ↦ (let P : ℕ → Type 0 = λ c. Contains (supertypes_of types a) c in inr (IsBelow.directly (subst P (sym same) e)))
          | inr more ↦ inr (IsBelow.further e more)
        ])
      ]

  none_same : (a : ℕ) (xs : List ℕ) → (Contains xs a → ⊥) → AllByRecursion (λ y. nat_eq a y ≡ false) xs
  none_same a [] never = tt
  none_same a (x ∷ xs) never = (
    ne_eqb a x (λ e. never (let P : ℕ → Type 0 = λ c. Contains (x ∷ xs) c in subst P (sym e) (here x xs))),
    none_same a xs (λ there. never (Contains-append_right (x ∷ []) xs a there)),
  )

  declared : (a b : ℕ) → Contains (supertypes_of types a) b → Contains (names_of types) a
  declared a b e = let d = declared_above types a b e in named types d.0 a d.1 d.2

  all_declared : (a b : ℕ) (w : IsBelow types a b) (q : ℕ) → Contains (left a b w) q → Contains (names_of types) q
  unfolding left
  all_declared a b (IsBelow.directly e) q there =
      let P : ℕ → Type 0 = λ c. Contains (names_of types) c in
      elim (first_or_later a [] q there) [ inl same ↦ subst P same (declared a b e) | inr never ↦ absurd (not_in_none [] q refl never) ]
  all_declared a b (IsBelow.further {b = m} e s) q there =
      let P : ℕ → Type 0 = λ c. Contains (names_of types) c in
      elim (first_or_later a (left m b s) q there) [ inl same ↦ subst P same (declared a m e) | inr later ↦ all_declared m b s q later ]

  module _ (acyclic : IsAcyclic types) where
    apart : (a b : ℕ) (w : IsBelow types a b) → IsDistinct nat_eq (left a b w)
    unfolding left IsDistinct
    apart a b (IsBelow.directly e) = (tt, tt)
    apart a b (IsBelow.further {b = m} e s) = (none_same a (left m b s) never, apart m b s)
      where
        never : Contains (left m b s) a → ⊥
        never there =
            elim (above_first m b s a there) [
              | inl same ↦ (let P : ℕ → Type 0 = λ c. Contains (supertypes_of types a) c in acyclic a (IsBelow.directly (subst P (sym same) e)))
              | inr more ↦ acyclic a (IsBelow.further e more)
            ]

    few : (a b : ℕ) (w : IsBelow types a b) → length (left a b w) ≤ length types
    few a b w =
        let le = length-le_from_is_member nat_eq_equiv (left a b w) (names_of types) (apart a b w)
        (λ q is. list_any-from_Contains nat_eq_equiv q (names_of types) (all_declared a b w q (Contains-from_any eqb-true q (left a b w) is))) in
        omega (arith, le, long types)

    pub subtype_from : (a b : ℕ) → IsSubtype types a b → computed.is_subtype types a b ≡ true
    subtype_from a b IsSubtype.itself = or_true ((a == a) || (a == object)) (computed.is_below_within types (length types) a a) (or_true (a == a) (a == object) (eq-eqb a a refl))
    subtype_from a b IsSubtype.object_above = or_true ((a == object) || (object == object)) (computed.is_below_within types (length types) a object) (or_later (a == object) (object == object) refl)
    subtype_from a b (IsSubtype.below_it w) =
        or_later ((a == b) || (b == object)) (computed.is_below_within types (length types) a b) (steps_from_below a b w (length types) (few a b w))

  pub subtype_of : (a b : ℕ) → computed.is_subtype types a b ≡ true → IsSubtype types a b
  subtype_of a b e =
      elim (or_split ((a == b) || (b == object)) (computed.is_below_within types (length types) a b) e) [
        | inl near ↦ (elim (or_split (a == b) (b == object) near) [
          | inl same ↦ (let P : ℕ → Type 0 = λ c. IsSubtype types a c in subst P (eqb-true a b same) IsSubtype.itself)
          | inr top ↦ (let P : ℕ → Type 0 = λ c. IsSubtype types a c in subst P (sym (eqb-true b object top)) IsSubtype.object_above)
        ])
        | inr below ↦ IsSubtype.below_it (below_from_steps (length types) a b below)
      ]

  same_tests : (p q : Bool) → (p ≡ true → q ≡ true) → (q ≡ true → p ≡ true) → p ≡ q
  same_tests true true f g = refl
  same_tests true false f g = sym (f refl)
  same_tests false true f g = g refl
  same_tests false false f g = refl

  -- what a table of types answers is what is computed
  pub subtype_told : (answer : Bool) (a b : ℕ) → IsAcyclic types → IsTrue answer ↔ IsSubtype types a b → answer ≡ computed.is_subtype types a b
  subtype_told answer a b acyclic is = same_tests answer (computed.is_subtype types a b) (λ e. subtype_from acyclic a b (is.0 e)) (λ e. is.1 (subtype_of a b e))
