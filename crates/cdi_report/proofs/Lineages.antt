-- A name stands in a lineage at most once.
use Rattle.std.proofs.Common.{ℕ, zero, suc, ◌≡◌, ◌∙◌, ◌+◌, ◌<◌, ◌≤◌, ◌⊎◌, inl, inr, Bool, true, false, cond, nat_eq, List, [], ◌∷◌, ◌++◌, length, Some, refl, sym, ap, subst, arith, length-append}
use Rattle.std.proofs.lemmas.Bool.{eqb-true}
use Rattle.std.proofs.lemmas.List.Sums.{sum_by_push}
use Rattle.std.specs.List.{count_by}
use Rattle.cdi_types.specs.Lineage.{IsLineage}
use Rattle.cdi_types.specs.declared.declaration.TypeDeclaration.{TypeDeclaration}

-- how often a name stands among some
abbrev pub times : ℕ → List ℕ → ℕ
times name names = count_by (nat_eq name) names

abbrev one_if : Bool → ℕ
one_if b = cond b 1 0

times_push : (name : ℕ) (names : List ℕ) (last : ℕ)
    → times name (names ++ last ∷ []) ≡ times name names + one_if (nat_eq name last)
times_push name names last = sum_by_push (λ n. one_if (nat_eq name n)) names last

none_or_some : (n : ℕ) → (n ≡ 0) ⊎ (0 < n)
none_or_some zero = inl refl
none_or_some (suc n) = inr (omega arith)

module _ (types : List TypeDeclaration) where
  -- a name has one lineage
  one_lineage : {name : ℕ} {these those : List ℕ} → IsLineage types name these
      → IsLineage types name those
      → these ≡ those
  one_lineage IsLineage.above_all IsLineage.above_all = refl
  one_lineage IsLineage.above_all (IsLineage.top n e) = absurd (n refl)
  one_lineage IsLineage.above_all (IsLineage.next n e h) = absurd (n refl)
  one_lineage (IsLineage.top n e) IsLineage.above_all = absurd (n refl)
  one_lineage (IsLineage.top n e) (IsLineage.top m f) = refl
  one_lineage (IsLineage.top n e) (IsLineage.next m f k) = absurd cc
  one_lineage (IsLineage.next n e h) IsLineage.above_all = absurd (n refl)
  one_lineage (IsLineage.next n e h) (IsLineage.top m f) = absurd cc
  one_lineage (IsLineage.next {a = a} {b = b} {names = names} n e h)
      (IsLineage.next {b = c} {names = others} m f k) =
      let found : Some c ≡ Some b = sym f ∙ e in
      let same : c ≡ b = cc in
      let moved : IsLineage types b others = subst (λ d. IsLineage types d others) same k in
      ap (λ l. l ++ a ∷ []) (one_lineage h moved)

  -- a name with a lineage of at most so many names
  record HasShort (name most : ℕ) : Type 0 where
    names : List ℕ
    lineage : IsLineage types name names
    short : length names ≤ most

  -- the lineage of a name that stands in another is not longer than that
  shorter : {a : ℕ} {ns : List ℕ} → IsLineage types a ns → (name : ℕ) → 0 < times name ns
      → HasShort name (length ns)
  shorter IsLineage.above_all name some = absurd (omega arith)
  shorter {a} (IsLineage.top below none) name some = by (nat_eq name a) refl some
    where
      by : (b : Bool) → nat_eq name a ≡ b → 0 < 0 + one_if b → HasShort name 1
      by true e h =
          subst (λ n. HasShort n 1) (sym (eqb-true name a e))
          (record { names = a ∷ []; lineage = IsLineage.top below none; short = omega arith })
      by false e h = absurd (omega arith)
  shorter {a} (IsLineage.next {names = ns} below is rest) name some =
      by (nat_eq name a) refl (subst (λ n. 0 < n) (times_push name ns a) some) (shorter rest name)
    where
      long : length (ns ++ a ∷ []) ≡ length ns + 1
      long = length-append ns (a ∷ [])

      by : (b : Bool) → nat_eq name a ≡ b → 0 < times name ns + one_if b
          → (0 < times name ns → HasShort name (length ns)) → HasShort name (length (ns ++ a ∷ []))
      by true e h more =
          subst (λ n. HasShort n (length (ns ++ a ∷ []))) (sym (eqb-true name a e))
          (record {
            names = ns ++ a ∷ [];
            lineage = IsLineage.next below is rest;
            short = omega arith;
          })
      by false e h more =
          let found = more (omega arith) in
          record {
            names = found.names;
            lineage = found.lineage;
            short = omega (arith, long, found.short);
          }

  -- else its lineage would be longer than itself
  pub at_most_once : {a : ℕ} {ns : List ℕ} → IsLineage types a ns → (name : ℕ)
      → times name ns ≤ 1
  at_most_once IsLineage.above_all name = omega arith
  at_most_once {a} (IsLineage.top below none) name = by (nat_eq name a)
    where
      by : (b : Bool) → 0 + one_if b ≤ 1
      by true = omega arith
      by false = omega arith
  at_most_once {a} (IsLineage.next {names = ns} below is rest) name =
      subst (λ n. n ≤ 1) (sym (times_push name ns a))
      (by (nat_eq name a) refl (at_most_once rest name) (none_or_some (times name ns)))
    where
      not_longer : HasShort name (length ns) → name ≡ a → ⊥
      not_longer found e =
          let moved : IsLineage types a found.names =
          subst (λ n. IsLineage types n found.names) e found.lineage in
          let same : found.names ≡ ns ++ a ∷ [] =
          one_lineage moved (IsLineage.next below is rest) in
          omega (arith, found.short, ap length same, length-append ns (a ∷ []))

      by : (b : Bool) → nat_eq name a ≡ b → times name ns ≤ 1
          → (times name ns ≡ 0) ⊎ (0 < times name ns) → times name ns + one_if b ≤ 1
      by true e h (inl none) = omega arith
      by true e h (inr some) = absurd (not_longer (shorter rest name some) (eqb-true name a e))
      by false e h any = omega arith
