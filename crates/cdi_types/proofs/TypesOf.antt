-- The names of the types that a type is a subtype of.
use Rattle.std.proofs.Common.{◌≡◌, ◌∙◌, ◌||◌, ◌⊎◌, inl, inr, ℕ, Bool, true, false, nat_eq, List, [], ◌∷◌, refl, sym, ap, subst}
use Rattle.std.proofs.lemmas.Bool.{cases_Bool, eqb-true}
use Rattle.std.proofs.lemmas.Bool.Decides.{Decides-eqb}
use Rattle.std.proofs.lemmas.List.Folds.{list_any-append}
use Rattle.std.specs.List.{list_any}
use Rattle.cdi_base.proofs.Tables.{list_any-map}
use Rattle.cdi_types.proofs.Order.{declared_above}
use Rattle.cdi_types.specs.ListsThose.{ListsThose}
use Rattle.cdi_types.specs.Subtype.{all_types, is_declared, knows_supertypes, names_of, object, IsSubtype}
use Rattle.cdi_types.specs.declared.declaration.TypeDeclaration.{TypeDeclaration}

abbrev stands : List ℕ → ℕ → Bool
stands names b = list_any (λ n. nat_eq n b) names

module _ (P : ℕ → Type 0) (b : ℕ) where
  kept_only : {xs kept : List ℕ} → ListsThose P xs kept → stands kept b ≡ true → P b
  kept_only ListsThose.none e = absurd cc
  kept_only (ListsThose.keep {x = x} {found = ys} p rest) e = by (nat_eq x b) refl e (kept_only rest)
    where
      by : (h : Bool) → nat_eq x b ≡ h → (h || stands ys b) ≡ true → (stands ys b ≡ true → P b) → P b
      by true is e later = subst P (eqb-true x b is) p
      by false is e later = later e
  kept_only (ListsThose.skip n rest) e = kept_only rest e

  all_kept : {xs kept : List ℕ} → ListsThose P xs kept → stands xs b ≡ true → P b → stands kept b ≡ true
  all_kept ListsThose.none e p = e
  all_kept (ListsThose.keep {x = x} {xs = xs} {found = ys} q rest) e p = by (nat_eq x b) e (λ h. all_kept rest h p)
    where
      by : (h : Bool) → (h || stands xs b) ≡ true → (stands xs b ≡ true → stands ys b ≡ true) → (h || stands ys b) ≡ true
      by true e later = refl
      by false e later = later e
  all_kept (ListsThose.skip {x = x} {xs = xs} {found = ys} n rest) e p = by (nat_eq x b) refl e (λ h. all_kept rest h p)
    where
      by : (h : Bool) → nat_eq x b ≡ h → (h || stands xs b) ≡ true → (stands xs b ≡ true → stands ys b ≡ true) → stands ys b ≡ true
      by true is e later = absurd (n (subst P (sym (eqb-true x b is)) p))
      by false is e later = later e

declared_stands : (types : List TypeDeclaration) (b : ℕ) → stands (all_types types) b ≡ (is_declared types b || (nat_eq object b || false))
declared_stands types b =
    list_any-append (λ n. nat_eq n b) (names_of types) (object ∷ [])
    ∙ ap (λ h. h || (nat_eq object b || false)) (list_any-map (λ n. nat_eq n b) (λ (d : TypeDeclaration). d.name) types)

in_first : (a b : Bool) → a ≡ true → (a || b) ≡ true
in_first true b e = refl
in_first false b e = absurd cc

in_other : (a b : Bool) → b ≡ true → (a || (b || false)) ≡ true
in_other true b e = refl
in_other false true e = refl
in_other false false e = absurd cc

in_last : (a b : Bool) → b ≡ true → (a || b) ≡ true
in_last true b e = refl
in_last false b e = e

parted : (a b c : Bool) → (a || (b || c)) ≡ true → (a ≡ true) ⊎ ((b ≡ true) ⊎ (c ≡ true))
parted true b c e = inl refl
parted false true c e = inr (inl refl)
parted false false c e = inr (inr e)

-- a set to which a type's name was added, and then what it is a subtype of
module _ (types : List TypeDeclaration) (known : knows_supertypes types ≡ true) (a : ℕ) (found : List ℕ) (those : ListsThose (IsSubtype types a) (all_types types) found) (old : Bool) (b : ℕ) where
  listed : (nat_eq a b ≡ true → ⊥) → IsSubtype types a b → stands (all_types types) b ≡ true
  listed other s = declared_stands types b ∙ elim (cases_Bool (nat_eq b object)) [
    | inl same ↦ in_other (is_declared types b) (nat_eq object b) (let is : b ≡ object = eqb-true b object same in ap (λ n. nat_eq object n) is)
    | inr apart ↦ in_first (is_declared types b) (nat_eq object b || false) (declared_above types known a b (λ e. other (same_true a b e)) apart s)
  ]
    where
      same_true : (x y : ℕ) → x ≡ y → nat_eq x y ≡ true
      same_true x y e = (Decides-eqb x y).1 e

  pub has_only : (stands found b || (nat_eq a b || old)) ≡ true → IsSubtype types a b ⊎ (old ≡ true)
  has_only e = elim (parted (stands found b) (nat_eq a b) old e) [
    | inl there ↦ inl (kept_only (IsSubtype types a) b those there)
    | inr others ↦ elim others [
      | inl itself ↦ inl (let P : ℕ → Type 0 = IsSubtype types a in subst P (eqb-true a b itself) IsSubtype.itself)
      | inr before ↦ inr before
    ]
  ]

  pub has_all : IsSubtype types a b ⊎ (old ≡ true) → (stands found b || (nat_eq a b || old)) ≡ true
  has_all (inr before) = in_last (stands found b) (nat_eq a b || old) (in_last (nat_eq a b) old before)
  has_all (inl s) = elim (cases_Bool (nat_eq a b)) [
    | inl itself ↦ in_last (stands found b) (nat_eq a b || old) (in_first (nat_eq a b) old itself)
    | inr other ↦ in_first (stands found b) (nat_eq a b || old) (all_kept (IsSubtype types a) b those (listed (λ e. absurd cc) s) s)
  ]
