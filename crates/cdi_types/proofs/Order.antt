-- Subtypes are ordered, and superclasses are a forest.
use Rattle.std.proofs.Common.{◌≡◌, ◌≢◌, ◌∙◌, ℕ, ◌||◌, true, false, nat_eq, List, [], refl, sym, ap, subst}
use Rattle.std.proofs.lemmas.Bool.{eqb-false}
use Rattle.cdi_types.specs.declared.declaration.TypeDeclaration.{TypeDeclaration}
use Rattle.cdi_types.specs.Lineage.{IsSuperclass}
use Rattle.cdi_types.specs.Subtype.{object, supertypes_of, is_declared, knows_supertypes, IsBelow, IsSubtype, IsAcyclic}
use Rattle.cdi_types.proofs.Listed.{not_in_none}
use Rattle.cdi_types.proofs.Supertypes.{superclass_above, known_above}

module _ (types : List TypeDeclaration) where
  pub chain : {a b c : ℕ} → IsBelow types a b → IsBelow types b c → IsBelow types a c
  chain (IsBelow.directly e) q = IsBelow.further e q
  chain (IsBelow.further e p) q = IsBelow.further e (chain p q)

  none_above : supertypes_of types object ≡ [] → {b : ℕ} → IsBelow types object b → ⊥
  none_above topmost (IsBelow.directly {b = m} e) = not_in_none (supertypes_of types object) m topmost e
  none_above topmost (IsBelow.further {b = m} e p) = not_in_none (supertypes_of types object) m topmost e

  above_object : supertypes_of types object ≡ [] → (o c : ℕ) → o ≡ object → IsBelow types o c → ⊥
  above_object topmost o c is p = let P : ℕ → Type 0 = λ o. IsBelow types o c in none_above topmost (subst P is p)

  pub transitive : supertypes_of types object ≡ [] → (a b c : ℕ) → IsSubtype types a b → IsSubtype types b c → IsSubtype types a c
  transitive topmost a b c IsSubtype.itself q = q
  transitive topmost a b c IsSubtype.object_above IsSubtype.itself = IsSubtype.object_above
  transitive topmost a b c IsSubtype.object_above IsSubtype.object_above = IsSubtype.object_above
  transitive topmost a b c IsSubtype.object_above (IsSubtype.below_it q) = absurd (none_above topmost q)
  transitive topmost a b c (IsSubtype.below_it p) IsSubtype.itself = IsSubtype.below_it p
  transitive topmost a b c (IsSubtype.below_it p) IsSubtype.object_above = IsSubtype.object_above
  transitive topmost a b c (IsSubtype.below_it p) (IsSubtype.below_it q) = IsSubtype.below_it (chain p q)

  pub antisymmetric : supertypes_of types object ≡ [] → IsAcyclic types → (a b : ℕ) → IsSubtype types a b → IsSubtype types b a → a ≡ b
  antisymmetric topmost acyclic a b IsSubtype.itself q = refl
  antisymmetric topmost acyclic a b IsSubtype.object_above IsSubtype.itself = refl
  antisymmetric topmost acyclic a b IsSubtype.object_above IsSubtype.object_above = refl
  antisymmetric topmost acyclic a b IsSubtype.object_above (IsSubtype.below_it q) = absurd (none_above topmost q)
  antisymmetric topmost acyclic a b (IsSubtype.below_it p) IsSubtype.itself = refl
  antisymmetric topmost acyclic a b (IsSubtype.below_it p) IsSubtype.object_above = absurd (none_above topmost p)
  antisymmetric topmost acyclic a b (IsSubtype.below_it p) (IsSubtype.below_it q) = absurd (acyclic a (chain p q))

  pub below_superclass : {a b : ℕ} → IsSuperclass types b a → IsBelow types a b
  below_superclass (IsSuperclass.directly {a = a} {b = b} e) = IsBelow.directly (superclass_above types a b e)
  below_superclass (IsSuperclass.further {a = a} {b = b} e p) = IsBelow.further (superclass_above types a b e) (below_superclass p)

  -- a type other than itself and Object is above a name only where that stands below it
  pub below_other : (a b : ℕ) → a ≢ b → b ≢ object → IsSubtype types a b → IsBelow types a b
  below_other a b ne other IsSubtype.itself = absurd (ne refl)
  below_other a b ne other IsSubtype.object_above = absurd (other refl)
  below_other a b ne other (IsSubtype.below_it p) = p

  -- what is above another name, and isn't Object, is declared
  pub declared_above : knows_supertypes types ≡ true → (a b : ℕ) → a ≢ b → nat_eq b object ≡ false → IsSubtype types a b → is_declared types b ≡ true
  declared_above known a b ne apart s =
      sym (ap (λ t. t || is_declared types b) apart) ∙ known_above types known a b (below_other a b ne (eqb-false b object apart) s)
