-- One type more.
use Rattle.std.proofs.Common.{◌≡◌, ◌∙◌, ℕ, ◌+◌, ◌<◌, List, [], ◌∷◌, ◌++◌, length, take, get_or, sym, ap, subst}
use Rattle.std.proofs.lemmas.List.{take_more}
use Rattle.cdi_deployment.specs.declared.deployment.AnnotationType.{AnnotationType}
use Rattle.cdi_quals.specs.Types.{IsTypeOf, AreTypesOf}
use Rattle.cdi_quals.specs.declared.types.QualifierType.{QualifierType}

module _ (names : List (List ℕ)) where
  last : {ds : List AnnotationType} {ts : List QualifierType} (d : AnnotationType) (t : QualifierType) → AreTypesOf names ds ts → IsTypeOf names d t → AreTypesOf names (ds ++ d ∷ []) (ts ++ t ∷ [])
  last d t AreTypesOf.none p = AreTypesOf.next p AreTypesOf.none
  last d t (AreTypesOf.next q rest) p = AreTypesOf.next q (last d t rest p)

  pub one_more : (ds : List AnnotationType) (ts : List QualifierType) (i : ℕ) (d : AnnotationType) (t : QualifierType) → i < length ds → d ≡ get_or ds i d → AreTypesOf names (take i ds) ts → IsTypeOf names d t
      → AreTypesOf names (take (i + 1) ds) (ts ++ t ∷ [])
  one_more ds ts i d t within is so_far p =
      let P : List AnnotationType → Type 0 = λ xs. AreTypesOf names xs (ts ++ t ∷ []) in
      subst P (ap (λ x. take i ds ++ x ∷ []) is ∙ sym (take_more ds i d within)) (last d t so_far p)
