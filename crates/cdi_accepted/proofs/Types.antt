-- The types of qualifiers and bindings are one, and so are sets of qualifiers and the uses that make a bean's.
use Rattle.std.proofs.Common.{◌≡◌, ◌∙◌, ℕ, List, ◌∷◌, ◌++◌, map, Some, refl, sym, ap, subst}
use Rattle.cdi_base.specs.declared.uses.Use.{Use}
use Rattle.cdi_deployment.specs.declared.deployment.AnnotationType.{AnnotationType}
use Rattle.cdi_deployment.specs.declared.deployment.Class.{Class}
use Rattle.cdi_deployment.specs.declared.deployment.Deployment.{Deployment}
use Rattle.cdi_quals.proofs.Orders.{names_total, names_apart, qualifiers_total, qualifiers_apart}
use Rattle.cdi_quals.specs.Qualifiers.{full_use}
use Rattle.cdi_quals.specs.Types.{member_type, IsTypeOf, AreTypesOf, built_in_qualifiers, AreQualifiersOf}
use Rattle.cdi_quals.specs.declared.qualifier.Qualifier.{Qualifier}
use Rattle.cdi_quals.specs.declared.types.QualifierType.{QualifierType}
use Rattle.cdi_bean_check.specs.Qualifiers.{AreUsesOf, IsSetOf, specializing_uses, declared_uses}
use Rattle.cdi_event_tables.proofs.OneSet.{one_set}
use Rattle.cdi_accepted.proofs.OneLine.{neither}

type_with : AnnotationType → List ℕ → QualifierType
type_with d in_order = record { name = d.name; members = map (member_type d.nonbinding) in_order }

module _ (names : List (List ℕ)) where
  one_type : (d : AnnotationType) (t u : QualifierType) → IsTypeOf names d t → IsTypeOf names d u → t ≡ u
  unfolding type_with
  one_type d t u a b =
      a.is ∙ ap (type_with d) (one_set (names_total names) (names_apart names) d.members a.in_order b.in_order a.ordered b.ordered) ∙ sym b.is

  pub one_type_list : {ds : List AnnotationType} {ts us : List QualifierType} → AreTypesOf names ds ts → AreTypesOf names ds us → ts ≡ us
  one_type_list AreTypesOf.none AreTypesOf.none = refl
  one_type_list (AreTypesOf.next {d = d} {t = t} a rest) (AreTypesOf.next {t = u} b more) =
      let head : t ≡ u = one_type d t u a b in
      let tail = one_type_list rest more in
      λ i. head i ∷ tail i

  pub one_qualifier_set : (types : List QualifierType) (uses : List Use) (set other : List Qualifier) → IsSetOf names types uses set → IsSetOf names types uses other → set ≡ other
  one_qualifier_set types uses set other a b = one_set (qualifiers_total names) (qualifiers_apart names) (map (full_use types) uses) set other a b

pub one_qualifier_list : (d : Deployment) (ts us : List QualifierType) → AreQualifiersOf d ts → AreQualifiersOf d us → ts ≡ us
one_qualifier_list d ts us a b =
    let declared = one_type_list d.names a.are b.are in
    a.is ∙ ap (λ l. l ++ built_in_qualifiers) declared ∙ sym b.is

pub one_use_list : {classes : List Class} {c : Class} {uses others : List Use} → AreUsesOf classes c uses → AreUsesOf classes c others → uses ≡ others
one_use_list (AreUsesOf.plain e) (AreUsesOf.plain f) = refl
one_use_list (AreUsesOf.plain e) (AreUsesOf.specializing f h) = absurd (neither (sym e ∙ f))
one_use_list (AreUsesOf.specializing e h) (AreUsesOf.plain f) = absurd (neither (sym f ∙ e))
one_use_list {classes} (AreUsesOf.specializing {c = c} {s = s} {uses = us} e h) (AreUsesOf.specializing {s = t} {uses = vs} f k) =
    let found : Some t ≡ Some s = sym f ∙ e in
    let same : t ≡ s = cc in
    let moved : AreUsesOf classes s vs = subst (λ b. AreUsesOf classes b vs) same k in
    ap (λ l. specializing_uses (declared_uses c.bean) ++ l) (one_use_list h moved)
