-- Where neither the name of a class nor a declared type is lost, no type is.
use Rattle.std.proofs.Common.{◌≡◌, ◌∙◌, ℕ, Bool, true, false, nat_eq, List, Option, Some, None, refl, sym, subst, All}
use Rattle.std.proofs.lemmas.Bool.{eqb-true, eqb-false, true≢false}
use Rattle.std.proofs.lemmas.List.Folds.{Any-from_list_any}
use Rattle.std.proofs.lemmas.List.Elements.{All-contains}
use Rattle.std.specs.List.{Any, Contains}
use Rattle.cdi_deployment.specs.declared.deployment.Class.{Class}
use Rattle.cdi_types.specs.declared.declaration.TypeDeclaration.{TypeDeclaration}
use Rattle.cdi_types.specs.Subtype.{object, is_declared, knows_supertypes, IsSubtype}
use Rattle.cdi_types.proofs.Order.{declared_above}
use Rattle.cdi_bean_check.specs.BeanTypes.{is_left, restriction, IsTypeOfClass, IsLost, LacksTypeOf}

object_left : (typed : Option (List ℕ)) → is_left typed object ≡ true
object_left None = refl
object_left (Some typed) = refl

has_object : (types : List TypeDeclaration) (c : Class) → IsTypeOfClass types c object
has_object types c = record { above = IsSubtype.object_above; left = object_left (restriction c.bean) }

pub none_lost : (types : List TypeDeclaration) → knows_supertypes types ≡ true → (specialized c : Class)
    → (IsLost types specialized c specialized.name → ⊥)
    → All (λ d. IsLost types specialized c d.name → ⊥) types
    → LacksTypeOf types specialized c → ⊥
none_lost types known specialized c own declared lacks = by (nat_eq specialized.name t) (nat_eq t object) (is_declared types t) refl refl refl
  where
    t : ℕ
    t = lacks.type

    Lost : ℕ → Type 0
    Lost type = IsLost types specialized c type

    by : (own_name top there : Bool) → nat_eq specialized.name t ≡ own_name → nat_eq t object ≡ top → is_declared types t ≡ there → ⊥
    by true top there e o d = own (subst Lost (sym (eqb-true specialized.name t e)) lacks.is_lost)
    by false true there e o d =
        let P : ℕ → Type 0 = λ n. IsTypeOfClass types c n in
        lacks.is_lost.lost (subst P (sym (eqb-true t object o)) (has_object types c))
    by false false true e o d =
        let found : Any (λ d. nat_eq d.name t ≡ true) types = Any-from_list_any (λ (d : TypeDeclaration). nat_eq d.name t) types d in
        let listed : Contains types found.1 = (found.0, found.2, found.3) in
        All-contains (λ d. IsLost types specialized c d.name → ⊥) types found.1 declared listed (subst Lost (sym (eqb-true found.1.name t found.4)) lacks.is_lost)
    by false false false e o d =
        true≢false (sym (declared_above types known specialized.name t (eqb-false specialized.name t e) o lacks.is_lost.its_type.above) ∙ d)
