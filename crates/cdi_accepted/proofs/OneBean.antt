-- A source makes one bean.
use Rattle.std.proofs.Common.{◌≡◌, ◌∙◌, ℕ, List, map, Option, Some, sym, ap, subst}
use Rattle.std.specs.Prelude.{option_map}
use Rattle.cdi_base.specs.declared.scope.Scope.{Scope}
use Rattle.cdi_base.specs.declared.uses.Use.{Use}
use Rattle.cdi_deployment.specs.declared.deployment.Class.{Class}
use Rattle.cdi_deployment.specs.declared.deployment.Deployment.{Deployment}
use Rattle.cdi_quals.specs.declared.types.QualifierType.{QualifierType}
use Rattle.cdi_bean_check.specs.BeanTypes.{restriction}
use Rattle.cdi_beans.specs.Beans.{Source, IsBeanOf, IsBeanWith, IsDeclaredBy, IsManagedBeanOf, IsProductOf, bean_member}
use Rattle.cdi_beans.specs.declared.bean.Bean.{Bean}
use Rattle.cdi_beans.specs.declared.bean.BeanKind.{BeanKind}
use Rattle.cdi_beans.specs.declared.bean.BeanKind.TheVariants as kinds
use Rattle.cdi_accepted.proofs.DeterminedLists.{one_listed}
use Rattle.cdi_accepted.proofs.OneLine.{one_membership}
use Rattle.cdi_accepted.proofs.Types.{one_use_list}

-- the same in what the class that declares it gives
record SameDeclared (a b : Bean) : Type 0 where
  class : a.class ≡ b.class
  alternative : a.alternative ≡ b.alternative
  priority : a.priority ≡ b.priority

-- in what its kind, its types, its qualifiers and its scope give
record SameParts (a b : Bean) : Type 0 where
  kind : a.kind ≡ b.kind
  types : a.types ≡ b.types
  qualifiers : a.qualifiers ≡ b.qualifiers
  scope : a.scope ≡ b.scope

same_bean : (a b : Bean) → SameDeclared a b → SameParts a b → a.specializes ≡ b.specializes → a.members ≡ b.members → a ≡ b
same_bean a b d p specializes members =
    λ i. record {
      kind = p.kind i;
      class = d.class i;
      types = p.types i;
      qualifiers = p.qualifiers i;
      scope = p.scope i;
      alternative = d.alternative i;
      priority = d.priority i;
      specializes = specializes i;
      members = members i;
    }

declared : (c : Class) (a b : Bean) → IsDeclaredBy c a → IsDeclaredBy c b → SameDeclared a b
declared c a b x y =
    record { class = x.class ∙ sym y.class; alternative = x.alternative ∙ sym y.alternative; priority = x.priority ∙ sym y.priority }

module _ (d : Deployment) (qualifiers : List QualifierType) where
  parts : (kind : BeanKind) (of : ℕ) (typed : Option (List ℕ)) (uses : List Use) (scope : Option Scope) (a b : Bean) → IsBeanWith d qualifiers kind of typed uses scope a → IsBeanWith d qualifiers kind of typed uses scope b → SameParts a b
  parts kind of typed uses scope a b x y =
      let found : Some a.scope ≡ Some b.scope = sym x.scope_is ∙ y.scope_is in
      record {
        kind = x.kind_is ∙ sym y.kind_is;
        types = one_listed x.types y.types;
        qualifiers = x.are_full ∙ sym y.are_full;
        scope = cc;
      }

  product : (c : Class) (a b : Bean) → IsProductOf c a → IsProductOf c b → SameParts a b → a ≡ b
  product c a b x y same =
      same_bean a b (declared c a b x.declared y.declared) same (x.specializes ∙ sym y.specializes) (x.no_members ∙ sym y.no_members)

  managed : (c : Class) (a b : Bean) → IsDeclaredBy c a → IsDeclaredBy c b → IsManagedBeanOf d c a → IsManagedBeanOf d c b → SameParts a b → a ≡ b
  managed c a b x y m n same =
      same_bean a b (declared c a b x y) same (m.specializes ∙ sym n.specializes)
      (m.are ∙ ap (map bean_member) (one_membership d.classes c m.has n.has m.had n.had) ∙ sym n.are)

  pub one_bean : (source : Source) (a b : Bean) → IsBeanOf d qualifiers source a → IsBeanOf d qualifiers source b → a ≡ b
  one_bean source a b (IsBeanOf.managed {c = c} {uses = us} u x m w) (IsBeanOf.managed {uses = vs} v y n z) =
      let same : vs ≡ us = one_use_list v u in
      let W : List Use → Type 0 = λ l. IsBeanWith d qualifiers kinds.Managed c.name (restriction c.bean) l (option_map (λ bean. bean.scope) c.bean) b in
      managed c a b x y m n (parts _ _ _ us _ a b w (subst W same z))
  one_bean source a b (IsBeanOf.produced {c = c} x w) (IsBeanOf.produced y z) = product c a b x y (parts _ _ _ _ _ a b w z)
  one_bean source a b (IsBeanOf.held {c = c} x w) (IsBeanOf.held y z) = product c a b x y (parts _ _ _ _ _ a b w z)
