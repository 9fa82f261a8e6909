-- What a table has of beans that others specialize.
use Rattle.std.specs.Prelude.{ℕ, ◌≡◌, nat_eq, List, Some, IfSome}
use Rattle.std.specs.HashMap.{get}
use Rattle.cdi_deployment.specs.declared.deployment.Class.{Class}
use Rattle.cdi_quals.specs.declared.types.QualifierType.{QualifierType}
use Rattle.cdi_bean_check.specs.ManagedBeans.{bean_class}
use Rattle.cdi_bean_check.specs.Qualifiers.{full_uses}
use Rattle.cdi_beans.specs.ManagedQualifiers.{own_uses}
use Rattle.cdi_beans.specs.declared.specialized_parts.SpecializedParts.{SpecializedParts}

-- what it has at the name of a bean is what that has of its own
abbrev pub HasOwn : List Class → List QualifierType → SpecializedParts → Type 0
HasOwn classes types table =
    (name : ℕ) (c : Class) → bean_class classes name ≡ Some c
    → IfSome (get nat_eq table.parts name) (λ part. part.value ≡ full_uses types (own_uses classes c))
