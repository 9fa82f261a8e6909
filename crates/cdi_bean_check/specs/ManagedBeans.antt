-- Classes that are beans, and what they specialize.
use Rattle.std.specs.Prelude.{ℕ, Bool, true, false, not, ◌==◌, ◌&&◌, List, map, filter, Option, Some, None, is_some, IsTrue, option_and_then}
use Rattle.std.specs.List.{find}
use Rattle.cdi_base.specs.declared.scope.Scope.{Scope}
use Rattle.cdi_base.specs.declared.scope.Scope.TheVariants as scopes
use Rattle.cdi_deployment.specs.declared.deployment.Bean.{Bean}
use Rattle.cdi_deployment.specs.declared.deployment.Class.{Class}
use Rattle.cdi_deployment.specs.Lists.{stands_in}
use Rattle.cdi_problems.specs.Elements.{Element}

abbrev pub is_bean : Class → Bool
is_bean c = is_some c.bean

abbrev pub says_specializes : Option Bean → Bool
says_specializes None = false
says_specializes (Some b) = b.specializes

-- the class of a name, if that is a bean's
abbrev pub bean_class : List Class → ℕ → Option Class
bean_class classes name = find (λ c. (c.name == name) && is_bean c) classes

-- the bean, by its class, that a class directly extends
abbrev pub extended_bean : List Class → Class → Option Class
extended_bean classes c = option_and_then (bean_class classes) c.extends

-- the names of the classes that are beans
abbrev pub bean_names : List Class → List ℕ
bean_names classes = map (λ c. c.name) (filter is_bean classes)

abbrev pub is_one_of : List ℕ → Option ℕ → Bool
is_one_of names None = false
is_one_of names (Some name) = stands_in names name

-- a class directly extends one of these
abbrev pub extends_one_of : List ℕ → Class → Bool
extends_one_of names c = is_one_of names c.extends

-- P4 AbstractBean: a bean's class is abstract
abbrev pub IsAbstractBean : Element → Type 0
IsAbstractBean (Element.AClass i c) = IsTrue (is_bean c && c.is_abstract)
IsAbstractBean _ = ⊥

-- P6 SpecializesNothing: a bean specializes and its class doesn't directly extend a bean's class
abbrev pub SpecializesNothing : List ℕ → Element → Type 0
SpecializesNothing beans (Element.AClass i c) =
    IsTrue (says_specializes c.bean && not (extends_one_of beans c))
SpecializesNothing beans _ = ⊥

abbrev pub is_dependent : Scope → Bool
is_dependent scopes.Dependent = true
is_dependent _ = false

abbrev pub has_dependent_scope : Option Bean → Bool
has_dependent_scope None = false
has_dependent_scope (Some b) = is_dependent b.scope
