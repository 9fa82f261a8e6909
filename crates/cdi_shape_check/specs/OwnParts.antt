-- What the instance has that a body runs on.
use Rattle.std.specs.Prelude.{ℕ, ◌≡◌, Bool, false, ◌==◌, ◌&&◌, List, Option}
use Rattle.std.specs.List.{find, list_any, flat_map}
use Rattle.cdi_deployment.specs.declared.deployment.Class.{Class}
use Rattle.cdi_deployment.specs.declared.deployment.Deployment.{Deployment}
use Rattle.cdi_deployment.specs.declared.deployment.Field.{Field}
use Rattle.cdi_deployment.specs.declared.deployment.InjectedField.{InjectedField}
use Rattle.cdi_deployment.specs.declared.deployment.Interceptor.{Interceptor}
use Rattle.cdi_deployment.specs.declared.deployment.Member.{Member}
use Rattle.cdi_deployment.specs.declared.deployment.Member.TheVariants as members
use Rattle.cdi_body_check.specs.Sites.{Site}
use Rattle.cdi_types.specs.Line.{IsLineOf}
use Rattle.cdi_types.specs.Declarations.{declarations_of}

-- whether it has a field, its injected fields, and whether it has a method with a number of values, all by their names
pub record OwnParts : Type 0 where
  pub has_field : ℕ → Bool
  pub injected : ℕ → Option InjectedField
  pub has_method : ℕ → ℕ → Bool

abbrev pub has_field : ℕ → List Field → Bool
has_field name fields = list_any (λ f. f.name == name) fields

-- the injected field of a name; if several have it, the first one counts
abbrev pub injected_field : ℕ → List InjectedField → Option InjectedField
injected_field name fields = find (λ f. f.name == name) fields

abbrev pub is_method : ℕ → ℕ → Member → Bool
is_method name count (members.Method m) = (m.name == name) && (m.args == count)
is_method name count _ = false

-- a class declares a method of this name with this number of values
abbrev pub declares_method : ℕ → ℕ → Class → Bool
declares_method name count c = list_any (is_method name count) c.members

-- what the classes of a line declare
abbrev pub parts_of_line : List Class → OwnParts
parts_of_line line = record {
  has_field = λ name. list_any (λ c. has_field name c.fields) line;
  injected = λ name. injected_field name (flat_map (λ c. c.inject) line);
  has_method = λ name count. list_any (declares_method name count) line;
}

-- what an interceptor declares; it has no methods that its bodies could call
abbrev pub parts_of_interceptor : Interceptor → OwnParts
parts_of_interceptor j = record {
  has_field = λ name. has_field name j.fields;
  injected = λ name. injected_field name j.inject;
  has_method = λ name count. false;
}

-- what a class and its superclasses declare
pub record AreClassParts (d : Deployment) (c : Class) (parts : OwnParts) : Type 0 where
  pub line : List Class
  pub is_line : IsLineOf (declarations_of d) d.classes c.name line
  pub are : parts ≡ parts_of_line line

-- what the instance of a body has, as the class that declares the body and its superclasses declare it, or as its interceptor does
abbrev pub ArePartsOf : Deployment → Site → OwnParts → Type 0
ArePartsOf d (Site.AConstructor c k body) parts = AreClassParts d c parts
ArePartsOf d (Site.AMember c m body) parts = AreClassParts d c parts
ArePartsOf d (Site.AnInterceptorMethod j method body) parts = parts ≡ parts_of_interceptor j
