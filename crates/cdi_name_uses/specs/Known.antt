-- The names of a deployment that a name in a step may be.
use Rattle.std.specs.Prelude.{ℕ, List, [], ◌∷◌, ◌++◌, map}
use Rattle.std.specs.List.{flat_map}
use Rattle.cdi_base.specs.BuiltIn.{number_of}
use Rattle.cdi_base.specs.declared.built_in.BuiltIn.TheVariants as built_in
use Rattle.cdi_deployment.specs.declared.deployment.Deployment.{Deployment}
use Rattle.cdi_deployment.specs.declared.deployment.Field.{Field}
use Rattle.cdi_deployment.specs.declared.deployment.InjectedField.{InjectedField}
use Rattle.cdi_deployment.specs.declared.deployment.Member.{Member}
use Rattle.cdi_deployment.specs.declared.deployment.Member.TheVariants as members
use Rattle.cdi_name_uses.specs.declared.step_name.StepGroup.{StepGroup}
use Rattle.cdi_name_uses.specs.declared.step_name.StepGroup.TheVariants as groups

abbrev pub field_names : List Field → List ℕ
field_names fields = map (λ f. f.name) fields

abbrev pub injected_names : List InjectedField → List ℕ
injected_names fields = map (λ f. f.name) fields

abbrev pub method_name : Member → List ℕ
method_name (members.Method m) = m.name ∷ []
method_name _ = []

-- the business methods among some members
abbrev pub method_names : List Member → List ℕ
method_names ms = flat_map method_name ms

-- classes, declared or built in, and interfaces
abbrev pub type_names : Deployment → List ℕ
type_names d =
    number_of built_in.Object ∷ number_of built_in.Startup ∷ number_of built_in.Shutdown
    ∷ (map (λ c. c.name) d.classes ++ map (λ i. i.name) d.interfaces)

abbrev pub built_in_exceptions : List ℕ
built_in_exceptions =
    number_of built_in.ContextNotActiveException ∷ number_of built_in.CreationException
    ∷ number_of built_in.IllegalProductException ∷ number_of built_in.IllegalStateException
    ∷ number_of built_in.IllegalArgumentException ∷ number_of built_in.NullPointerException
    ∷ number_of built_in.ObserverException ∷ number_of built_in.UnsatisfiedResolutionException
    ∷ number_of built_in.AmbiguousResolutionException ∷ []

-- the names that are declared of a group, by whichever class or interceptor
abbrev pub known_names : Deployment → StepGroup → List ℕ
known_names d groups.Field =
    flat_map (λ c. field_names c.fields) d.classes
    ++ flat_map (λ j. field_names j.fields) d.interceptors
known_names d groups.InjectedField =
    flat_map (λ c. injected_names c.inject) d.classes
    ++ flat_map (λ j. injected_names j.inject) d.interceptors
known_names d groups.Method = flat_map (λ c. method_names c.members) d.classes
known_names d groups.Class = map (λ c. c.name) d.classes
known_names d groups.Type = type_names d
known_names d groups.Exception = built_in_exceptions ++ map (λ x. x.name) d.exceptions
