-- Names that a shape has as they were written: of events, of lookups, of exceptions.
use Rattle.std.specs.Prelude.{ℕ, Bool, false, not, ◌&&◌, ◌||◌, List, Option, Some, None}
use Rattle.std.specs.List.{list_all}
use Rattle.cdi_base.specs.declared.built_in.BuiltIn.TheVariants as names
use Rattle.cdi_bodies.specs.declared.shape.FiredEvent.{FiredEvent}
use Rattle.cdi_bodies.specs.declared.shape.Lookup.{Lookup}
use Rattle.cdi_body_check.specs.Exceptions.{is_declared}
use Rattle.cdi_deployment.specs.declared.deployment.Class.{Class}
use Rattle.cdi_deployment.specs.declared.deployment.Deployment.{Deployment}
use Rattle.cdi_deployment.specs.declared.deployment.Exception.{Exception}
use Rattle.cdi_types.specs.Line.{class_named}
use Rattle.cdi_name_check.specs.UnknownName.{is_built_in, is_type, are_qualifiers, is_event_qualifier_use}

-- a class of which there are instances
abbrev pub is_concrete : Option Class → Bool
is_concrete None = false
is_concrete (Some c) = not c.is_abstract

-- the class of an event is one of the deployment that isn't abstract, and its qualifiers are known, with their members, and none is
-- Default
abbrev pub is_event : Deployment → FiredEvent → Bool
is_event d e =
    is_concrete (class_named d.classes e.class) && list_all (is_event_qualifier_use d) e.qualifiers

-- the required type and qualifiers of a lookup are known
abbrev pub is_lookup : Deployment → Lookup → Bool
is_lookup d l = is_type d l.bean_type && are_qualifiers d l.qualifiers

abbrev pub is_built_in_exception : ℕ → Bool
is_built_in_exception name =
    is_built_in names.ContextNotActiveException name || is_built_in names.CreationException name
    || is_built_in names.IllegalProductException name
    || is_built_in names.IllegalStateException name
    || is_built_in names.IllegalArgumentException name
    || is_built_in names.NullPointerException name
    || is_built_in names.ObserverException name
    || is_built_in names.UnsatisfiedResolutionException name
    || is_built_in names.AmbiguousResolutionException name

abbrev pub is_exception_among : List Exception → ℕ → Bool
is_exception_among exceptions name = is_built_in_exception name || is_declared exceptions name

abbrev pub is_exception : Deployment → ℕ → Bool
is_exception d name = is_exception_among d.exceptions name
