-- What a class has of what the classes of its line declare, the topmost first (Jakarta CDI 4.0, Inheritance of member-level metadata).
use Rattle.std.specs.Prelude.{ℕ, ◌==◌, ◌&&◌, ◌++◌, Bool, true, false, not, List, [], ◌∷◌, map, filter}
use Rattle.std.specs.List.{list_any, flat_map}
use Rattle.cdi_deployment.specs.declared.deployment.Class.{Class}
use Rattle.cdi_deployment.specs.declared.deployment.Field.{Field}
use Rattle.cdi_deployment.specs.declared.deployment.InjectedField.{InjectedField}
use Rattle.cdi_deployment.specs.declared.deployment.Member.{Member}
use Rattle.cdi_deployment.specs.declared.deployment.Member.TheVariants as members
use Rattle.cdi_deployment.specs.Member.{member_name}

-- methods, initializers, callbacks and observers; producers, producer fields and disposers are those of their class alone
abbrev pub is_inherited : Member → Bool
is_inherited (members.Producer p) = false
is_inherited (members.ProducerField p) = false
is_inherited (members.Disposer d) = false
is_inherited _ = true

-- a class declares a member with this name
abbrev pub declares : ℕ → Class → Bool
declares name class = list_any (λ m. member_name m == name) class.members

-- a member has come down past the classes below its own: it is inherited, and none of them overrides it by a member with its name
abbrev pub comes_down : List Class → Member → Bool
comes_down [] member = true
comes_down below member =
    is_inherited member && not (list_any (declares (member_name member)) below)

-- something that a class declares, with that class
abbrev pub parts_of : {A : Type 0} → Class → List A → List (Class × A)
parts_of class parts = map (λ part. (class, part)) parts

-- the members that the last class of a line has: class by class, those that come down to it, in the order of their declarations
abbrev pub members_of : List Class → List (Class × Member)
members_of [] = []
members_of (class ∷ below) =
    parts_of class (filter (comes_down below) class.members) ++ members_of below

-- the fields of all classes of a line: none is ever overridden
abbrev pub fields_of : List Class → List (Class × Field)
fields_of line = flat_map (λ class. parts_of class class.fields) line

abbrev pub injected_fields_of : List Class → List (Class × InjectedField)
injected_fields_of line = flat_map (λ class. parts_of class class.inject) line

-- a class inherits a member of a superclass's if it is of an inherited kind and the class doesn't override it
abbrev pub inherits : Class → Class × Member → Bool
inherits class (_, member) = is_inherited member && not (declares (member_name member) class)
