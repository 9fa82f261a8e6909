-- Subtypes, over the names of the declared types (Jakarta CDI 4.0, Bean types).
use Rattle.std.specs.Prelude.{ℕ, ◌==◌, ◌||◌, ◌++◌, List, [], ◌∷◌, filter, map, Bool, option_to_list, Contains}
use Rattle.std.specs.List.{flat_map, list_any, list_all}
use Rattle.cdi_base.specs.BuiltIn.{number_of}
use Rattle.cdi_base.specs.declared.built_in.BuiltIn.TheVariants as names
use Rattle.cdi_types.specs.declared.declaration.TypeDeclaration.{TypeDeclaration}

-- Object, the class above all types
abbrev pub object : ℕ
object = number_of names.Object

-- what a declaration names directly above it
abbrev pub direct_supertypes : TypeDeclaration → List ℕ
direct_supertypes declared = option_to_list declared.superclass ++ declared.interfaces

-- what stands directly above a name: what all its declarations name
abbrev pub supertypes_of : List TypeDeclaration → ℕ → List ℕ
supertypes_of types name = flat_map direct_supertypes (filter (λ d. d.name == name) types)

-- the transitive closure of `extends` and `implements`: one step up, or more
pub data IsBelow (types : List TypeDeclaration) : ℕ → ℕ → Type 0 where
  directly : {a b : ℕ} → Contains (supertypes_of types a) b → IsBelow types a b
  further : {a b c : ℕ} → Contains (supertypes_of types a) b → IsBelow types b c → IsBelow types a c

-- a type is a subtype of itself, of Object, and of what it stands below
pub data IsSubtype (types : List TypeDeclaration) : ℕ → ℕ → Type 0 where
  itself : {a : ℕ} → IsSubtype types a a
  object_above : {a : ℕ} → IsSubtype types a object
  below_it : {a b : ℕ} → IsBelow types a b → IsSubtype types a b

-- a type is its own proper supertype
abbrev pub IsCyclic : List TypeDeclaration → ℕ → Type 0
IsCyclic types a = IsBelow types a a

abbrev pub IsAcyclic : List TypeDeclaration → Type 0
IsAcyclic types = (a : ℕ) → IsCyclic types a → ⊥

abbrev pub names_of : List TypeDeclaration → List ℕ
names_of types = map (λ d. d.name) types

-- the names of the declared types in order, and Object
abbrev pub all_types : List TypeDeclaration → List ℕ
all_types types = names_of types ++ object ∷ []

abbrev pub is_declared : List TypeDeclaration → ℕ → Bool
is_declared types name = list_any (λ d. d.name == name) types

abbrev pub is_type : List TypeDeclaration → ℕ → Bool
is_type types name = (name == object) || is_declared types name

-- each name that stands above a type is a type's
abbrev pub knows_supertypes : List TypeDeclaration → Bool
knows_supertypes types = list_all (λ d. list_all (is_type types) (direct_supertypes d)) types
