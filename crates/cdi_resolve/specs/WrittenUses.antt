-- What qualifiers require that are given as they were written.
use Rattle.std.specs.Prelude.{List, [], ◌∷◌, map}
use Rattle.cdi_base.specs.declared.uses.Use.{Use}
use Rattle.cdi_quals.specs.Qualifiers.{full_member}
use Rattle.cdi_quals.specs.Types.{members_of}
use Rattle.cdi_quals.specs.declared.qualifier.Qualifier.{Qualifier}
use Rattle.cdi_quals.specs.declared.types.MemberType.{MemberType}
use Rattle.cdi_quals.specs.declared.types.QualifierType.{QualifierType}

-- what a use of a type with these members requires
abbrev pub use_with : List MemberType → Use → Qualifier
use_with members written =
    record { name = written.name; members = map (full_member written.members) members }

-- the members of the type of the first use
abbrev pub first_members : List QualifierType → List Use → List MemberType
first_members types [] = []
first_members types (written ∷ uses) = members_of types written.name
