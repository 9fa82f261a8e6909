-- Full uses, and when one has another (Jakarta CDI 4.0, Typesafe resolution).
use Rattle.std.specs.Prelude.{ℕ, Bool, true, false, not, ◌==◌, ◌&&◌, ◌||◌, List, [], ◌∷◌, map, if◌then◌else◌}
use Rattle.std.specs.List.{list_any, list_all}
use Rattle.std.specs.Ordering.{is_eq}
use Rattle.cdi_base.specs.declared.uses.MemberValue.{MemberValue}
use Rattle.cdi_base.specs.declared.uses.Use.{Use}
use Rattle.cdi_base.specs.declared.value.Value.{Value}
use Rattle.cdi_base.specs.declared.value.Value.TheVariants.{Null}
use Rattle.cdi_quals.specs.Order.{compare_values}
use Rattle.cdi_quals.specs.Types.{members_of}
use Rattle.cdi_quals.specs.declared.qualifier.Qualifier.{Qualifier}
use Rattle.cdi_quals.specs.declared.qualifier.QualifierMember.{QualifierMember}
use Rattle.cdi_quals.specs.declared.types.MemberType.{MemberType}
use Rattle.cdi_quals.specs.declared.types.QualifierType.{QualifierType}

-- the value that is given to a member, or null
abbrev pub value_of : List MemberValue → ℕ → Value
value_of [] name = Null
value_of (m ∷ ms) name = if m.name == name then m.value else value_of ms name

abbrev pub full_member : List MemberValue → MemberType → QualifierMember
full_member given member =
    record {
      name = member.name;
      value = value_of given member.name;
      is_binding = member.is_binding;
    }

-- a use with all the members of its type
abbrev pub full_use : List QualifierType → Use → Qualifier
full_use types written =
    record {
      name = written.name;
      members = map (full_member written.members) (members_of types written.name);
    }

-- equal values, which a nonbinding member needn't have
abbrev pub agrees : QualifierMember → QualifierMember → Bool
agrees m n = not m.is_binding || is_eq (compare_values m.value n.value)

-- the members of one type, which stand in one order, agree one by one
abbrev pub agree : List QualifierMember → List QualifierMember → Bool
agree [] [] = true
agree [] (n ∷ ns) = false
agree (m ∷ ms) [] = false
agree (m ∷ ms) (n ∷ ns) = agrees m n && agree ms ns

-- two uses of one type with equal values of all members that aren't nonbinding
abbrev pub same_binding : Qualifier → Qualifier → Bool
same_binding p q = (p.name == q.name) && agree p.members q.members

-- a set has a use if it holds such a one
abbrev pub has : List Qualifier → Qualifier → Bool
has set required = list_any (same_binding required) set

abbrev pub has_all : List Qualifier → List Qualifier → Bool
has_all set required = list_all (has set) required
