-- Which classes' events can be fired, which observers hear an event, in groups by priority, and how its qualifiers are written:
-- computed here, where cdi_observers has relations (Jakarta CDI 4.0, Event types and qualifier types, Observer resolution, Observer
-- ordering).
use Rattle.std.specs.Prelude.{ℕ, zero, suc, ℤ, ◌==◌, ◌||◌, ◌&&◌, List, [], ◌∷◌, map, filter, length, Bool, false, not, int_lt, if◌then◌else◌}
use Rattle.std.specs.List.{list_any}
use Rattle.std.specs.Ordering.{int_eq}
use Rattle.std.specs.declared.cmp.Ordering.{Ordering}
use Rattle.std.specs.declared.cmp.Ordering.TheVariants as orders
use Rattle.cdi_base.specs.declared.uses.MemberValue.{MemberValue}
use Rattle.cdi_base.specs.declared.uses.Use.{Use}
use Rattle.cdi_beans.specs.declared.bean.ObserverMethod.{ObserverMethod}
use Rattle.cdi_bodies.specs.Events.{is_any}
use Rattle.cdi_deployment.specs.declared.deployment.Class.{Class}
use Rattle.cdi_quals.specs.Order.{compare_qualifiers}
use Rattle.cdi_quals.specs.Qualifiers.{full_use, has_all}
use Rattle.cdi_quals.specs.declared.qualifier.Qualifier.{Qualifier}
use Rattle.cdi_quals.specs.declared.qualifier.QualifierMember.{QualifierMember}
use Rattle.cdi_quals.specs.declared.types.QualifierType.{QualifierType}
use Rattle.cdi_resolve.specs.Filters.{default}
use Rattle.cdi_body_check.specs.WrittenNames.{is_concrete}
use Rattle.cdi_types.specs.Line.{class_named}
use Rattle.cdi_types.specs.Subtype.{object, supertypes_of}
use Rattle.cdi_types.specs.declared.declaration.TypeDeclaration.{TypeDeclaration}

-- ---- types

-- a class of which there are instances; of classes with one name the first counts
abbrev pub is_event_class : List Class → ℕ → Bool
is_event_class classes name = is_concrete (class_named classes name)

-- by so many steps up, or less
abbrev pub is_below_within : List TypeDeclaration → ℕ → ℕ → ℕ → Bool
is_below_within types zero a b = false
is_below_within types (suc n) a b =
    list_any (λ c. (c == b) || is_below_within types n c b) (supertypes_of types a)

-- in a hierarchy without a cycle a way up passes each declaration once at most
abbrev pub is_subtype : List TypeDeclaration → ℕ → ℕ → Bool
is_subtype types a b =
    (a == b) || (b == object) || is_below_within types (length types) a b

-- ---- who hears

abbrev pub any_qualifier : Qualifier
any_qualifier = record default { name = 3 }

-- an observer hears an event of a class with qualifiers, which also has Any
abbrev pub hears : List TypeDeclaration → ℕ → List Qualifier → ObserverMethod → Bool
hears types class qualifiers o =
    is_subtype types class o.ty && has_all (any_qualifier ∷ qualifiers) o.qualifiers

-- ---- groups

-- observers of one priority, behind those of lower ones
pub record Group : Type 0 where
  pub priority : ℤ
  pub observers : List ObserverMethod

abbrev pub new_group : ObserverMethod → Group
new_group o = record { priority = o.priority; observers = o ∷ [] }

-- an observer goes to the front of the group of its priority
abbrev pub with_observer : ObserverMethod → List Group → List Group
with_observer o [] = new_group o ∷ []
with_observer o (g ∷ more) =
    if int_eq o.priority g.priority
    then record { priority = g.priority; observers = o ∷ g.observers } ∷ more
    else if int_lt o.priority g.priority then new_group o ∷ g ∷ more
    else g ∷ with_observer o more

-- by ascending priority, and in a group as they stand
abbrev pub groups_of : List ObserverMethod → List Group
groups_of [] = []
groups_of (o ∷ more) = with_observer o (groups_of more)

-- ---- qualifiers as they are written

abbrev pub placed_by : Ordering → Qualifier → Qualifier → List Qualifier → List Qualifier → List Qualifier
placed_by orders.Less q r more rest = q ∷ r ∷ more
placed_by orders.Equal q r more rest = r ∷ more
placed_by orders.Greater q r more rest = r ∷ rest

-- each once, in their order
abbrev pub with_qualifier : List (List ℕ) → Qualifier → List Qualifier → List Qualifier
with_qualifier names q [] = q ∷ []
with_qualifier names q (r ∷ more) =
    placed_by (compare_qualifiers names q r) q r more (with_qualifier names q more)

abbrev pub ordered_qualifiers : List (List ℕ) → List Qualifier → List Qualifier
ordered_qualifiers names [] = []
ordered_qualifiers names (q ∷ more) = with_qualifier names q (ordered_qualifiers names more)

abbrev pub written_member : QualifierMember → MemberValue
written_member m = record { name = m.name; value = m.value }

-- a use with all the members of its type
abbrev pub written_use : Qualifier → Use
written_use q = record { name = q.name; members = map written_member q.members }

abbrev pub is_not_any : Qualifier → Bool
is_not_any q = not (q.name == 3)

-- all but Any, each once, in order
abbrev pub written_uses : List (List ℕ) → List QualifierType → List Use → List Use
written_uses names types uses =
    map written_use (ordered_qualifiers names (map (full_use types) (filter (λ u. not (is_any u)) uses)))
