-- Names that a superclass has already.
use Rattle.std.specs.Prelude.{ℕ, ◌≡◌, Bool, true, false, not, ◌==◌, ◌&&◌, ◌||◌, List, ◌++◌, map, filter, Some, IsTrue}
use Rattle.std.specs.HashSet.{HashSet}
use Rattle.std.specs.List.{list_any}
use Rattle.cdi_deployment.specs.declared.deployment.Class.{Class}
use Rattle.cdi_deployment.specs.declared.deployment.Member.{Member}
use Rattle.cdi_deployment.specs.declared.deployment.Member.TheVariants as members
use Rattle.cdi_types.specs.Line.{IsLineOf}
use Rattle.cdi_deployment.specs.Member.{member_name}
use Rattle.cdi_problems.specs.Elements.{Element}
use Rattle.cdi_types.specs.declared.declaration.TypeDeclaration.{TypeDeclaration}
use Rattle.cdi_bean_check.specs.MemberPlaces.{MemberPlace, same_place, has_place, IsOfSome}

abbrev pub has_field : ℕ → Class → Bool
has_field name c =
    list_any (λ f. f.name == name) c.fields || list_any (λ f. f.name == name) c.inject

-- of one kind, and methods with one number of values
abbrev pub is_alike : Member → Member → Bool
is_alike (members.Method m) (members.Method n) = m.args == n.args
is_alike (members.Initializer m) (members.Initializer n) = true
is_alike (members.PostConstruct m) (members.PostConstruct n) = true
is_alike (members.PreDestroy m) (members.PreDestroy n) = true
is_alike (members.Producer m) (members.Producer n) = true
is_alike (members.ProducerField m) (members.ProducerField n) = true
is_alike (members.Disposer m) (members.Disposer n) = true
is_alike (members.Observer m) (members.Observer n) = true
is_alike _ _ = false

-- a member of the same name that isn't alike
abbrev pub has_other_member : Member → Class → Bool
has_other_member m c =
    list_any (λ n. (member_name n == member_name m) && not (is_alike n m)) c.members

-- the names of a class's fields, injected or not, that fields of a class above it have, and of its members that are other members there
abbrev pub repeated_names : Class → Class → List ℕ
repeated_names above c =
    map (λ f. f.name) (filter (λ f. has_field f.name above) c.fields)
    ++ map (λ f. f.name) (filter (λ f. has_field f.name above) c.inject)
    ++ map member_name (filter (λ m. has_other_member m above) c.members)

-- at a place in a class stands such a name
abbrev pub repeats_at : Class → MemberPlace → Class → Bool
repeats_at c place above =
    list_any (λ name. same_place (c.name, name) place) (repeated_names above c)

-- a class repeats, at a place in it, a name of one of its superclasses
pub record RepeatsAt (classes : List Class) (types : List TypeDeclaration) (c : Class)
    (place : MemberPlace) : Type 0 where
  pub direct : ℕ
  pub extends : c.extends ≡ Some direct
  pub line : List Class
  pub is_line : IsLineOf types classes direct line
  pub repeats : IsTrue (list_any (repeats_at c place) line)

abbrev pub IsRepeatedAt : List Class → List TypeDeclaration → MemberPlace → Type 0
IsRepeatedAt classes types place = IsOfSome (RepeatsAt classes types) classes place

-- P1 DuplicateName against superclasses: a field, injected or not, has the name of a superclass's one; a member has the name of a
-- superclass's member of another kind or number of values
abbrev pub RepeatsSuperclass : List Class → List TypeDeclaration → Element → Type 0
RepeatsSuperclass classes types (Element.AField i c f) = IsRepeatedAt classes types (c.name, f.name)
RepeatsSuperclass classes types (Element.AnInjectedField i c f) =
    IsRepeatedAt classes types (c.name, f.name)
RepeatsSuperclass classes types (Element.AMember i c m) =
    IsRepeatedAt classes types (c.name, member_name m)
RepeatsSuperclass classes types _ = ⊥

-- the same of a set that has those places
abbrev pub IsPartAt : {S : Type 0} → HashSet MemberPlace S → Element → Type 0
IsPartAt set (Element.AField i c f) = IsTrue (has_place set (c.name, f.name))
IsPartAt set (Element.AnInjectedField i c f) = IsTrue (has_place set (c.name, f.name))
IsPartAt set (Element.AMember i c m) = IsTrue (has_place set (c.name, member_name m))
IsPartAt set _ = ⊥
