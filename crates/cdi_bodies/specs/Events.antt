-- When two lists of qualifiers are those of one event.
use Rattle.std.specs.Prelude.{◌≡◌, ◌≢◌, ◌↔◌, Bool, true, false, ◌==◌, ◌&&◌, ◌||◌, List, bytes_eq}
use Rattle.std.specs.List.{list_all, list_any, Any, Contains}
use Rattle.std.specs.Ordering.{int_eq}
use Rattle.cdi_base.specs.BuiltIn.{number_of}
use Rattle.cdi_base.specs.declared.built_in.BuiltIn.TheVariants as names
use Rattle.cdi_base.specs.declared.uses.MemberValue.{MemberValue}
use Rattle.cdi_base.specs.declared.uses.Use.{Use}
use Rattle.cdi_base.specs.declared.value.Value.{Value}
use Rattle.cdi_base.specs.declared.value.Value.TheVariants as values

-- each of ys that isn't left out has a same one in xs
abbrev pub has_each : {X : Type 0} → (X → Bool) → (X → X → Bool) → List X → List X → Bool
has_each is_left_out same xs ys = list_all (λ y. is_left_out y || list_any (λ x. same x y) xs) ys

-- each of the one list that isn't left out has a same one in the other, and the other way round
abbrev pub same_items : {X : Type 0} → (X → Bool) → (X → X → Bool) → List X → List X → Bool
same_items is_left_out same xs ys =
    has_each is_left_out same xs ys && has_each is_left_out same ys xs

abbrev pub value_eq : Value → Value → Bool
value_eq values.Null values.Null = true
value_eq (values.Int a) (values.Int b) = int_eq a b
value_eq (values.Text a) (values.Text b) = bytes_eq a b
value_eq _ _ = false

abbrev pub is_null : Value → Bool
is_null values.Null = true
is_null _ = false

abbrev pub same_member : MemberValue → MemberValue → Bool
same_member m n = (m.name == n.name) && value_eq m.value n.value

-- a member that isn't given is null
abbrev pub is_not_given : MemberValue → Bool
is_not_given m = is_null m.value

abbrev pub same_use : Use → Use → Bool
same_use u v = (u.name == v.name) && same_items is_not_given same_member u.members v.members

-- each event has the qualifier Any
abbrev pub is_any : Use → Bool
is_any u = u.name == number_of names.Any

abbrev pub same_qualifiers : List Use → List Use → Bool
same_qualifiers us vs = same_items is_any same_use us vs

-- ---- the same without tests, for the law

-- one name and, but for null ones, the same members
abbrev pub AreAlike : Use → Use → Type 0
AreAlike u v =
    (u.name ≡ v.name)
    × ((m : MemberValue) → m.value ≢ values.Null → Contains u.members m ↔ Contains v.members m)

-- each use of us but Any is like one of vs
abbrev pub AreAmong : List Use → List Use → Type 0
AreAmong us vs = (u : Use) → u.name ≢ number_of names.Any → Contains us u → Any (AreAlike u) vs
