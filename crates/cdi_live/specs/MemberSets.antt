-- Sets of members, by the classes that declare them and their names.
use Rattle.std.specs.Prelude.{ℕ, ◌≡◌, ◌==◌, ◌&&◌, Bool, true, Option, Some, None, slice_index_or}
use Rattle.std.specs.HashSet.{HashSet, contains}
use Rattle.cdi_beans.specs.declared.bean.BeanMember.{BeanMember}
use Rattle.cdi_name_check.specs.NameSets.{same_pair}
use Rattle.cdi_live.specs.declared.member_set.LastClasses.{LastClasses}

-- the class that was last put down with a name
abbrev pub last_with : LastClasses → ℕ → Option ℕ
last_with last name = slice_index_or last.classes.items name None

abbrev pub has : {S : Type 0} → HashSet (ℕ × ℕ) S → ℕ → ℕ → Bool
has set class name = contains same_pair set (class, name)

-- a set has each member whose class was the last one that was put down with its name
abbrev pub HasLast : {S : Type 0} → HashSet (ℕ × ℕ) S → LastClasses → Type 0
HasLast set last = (class name : ℕ) → last_with last name ≡ Some class → has set class name ≡ true

-- it is the member of a class with this name
abbrev pub is_it : ℕ → ℕ → BeanMember → Bool
is_it class name m = (m.class == class) && (m.name == name)
