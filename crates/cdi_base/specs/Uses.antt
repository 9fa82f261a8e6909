-- Uses as they are written, and with their names in a table.
use Rattle.std.specs.Prelude.{◌≡◌, ℕ, Bool, ◌&&◌, List, [], ◌∷◌, Option, Some, None, Result, Ok, Err, option_map, option_and_then, if◌then◌else◌}
use Rattle.std.specs.List.{list_all}
use Rattle.cdi_base.specs.declared.name.TableFull.{TableFull}
use Rattle.cdi_base.specs.declared.or_memory.OrMemory.{OrMemory}
use Rattle.cdi_base.specs.declared.or_memory.OrMemory.TheVariants as errors
use Rattle.cdi_base.specs.declared.uses.MemberValue.{MemberValue}
use Rattle.cdi_base.specs.declared.uses.Use.{Use}
use Rattle.cdi_base.specs.declared.uses.WrittenMember.{WrittenMember}
use Rattle.cdi_base.specs.declared.uses.WrittenUse.{WrittenUse}
use Rattle.cdi_base.specs.Name.{is_name, has_room, number_of, with_name}

abbrev pub has_name : WrittenMember → Bool
has_name member = is_name member.name

-- the texts of a use that stand in a name's place are names
abbrev pub has_names : WrittenUse → Bool
has_names written = is_name written.name && list_all has_name written.members

-- the number of a text, and the table with it; none if the table is full
abbrev pub numbered : List (List ℕ) → List ℕ → Option (ℕ × List (List ℕ))
numbered names text =
    if has_room names text then Some (number_of names text, with_name names text) else None

abbrev pub numbered_member : List (List ℕ) → WrittenMember → Option (MemberValue × List (List ℕ))
numbered_member names member =
    option_map (λ n. (record { name = n.0; value = member.value }, n.1))
    (numbered names member.name)

-- the members with their names' numbers, one after the other
abbrev pub numbered_members : List (List ℕ) → List WrittenMember
    → Option (List MemberValue × List (List ℕ))
numbered_members names [] = Some ([], names)
numbered_members names (member ∷ others) =
    option_and_then
    (λ first. option_map (λ rest. (first.0 ∷ rest.0, rest.1)) (numbered_members first.1 others))
    (numbered_member names member)

-- the use with the number of its name, and then of its members' names
abbrev pub numbered_use : List (List ℕ) → WrittenUse → Option (Use × List (List ℕ))
numbered_use names written =
    option_and_then
    (λ n.
    option_map (λ members. (record { name = n.0; members = members.0 }, members.1))
    (numbered_members n.1 written.members))
    (numbered names written.name)

-- what was answered, seen by view, is what numbering gives: none if the table is full, and memory may run out
abbrev pub Interns : {A B : Type 0} → (A → B) → Result A (OrMemory TableFull) → Option B → Type 0
Interns view (Ok x) given = given ≡ Some (view x)
Interns view (Err (errors.Fault full)) given = given ≡ None
Interns view (Err errors.Memory) given = Unit {0}
