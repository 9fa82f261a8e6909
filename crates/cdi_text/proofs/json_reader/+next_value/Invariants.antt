use Rattle.std.proofs.Common.{◌≡◌, ℕ, ◌+◌, ◌*◌, ◌≤◌, length}
use Rattle.json.specs.Json.{items, members, value, parse_map}
use Rattle.serde_json.specs.Data.{no_members}
use Rattle.serde_json.specs.Read.{of_items, of_members, converted}
use Rattle.serde_json.specs.View.{members_view}
use Rattle.cdi_text.proofs.JsonReading.{items_before}
use Rattle.cdi_text.proofs.json_reader.+next_value.Given as goal

abbrev pub decreases-next_value : goal.decreases-next_value
decreases-next_value l = 2 * l.depth

abbrev pub decreases-next_items : goal.decreases-next_items
decreases-next_items l = 2 * l.depth + 1

abbrev pub decreases-next_members : goal.decreases-next_members
decreases-next_members l = 2 * l.depth + 1

abbrev pub invariant-next_items-items : goal.invariant-next_items-items
invariant-next_items-items l =
    (n : ℕ) × (length l.reader ≤ n)
    × (converted of_items (items (value l.depth) (length l.initial.reader) l.initial.reader) ≡ parse_map (items_before l.found.items) (converted of_items (items (value l.depth) n l.reader)))
    × (length l.reader ≤ length l.initial.reader)

abbrev pub decreases-next_items-items : goal.decreases-next_items-items
decreases-next_items-items l = length l.reader

abbrev pub invariant-next_members-members : goal.invariant-next_members-members
invariant-next_members-members l =
    (n : ℕ) × (length l.reader ≤ n)
    × (converted (λ ms. of_members ms no_members) (members (value l.depth) (length l.initial.reader) l.initial.reader) ≡ converted (λ ms. of_members ms (members_view l.found.entries)) (members (value l.depth) n l.reader))
    × (length l.reader ≤ length l.initial.reader)

abbrev pub decreases-next_members-members : goal.decreases-next_members-members
decreases-next_members-members l = length l.reader
