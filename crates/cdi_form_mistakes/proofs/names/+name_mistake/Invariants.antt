use Rattle.std.proofs.Common.{◌≡◌, drop}
use Rattle.serde_json.specs.View.{items_view, members_view}
use Rattle.cdi_form_mistakes.specs.NameMistake.{name_in_items, name_in_members}
use Rattle.cdi_form_mistakes.proofs.names.+name_mistake.Given as goal

abbrev pub invariant-name_in_items-loop-item : goal.invariant-name_in_items-loop-item
invariant-name_in_items-loop-item l =
    (l.index ≡ l.item-index)
    × (name_in_items (items_view (drop l.item-index l.item-items)) l.part l.index ≡ name_in_items (items_view l.items.items) l.part 0)

abbrev pub invariant-name_in_members-loop-key : goal.invariant-name_in_members-loop-key
invariant-name_in_members-loop-key l = name_in_members (members_view l.key-iterator) l.kind ≡ name_in_members (members_view l.members.entries) l.kind
