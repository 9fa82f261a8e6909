use Rattle.std.proofs.Common.{◌≡◌, drop}
use Rattle.serde_json.specs.View.{items_view, members_view}
use Rattle.cdi_form_mistakes.specs.NumberMistake.{number_in_items, number_in_members}
use Rattle.cdi_form_mistakes.proofs.numbers.+number_mistake.Given as goal

abbrev pub invariant-number_in_items-loop-item : goal.invariant-number_in_items-loop-item
invariant-number_in_items-loop-item l =
    (l.index ≡ l.item-index) × (number_in_items (items_view (drop l.item-index l.item-items)) l.index ≡ number_in_items (items_view l.items.items) 0)

abbrev pub invariant-number_in_members-loop-key : goal.invariant-number_in_members-loop-key
invariant-number_in_members-loop-key l = number_in_members (members_view l.key-iterator) ≡ number_in_members (members_view l.members.entries)
