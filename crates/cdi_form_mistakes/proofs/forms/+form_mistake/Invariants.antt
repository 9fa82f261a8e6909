use Rattle.std.proofs.Common.{◌≡◌, drop}
use Rattle.serde_json.specs.View.{items_view, members_view}
use Rattle.cdi_form_mistakes.specs.FormMistake.{mistake_in_items, mistake_in_members}
use Rattle.cdi_form_mistakes.proofs.forms.+form_mistake.Given as goal

abbrev pub invariant-mistake_in_items-loop-item : goal.invariant-mistake_in_items-loop-item
invariant-mistake_in_items-loop-item l =
    (l.index ≡ l.item-index)
    × (mistake_in_items (items_view (drop l.item-index l.item-items)) l.part l.index ≡ mistake_in_items (items_view l.items.items) l.part 0)

abbrev pub invariant-mistake_in_members-loop-key : goal.invariant-mistake_in_members-loop-key
invariant-mistake_in_members-loop-key l =
    mistake_in_members (members_view l.key-iterator) l.kind ≡ mistake_in_members (members_view l.members.entries) l.kind
