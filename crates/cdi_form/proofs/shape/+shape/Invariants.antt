use Rattle.std.proofs.Common.{◌≡◌, drop}
use Rattle.serde_json.specs.View.{items_view, members_view}
use Rattle.cdi_form.specs.Shape.{wrong_items, wrong_members}
use Rattle.cdi_form.proofs.shape.+shape.Given as goal

abbrev pub invariant-wrong_items-loop-item : goal.invariant-wrong_items-loop-item
invariant-wrong_items-loop-item l =
    (l.index ≡ l.item-index) × (wrong_items (items_view (drop l.item-index l.item-items)) l.part l.index ≡ wrong_items (items_view l.items.items) l.part 0)

abbrev pub invariant-wrong_members-loop-key : goal.invariant-wrong_members-loop-key
invariant-wrong_members-loop-key l = wrong_members (members_view l.key-iterator) l.kind ≡ wrong_members (members_view l.members.entries) l.kind
