use Rattle.std.proofs.Common.{◌≡◌, drop}
use Rattle.serde_json.specs.View.{items_view, members_view}
use Rattle.cdi_form.specs.Numbers.{items_fit, members_fit}
use Rattle.cdi_form.proofs.numbers.+numbers.Given as goal

abbrev pub invariant-items_fit-loop-item : goal.invariant-items_fit-loop-item
invariant-items_fit-loop-item l = items_fit (items_view (drop l.item-index l.item-items)) ≡ items_fit (items_view l.items.items)

abbrev pub invariant-members_fit-loop-member : goal.invariant-members_fit-loop-member
invariant-members_fit-loop-member l = members_fit (members_view l.member-iterator) ≡ members_fit (members_view l.members.entries)
