use Rattle.std.proofs.Common.{◌≡◌, drop}
use Rattle.serde_json.specs.View.{items_view, members_view}
use Rattle.cdi_form.specs.Names.{bad_name_in_items, bad_name_in_members}
use Rattle.cdi_form.proofs.names.+names.Given as goal

abbrev pub invariant-bad_name_in_items-loop-item : goal.invariant-bad_name_in_items-loop-item
invariant-bad_name_in_items-loop-item l =
    bad_name_in_items (items_view (drop l.item-index l.item-items)) l.part ≡ bad_name_in_items (items_view l.items.items) l.part

abbrev pub invariant-bad_name_in_members-loop-key : goal.invariant-bad_name_in_members-loop-key
invariant-bad_name_in_members-loop-key l =
    bad_name_in_members (members_view l.key-iterator) l.kind ≡ bad_name_in_members (members_view l.members.entries) l.kind
