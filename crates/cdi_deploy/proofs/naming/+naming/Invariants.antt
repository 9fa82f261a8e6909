use Rattle.std.proofs.Common.{◌≡◌, drop}
use Rattle.serde_json.specs.View.{items_view, members_view}
use Rattle.cdi_deploy.specs.Naming.{items_added, members_added}
use Rattle.cdi_deploy.proofs.naming.+naming.Given as goal

abbrev pub invariant-add_items-loop-item : goal.invariant-add_items-loop-item
invariant-add_items-loop-item l =
    items_added l.names (items_view (drop l.item-index l.item-items)) l.part ≡ items_added l.initial.names (items_view l.items.items) l.part

abbrev pub invariant-add_members-loop-key : goal.invariant-add_members-loop-key
invariant-add_members-loop-key l =
    members_added l.names (members_view l.key-iterator) l.kind ≡ members_added l.initial.names (members_view l.members.entries) l.kind
