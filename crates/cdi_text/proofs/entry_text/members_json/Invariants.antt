use Rattle.std.proofs.Common.{◌≡◌, take}
use Rattle.serde_json.specs.View.{members_view}
use Rattle.cdi_text.specs.EntryText.{members_data}
use Rattle.cdi_text.proofs.entry_text.members_json.Given as goal

abbrev pub invariant-loop-member : goal.invariant-loop-member
invariant-loop-member l = members_view l.items.entries ≡ members_data l.names (take l.member-index l.members)
