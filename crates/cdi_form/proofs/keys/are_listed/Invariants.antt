use Rattle.std.proofs.Common.{◌≡◌}
use Rattle.serde_json.specs.View.{members_view}
use Rattle.cdi_form.specs.Keys.{are_listed}
use Rattle.cdi_form.proofs.keys.are_listed.Given as goal

abbrev pub invariant-loop-key : goal.invariant-loop-key
invariant-loop-key l = are_listed l.kind (members_view l.key-iterator) ≡ are_listed l.kind (members_view l.members.entries)
