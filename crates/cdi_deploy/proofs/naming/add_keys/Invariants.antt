use Rattle.std.proofs.Common.{◌≡◌}
use Rattle.serde_json.specs.View.{members_view}
use Rattle.cdi_deploy.specs.Naming.{keys_added}
use Rattle.cdi_deploy.proofs.naming.add_keys.Given as goal

abbrev pub invariant-loop-key : goal.invariant-loop-key
invariant-loop-key l = keys_added l.names (members_view l.key-iterator) ≡ keys_added l.initial.names (members_view l.members.entries)
