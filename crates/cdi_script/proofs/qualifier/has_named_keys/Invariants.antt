use Rattle.std.proofs.Common.{◌≡◌}
use Rattle.serde_json.specs.View.{members_view}
use Rattle.cdi_script.specs.Qualifier.{has_named_keys}
use Rattle.cdi_script.proofs.qualifier.has_named_keys.Given as goal

abbrev pub invariant-loop-key : goal.invariant-loop-key
invariant-loop-key l = has_named_keys (members_view l.key-iterator) ≡ has_named_keys (members_view l.members.entries)
