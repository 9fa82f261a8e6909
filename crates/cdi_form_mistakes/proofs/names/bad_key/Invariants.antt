use Rattle.std.proofs.Common.{◌≡◌}
use Rattle.serde_json.specs.View.{members_view}
use Rattle.cdi_form.specs.Names.{first_bad_key}
use Rattle.cdi_form_mistakes.proofs.names.bad_key.Given as goal

abbrev pub invariant-loop-key : goal.invariant-loop-key
invariant-loop-key l = first_bad_key (members_view l.key-iterator) ≡ first_bad_key (members_view l.members.entries)
