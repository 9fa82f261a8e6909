use Rattle.std.proofs.Common.{◌≡◌}
use Rattle.serde_json.specs.View.{members_view}
use Rattle.cdi_form_mistakes.specs.FormMistake.{first_unlisted}
use Rattle.cdi_form_mistakes.proofs.forms.first_unlisted.Given as goal

abbrev pub invariant-loop-key : goal.invariant-loop-key
invariant-loop-key l = first_unlisted l.kind (members_view l.key-iterator) ≡ first_unlisted l.kind (members_view l.members.entries)
