use Rattle.std.proofs.Common.{◌≡◌}
use Rattle.serde_json.specs.View.{members_view}
use Rattle.cdi_form.specs.ValueForms.{members_in}
use Rattle.cdi_form.proofs.Fronts.{with_front}
use Rattle.cdi_form.proofs.value_forms.members_of.Given as goal

abbrev pub invariant-loop-key : goal.invariant-loop-key
invariant-loop-key l = with_front l.read.items (members_in (members_view l.key-iterator)) ≡ members_in (members_view l.members.entries)
