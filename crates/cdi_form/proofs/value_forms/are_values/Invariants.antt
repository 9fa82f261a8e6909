use Rattle.std.proofs.Common.{◌≡◌}
use Rattle.std.specs.Option.{is_some}
use Rattle.serde_json.specs.View.{members_view}
use Rattle.cdi_form.specs.ValueForms.{members_in}
use Rattle.cdi_form.proofs.value_forms.are_values.Given as goal

abbrev pub invariant-loop-value : goal.invariant-loop-value
invariant-loop-value l = is_some (members_in (members_view l.value-iterator)) ≡ is_some (members_in (members_view l.members.entries))
