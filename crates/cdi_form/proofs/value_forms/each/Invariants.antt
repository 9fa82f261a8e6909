use Rattle.std.proofs.Common.{◌≡◌, drop}
use Rattle.serde_json.specs.View.{items_view}
use Rattle.cdi_form.specs.ValueForms.{each_in}
use Rattle.cdi_form.proofs.Fronts.{with_front}
use Rattle.cdi_form.proofs.value_forms.each.Given as goal

abbrev pub invariant-loop-value : goal.invariant-loop-value
invariant-loop-value g l = with_front l.read.items (each_in g.T.Form.form (items_view (drop l.value-index l.values))) ≡ each_in g.T.Form.form (items_view l.values)
