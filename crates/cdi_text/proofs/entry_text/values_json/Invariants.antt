use Rattle.std.proofs.Common.{◌≡◌, take, map}
use Rattle.serde_json.specs.View.{view}
use Rattle.cdi_text.specs.ReplyText.{value_data}
use Rattle.cdi_text.proofs.entry_text.values_json.Given as goal

abbrev pub invariant-loop-value : goal.invariant-loop-value
invariant-loop-value l = map view l.items.items ≡ map value_data (take l.value-index l.values)
