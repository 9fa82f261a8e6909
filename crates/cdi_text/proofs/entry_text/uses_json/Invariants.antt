use Rattle.std.proofs.Common.{◌≡◌, take, map}
use Rattle.serde_json.specs.View.{view}
use Rattle.cdi_text.specs.EntryText.{use_data}
use Rattle.cdi_text.proofs.entry_text.uses_json.Given as goal

abbrev pub invariant-loop-written : goal.invariant-loop-written
invariant-loop-written l = map view l.items.items ≡ map (use_data l.names) (take l.written-index l.uses)
