use Rattle.std.proofs.Common.{◌≡◌, drop, length}
use Rattle.serde_json.specs.View.{items_view}
use Rattle.cdi_base.specs.Name.{Extends}
use Rattle.cdi_script.specs.Reading.{each}
use Rattle.cdi_script.proofs.Each.{with_front}
use Rattle.cdi_script.proofs.reading.each.Given as goal

abbrev pub invariant-loop-item : goal.invariant-loop-item
invariant-loop-item g l = record {
  goes_on : with_front l.read.items (each g.T.Item.form l.names (items_view (drop l.item-index l.items))) ≡ each g.T.Item.form l.initial.names (items_view l.items);
  count : length l.read.items ≡ l.item-index;
  kept : Extends l.initial.names l.names;
}
