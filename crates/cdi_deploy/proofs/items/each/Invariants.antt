use Rattle.std.proofs.Common.{◌≡◌, ◌++◌, drop}
use Rattle.serde_json.specs.View.{items_view}
use Rattle.cdi_deploy.specs.Items.{each}
use Rattle.cdi_deploy.proofs.items.each.Given as goal

abbrev pub invariant-loop-value : goal.invariant-loop-value
invariant-loop-value g l =
    l.items.items ++ each (g.T.Item.form l.names) (items_view (drop l.value-index l.values)) ≡ each (g.T.Item.form l.names) (items_view l.values)
