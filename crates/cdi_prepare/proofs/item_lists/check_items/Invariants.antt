use Rattle.std.proofs.Common.{◌≡◌, drop}
use Rattle.cdi_prepare.specs.ItemLists.{first_in}
use Rattle.cdi_prepare.proofs.item_lists.check_items.Given as goal

abbrev pub invariant-loop-index : goal.invariant-loop-index
invariant-loop-index g l =
    first_in g.T.Item.long l.place l.key l.index-counter (drop l.index-counter l.items) ≡ first_in g.T.Item.long l.place l.key 0 l.items
