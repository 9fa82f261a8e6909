use Rattle.std.proofs.Common.{◌≡◌, drop}
use Rattle.std.specs.List.{find}
use Rattle.cdi_planner.specs.Products.{is_producer_of}
use Rattle.cdi_planner.proofs.product.producer_in.Given as goal

abbrev pub invariant-loop-part : goal.invariant-loop-part
invariant-loop-part l = find (is_producer_of l.kind) (drop l.part-index l.part-items) ≡ find (is_producer_of l.kind) l.part-items
