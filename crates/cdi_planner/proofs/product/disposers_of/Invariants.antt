use Rattle.std.proofs.Common.{take}
use Rattle.cdi_planner.specs.Products.{AreDisposersOf}
use Rattle.cdi_planner.proofs.product.disposers_of.Given as goal

abbrev pub invariant-loop-member : goal.invariant-loop-member
invariant-loop-member l = AreDisposersOf l.types l.qualifiers l.chains l.class l.producer (take l.member-index l.member-items) l.disposers
