use Rattle.std.proofs.Common.{◌≡◌, take}
use Rattle.cdi_resolve.specs.Resolution as resolution
use Rattle.cdi_candidates.proofs.narrowed.greatest_priority.Given as goal

abbrev pub invariant-loop-bean : goal.invariant-loop-bean
invariant-loop-bean l = l.greatest ≡ resolution.greatest_priority (take l.bean-index l.beans)
