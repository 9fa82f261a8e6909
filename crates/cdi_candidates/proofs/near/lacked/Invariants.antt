use Rattle.std.proofs.Common.{◌≡◌, take}
use Rattle.cdi_candidates.specs.Near as spec
use Rattle.cdi_candidates.proofs.near.lacked.Given as goal

abbrev pub invariant-loop-qualifier : goal.invariant-loop-qualifier
invariant-loop-qualifier l =
    l.names ≡ spec.lacked (take l.qualifier-index l.required) l.bean
