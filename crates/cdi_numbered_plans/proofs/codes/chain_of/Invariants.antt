use Rattle.std.proofs.Common.{◌≡◌, take}
use Rattle.cdi_numbered_plans.proofs.codes.chain_of.Given as goal

abbrev pub invariant-loop-place : goal.invariant-loop-place
invariant-loop-place l = l.chain ≡ take l.place-index l.places
