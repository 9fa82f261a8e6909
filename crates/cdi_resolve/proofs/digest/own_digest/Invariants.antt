use Rattle.std.proofs.Common.{◌≡◌, drop}
use Rattle.cdi_resolve.specs.Digests.{with_all_own}
use Rattle.cdi_resolve.proofs.digest.own_digest.Given as goal

abbrev pub invariant-loop-i : goal.invariant-loop-i
invariant-loop-i l = with_all_own (drop l.i l.flags) (drop l.i l.members) l.digest ≡ with_all_own l.flags l.members 0
