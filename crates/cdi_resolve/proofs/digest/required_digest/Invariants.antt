use Rattle.std.proofs.Common.{◌≡◌, drop}
use Rattle.cdi_resolve.specs.Digests.{with_all_required}
use Rattle.cdi_resolve.proofs.digest.required_digest.Given as goal

abbrev pub invariant-loop-i : goal.invariant-loop-i
invariant-loop-i l = with_all_required (drop l.i l.flags) (drop l.i l.members) l.digest ≡ with_all_required l.flags l.members 0
