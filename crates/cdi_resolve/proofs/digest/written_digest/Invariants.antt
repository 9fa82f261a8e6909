use Rattle.std.proofs.Common.{◌≡◌, drop, map}
use Rattle.cdi_quals.specs.Qualifiers.{full_member}
use Rattle.cdi_resolve.specs.Digests.{with_all_required}
use Rattle.cdi_resolve.proofs.digest.written_digest.Given as goal

abbrev pub invariant-loop-i : goal.invariant-loop-i
invariant-loop-i l =
    with_all_required (drop l.i l.flags) (map (full_member l.given) (drop l.i l.members)) l.digest ≡ with_all_required l.flags (map (full_member l.given) l.members) 0
