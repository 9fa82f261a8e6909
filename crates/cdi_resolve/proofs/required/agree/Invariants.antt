use Rattle.std.proofs.Common.{◌≡◌, drop, map}
use Rattle.cdi_quals.specs.Qualifiers.{agree, full_member}
use Rattle.cdi_resolve.proofs.required.agree.Given as goal

abbrev pub invariant-loop-i : goal.invariant-loop-i
invariant-loop-i l = agree (map (full_member l.given) (drop l.i l.members)) (drop l.i l.own) ≡ agree (map (full_member l.given) l.members) l.own
