use Rattle.std.proofs.Common.{◌≡◌, drop}
use Rattle.cdi_quals.specs.Qualifiers.{agree}
use Rattle.cdi_quals.proofs.qualifier.agree.Given as goal

abbrev pub invariant-loop-i : goal.invariant-loop-i
invariant-loop-i l = agree (drop l.i l.a) (drop l.i l.b) ≡ agree l.a l.b
