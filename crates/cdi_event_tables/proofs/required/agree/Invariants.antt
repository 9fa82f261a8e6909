use Rattle.std.proofs.Common.{◌≡◌, drop, map}
use Rattle.cdi_quals.specs.Qualifiers.{agree, full_member}
use Rattle.cdi_event_tables.proofs.required.agree.Given as goal

-- the answer is that of the members that are left
abbrev pub invariant-loop-i : goal.invariant-loop-i
invariant-loop-i l = agree (drop l.i l.required) (map (full_member l.given) (drop l.i l.members)) ≡ agree l.required (map (full_member l.given) l.members)
