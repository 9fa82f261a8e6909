use Rattle.std.proofs.Common.{◌≡◌, drop}
use Rattle.cdi_quals.specs.Qualifiers.{value_of}
use Rattle.cdi_event_tables.proofs.required.value_of.Given as goal

abbrev pub invariant-loop-member : goal.invariant-loop-member
invariant-loop-member l = value_of (drop l.member-index l.given) l.name ≡ value_of l.given l.name
