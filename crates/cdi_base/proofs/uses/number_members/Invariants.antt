use Rattle.std.proofs.Common.{◌≡◌, drop}
use Rattle.cdi_base.specs.Name.{Extends}
use Rattle.cdi_base.specs.Uses.{numbered_members}
use Rattle.cdi_base.proofs.Numbering.{with_front}
use Rattle.cdi_base.proofs.uses.number_members.Given as goal

-- what was numbered so far stands before what the other members give
abbrev pub invariant-loop-member : goal.invariant-loop-member
invariant-loop-member l = record {
  goes_on : with_front l.members.items (numbered_members l.names (drop l.member-index l.written)) ≡ numbered_members l.initial.names l.written;
  kept : Extends l.initial.names l.names;
}
