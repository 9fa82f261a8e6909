use Rattle.std.proofs.Common.{◌≡◌, take}
use Rattle.cdi_types.specs.Members.{parts_of}
use Rattle.cdi_planner.proofs.own_parts.own_members.Given as goal

abbrev pub invariant-loop-part : goal.invariant-loop-part
invariant-loop-part l = l.members ≡ parts_of l.class (take l.part-index l.part-items)
