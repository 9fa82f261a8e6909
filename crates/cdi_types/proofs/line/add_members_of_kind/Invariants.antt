use Rattle.std.proofs.Common.{◌≡◌, ◌++◌, filter, drop, reverse}
use Rattle.cdi_types.specs.LastClass.{is_had}
use Rattle.cdi_types.specs.Kinds.{has_kind}
use Rattle.cdi_types.specs.Members.{parts_of}
use Rattle.cdi_types.specs.NameSet.{has}
use Rattle.cdi_types.proofs.line.add_members_of_kind.Given as goal

abbrev pub invariant-loop-place : goal.invariant-loop-place
invariant-loop-place l =
    reverse l.found ≡ parts_of l.class (filter (is_had (has l.below) l.is_last) (filter (has_kind l.kind) (drop l.place l.members))) ++ reverse l.initial.found
