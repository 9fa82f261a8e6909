use Rattle.std.proofs.Common.{take}
use Rattle.std.specs.List.{Contains}
use Rattle.cdi_deployment.specs.declared.deployment.Member.{Member}
use Rattle.cdi_bean_check.specs.MixedNames.{IsSeen, KeepsSeen}
use Rattle.cdi_bean_check.proofs.mixed_names.MixedNames.add_members.Given as goal

abbrev pub invariant-loop-member : goal.invariant-loop-member
invariant-loop-member l =
    ((m : Member) → Contains (take l.member-index l.members) m → IsSeen l.self m) × KeepsSeen l.initial.self l.self
