use Rattle.std.proofs.Common.{◌≡◌, ◌++◌, take}
use Rattle.std.specs.List.{flat_map}
use Rattle.cdi_cycle_hints.specs.Needs as spec
use Rattle.cdi_cycle_hints.proofs.needs.add_producer.Given as goal

abbrev pub invariant-loop-member : goal.invariant-loop-member
invariant-loop-member l =
    l.needs ≡ l.initial.needs ++ flat_map (spec.named_needs l.tables l.name) (take l.member-index l.members)
