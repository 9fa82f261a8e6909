use Rattle.std.proofs.Common.{◌≡◌, ◌++◌, take}
use Rattle.std.specs.List.{flat_map}
use Rattle.cdi_cycle_hints.specs.Needs as spec
use Rattle.cdi_cycle_hints.proofs.needs.add_initializers.Given as goal

abbrev pub invariant-loop-member : goal.invariant-loop-member
invariant-loop-member l =
    l.needs ≡ l.initial.needs ++ flat_map (spec.initializer_needs l.tables) (take l.member-index l.members)
