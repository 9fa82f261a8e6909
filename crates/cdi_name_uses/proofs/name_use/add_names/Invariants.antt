use Rattle.std.proofs.Common.{◌≡◌, ◌++◌, map, take}
use Rattle.cdi_name_uses.specs.Uses as spec
use Rattle.cdi_name_uses.proofs.name_use.add_names.Given as goal

abbrev pub invariant-loop-name : goal.invariant-loop-name
invariant-loop-name l = l.uses ≡ l.initial.uses ++ map (spec.of_group l.group) (take l.name-index l.names)
