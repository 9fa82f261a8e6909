use Rattle.std.proofs.Common.{◌==◌, take}
use Rattle.std.specs.List.{list_any}
use Rattle.cdi_name_check.specs.NameSets.{HasNames}
use Rattle.cdi_name_check.proofs.unknown_name.name_sets.interface_names.Given as goal

abbrev pub invariant-loop-interface : goal.invariant-loop-interface
invariant-loop-interface l = HasNames (λ name. list_any (λ i. i.name == name) (take l.interface-index l.interfaces)) l.set
