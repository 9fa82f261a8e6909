use Rattle.std.proofs.Common.{◌==◌, ◌&&◌, not, take}
use Rattle.std.specs.List.{list_any}
use Rattle.cdi_name_check.specs.NameSets.{HasNames}
use Rattle.cdi_name_check.proofs.unknown_name.name_sets.open_class_names.Given as goal

abbrev pub invariant-loop-class : goal.invariant-loop-class
invariant-loop-class l = HasNames (λ name. list_any (λ c. (c.name == name) && not c.is_final) (take l.class-index l.classes)) l.set
