use Rattle.std.proofs.Common.{◌≡◌, ◌++◌, drop}
use Rattle.std.specs.List.{flat_map}
use Rattle.cdi_bean_check.specs.SharedNames.{fields_in}
use Rattle.cdi_bean_check.proofs.shared_names.names_of.Given as goal

abbrev pub invariant-loop-class : goal.invariant-loop-class
invariant-loop-class l = l.names ++ flat_map fields_in (drop l.class-index l.classes) ≡ flat_map fields_in l.classes
