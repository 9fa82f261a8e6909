use Rattle.std.proofs.Common.{◌≡◌, ◌++◌, take}
use Rattle.cdi_name_uses.specs.Groups as spec
use Rattle.cdi_name_uses.proofs.declared.add_classes.Given as goal

abbrev pub invariant-loop-class : goal.invariant-loop-class
invariant-loop-class l = l.names ≡ l.initial.names ++ spec.names_of_classes (take l.class-index l.classes)
