use Rattle.std.proofs.Common.{◌≡◌, ◌++◌, map, drop}
use Rattle.cdi_types.specs.Declarations.{of_class}
use Rattle.cdi_types.proofs.declaration.add_classes.Given as goal

abbrev pub invariant-loop-class : goal.invariant-loop-class
invariant-loop-class l = l.types ++ map of_class (drop l.class-index l.classes) ≡ l.initial.types ++ map of_class l.classes
