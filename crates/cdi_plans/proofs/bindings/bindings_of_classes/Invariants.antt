use Rattle.std.proofs.Common.{◌≡◌, map, take}
use Rattle.cdi_plans.specs.Bindings.{class_bindings}
use Rattle.cdi_plans.proofs.bindings.bindings_of_classes.Given as goal

abbrev pub invariant-loop-class : goal.invariant-loop-class
invariant-loop-class l = l.all ≡ map (class_bindings l.types) (take l.class-index l.classes)
