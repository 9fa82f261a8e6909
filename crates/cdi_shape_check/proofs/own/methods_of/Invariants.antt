use Rattle.std.proofs.Common.{map, take}
use Rattle.std.specs.List.{list_any}
use Rattle.cdi_name_check.specs.NameSets.{HasPairs}
use Rattle.cdi_shape_check.specs.OwnParts.{declares_method}
use Rattle.cdi_shape_check.proofs.own.methods_of.Given as goal

abbrev pub invariant-loop-class : goal.invariant-loop-class
invariant-loop-class l = HasPairs (λ name count. list_any (declares_method name count) (map (λ c. c.now) (take l.class-index l.line))) l.set
