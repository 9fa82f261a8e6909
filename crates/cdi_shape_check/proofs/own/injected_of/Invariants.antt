use Rattle.std.proofs.Common.{◌≡◌, map, take}
use Rattle.std.specs.List.{flat_map}
use Rattle.cdi_shape_check.proofs.own.injected_of.Given as goal

abbrev pub invariant-loop-class : goal.invariant-loop-class
invariant-loop-class l = l.fields ≡ flat_map (λ c. c.inject) (map (λ c. c.now) (take l.class-index l.line))
