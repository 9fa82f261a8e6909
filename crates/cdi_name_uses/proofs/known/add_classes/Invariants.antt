use Rattle.std.proofs.Common.{◌≡◌, ◌++◌, map, take}
use Rattle.cdi_name_uses.proofs.known.add_classes.Given as goal

abbrev pub invariant-loop-class : goal.invariant-loop-class
invariant-loop-class l =
    l.names ≡ l.initial.names ++ map (λ c. c.name) (take l.class-index l.classes)
