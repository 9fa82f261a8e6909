use Rattle.std.proofs.Common.{◌≡◌, ◌++◌, take}
use Rattle.std.specs.List.{flat_map}
use Rattle.cdi_name_uses.specs.Known as spec
use Rattle.cdi_name_uses.proofs.known.add_class_injected_fields.Given as goal

abbrev pub invariant-loop-class : goal.invariant-loop-class
invariant-loop-class l =
    l.names ≡ l.initial.names ++ flat_map (λ c. spec.injected_names c.inject) (take l.class-index l.classes)
