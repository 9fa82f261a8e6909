use Rattle.std.proofs.Common.{◌≡◌, ◌++◌, take}
use Rattle.cdi_name_uses.specs.Groups as spec
use Rattle.cdi_name_uses.proofs.declared.add_event_qualifiers.Given as goal

abbrev pub invariant-loop-declared : goal.invariant-loop-declared
invariant-loop-declared l = l.names ≡ l.initial.names ++ spec.names_of_event_qualifiers (take l.declared-index l.types)
