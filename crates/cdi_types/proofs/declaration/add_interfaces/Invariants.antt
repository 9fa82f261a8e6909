use Rattle.std.proofs.Common.{◌≡◌, ◌++◌, map, drop}
use Rattle.cdi_types.specs.Declarations.{of_interface}
use Rattle.cdi_types.proofs.declaration.add_interfaces.Given as goal

abbrev pub invariant-loop-interface : goal.invariant-loop-interface
invariant-loop-interface l =
    l.types ++ map of_interface (drop l.interface-index l.interfaces) ≡ l.initial.types ++ map of_interface l.interfaces
