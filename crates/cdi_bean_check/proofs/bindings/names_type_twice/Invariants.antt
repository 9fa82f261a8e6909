use Rattle.std.proofs.Common.{◌≡◌, drop}
use Rattle.cdi_bean_check.specs.BindingLists.{names_type_twice}
use Rattle.cdi_bean_check.proofs.bindings.names_type_twice.Given as goal

abbrev pub invariant-loop-i : goal.invariant-loop-i
invariant-loop-i l = names_type_twice l.uses ≡ names_type_twice (drop l.i l.uses)
