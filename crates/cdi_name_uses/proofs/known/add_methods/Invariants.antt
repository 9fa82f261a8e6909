use Rattle.std.proofs.Common.{◌≡◌, ◌++◌, take}
use Rattle.cdi_name_uses.specs.Known as spec
use Rattle.cdi_name_uses.proofs.known.add_methods.Given as goal

abbrev pub invariant-loop-member : goal.invariant-loop-member
invariant-loop-member l =
    l.names ≡ l.initial.names ++ spec.method_names (take l.member-index l.members)
