use Rattle.std.proofs.Common.{◌≡◌, ◌++◌, drop}
use Rattle.cdi_types.specs.Members as spec
use Rattle.cdi_types.proofs.line.add_parts.Given as goal

abbrev pub invariant-loop-part : goal.invariant-loop-part
invariant-loop-part g l = l.found ++ spec.parts_of l.class (drop l.part-index l.parts) ≡ l.initial.found ++ spec.parts_of l.class l.parts
