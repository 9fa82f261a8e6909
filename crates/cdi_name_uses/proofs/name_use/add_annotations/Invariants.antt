use Rattle.std.proofs.Common.{◌≡◌, ◌++◌, map, take}
use Rattle.cdi_name_uses.specs.Uses as spec
use Rattle.cdi_name_uses.proofs.name_use.add_annotations.Given as goal

abbrev pub invariant-loop-one : goal.invariant-loop-one
invariant-loop-one l = l.uses ≡ l.initial.uses ++ spec.annotations_uses l.annotation (take l.one-index l.written)
