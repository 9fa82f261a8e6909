use Rattle.std.proofs.Common.{◌≡◌, ◌++◌, map, drop}
use Rattle.cdi_types.specs.Members.{fields_of}
use Rattle.cdi_types.proofs.line.ClassLine.fields.Given as goal

abbrev pub invariant-loop-class : goal.invariant-loop-class
invariant-loop-class l = l.fields ++ fields_of (map (λ c. c.now) (drop l.class-index l.class-items)) ≡ fields_of (map (λ c. c.now) l.class-items)
