use Rattle.std.proofs.Common.{◌≡◌, map, take}
use Rattle.cdi_bean_lives.specs.Parts.{names_of}
use Rattle.cdi_bean_lives.proofs.line.names_of.Given as goal

-- those of the classes that were looked at
abbrev pub invariant-loop-class : goal.invariant-loop-class
invariant-loop-class l = l.names ≡ names_of (map (λ c. c.now) (take l.class-index l.line))
