use Rattle.std.proofs.Common.{◌≡◌, take}
use Rattle.cdi_name_uses.specs.Unknown as spec
use Rattle.cdi_problems.specs.Elements.{element_of}
use Rattle.cdi_name_uses.proofs.unknown.unknown_among.Given as goal

abbrev pub invariant-loop-used : goal.invariant-loop-used
invariant-loop-used l =
    l.unknown ≡ spec.unknown_among l.deployment (element_of l.element) (take l.used-index l.uses)
