use Rattle.std.proofs.Common.{◌≡◌, ◌++◌, string_bytes, take}
use Rattle.cdi_problems.specs.Elements.{shown}
use Rattle.cdi_pictures.specs.Producers as spec
use Rattle.cdi_pictures.proofs.producers.add_producers.Given as goal

abbrev pub invariant-loop-element : goal.invariant-loop-element
invariant-loop-element l =
    string_bytes l.text ≡ string_bytes l.initial.text
    ++ spec.producers_text l.names (shown (take l.element-index l.elements))
