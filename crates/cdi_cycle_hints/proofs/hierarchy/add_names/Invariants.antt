use Rattle.std.proofs.Common.{◌≡◌, ◌++◌, string_bytes, take}
use Rattle.cdi_cycle_hints.specs.Hierarchy as spec
use Rattle.cdi_cycle_hints.proofs.hierarchy.add_names.Given as goal

abbrev pub invariant-loop-place : goal.invariant-loop-place
invariant-loop-place l =
    string_bytes l.hint ≡ string_bytes l.initial.hint
    ++ spec.names_text l.names l.types (take l.place-index l.places)
