use Rattle.std.proofs.Common.{◌≡◌, ◌++◌, string_bytes, take}
use Rattle.cdi_cycle_hints.specs.Cycle as spec
use Rattle.cdi_cycle_hints.proofs.cycle.add_others.Given as goal

abbrev pub invariant-loop-index : goal.invariant-loop-index
invariant-loop-index l =
    string_bytes l.hint ≡ string_bytes l.initial.hint
    ++ spec.others_text l.names l.beans (take l.index-index l.indices)
