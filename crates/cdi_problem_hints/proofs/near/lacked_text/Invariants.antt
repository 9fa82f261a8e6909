use Rattle.std.proofs.Common.{◌≡◌, string_bytes, take}
use Rattle.cdi_problem_hints.specs.Near as spec
use Rattle.cdi_problem_hints.proofs.near.lacked_text.Given as goal

abbrev pub invariant-loop-name : goal.invariant-loop-name
invariant-loop-name l =
    string_bytes l.text ≡ spec.lacked_text l.names (take l.name-index l.lacked)
