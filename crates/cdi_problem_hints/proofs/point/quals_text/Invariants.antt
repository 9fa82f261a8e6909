use Rattle.std.proofs.Common.{◌≡◌, string_bytes, take}
use Rattle.cdi_problem_hints.specs.Points as spec
use Rattle.cdi_problem_hints.proofs.point.quals_text.Given as goal

abbrev pub invariant-loop-qual : goal.invariant-loop-qual
invariant-loop-qual l =
    string_bytes l.text ≡ spec.quals_text l.names (take l.qual-index l.quals)
