use Rattle.std.proofs.Common.{◌≡◌, ◌++◌, string_bytes, take}
use Rattle.cdi_problem_hints.specs.Candidates as spec
use Rattle.cdi_problem_hints.proofs.candidate.add_others.Given as goal

abbrev pub invariant-loop-place : goal.invariant-loop-place
invariant-loop-place l =
    string_bytes l.hint ≡ string_bytes l.initial.hint ++ spec.others_text l.names (take l.place-index l.places)
