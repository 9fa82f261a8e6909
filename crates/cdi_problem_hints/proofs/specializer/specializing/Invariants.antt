use Rattle.std.proofs.Common.{◌≡◌, filter, map, take}
use Rattle.cdi_candidates.specs.Candidates.{place_of}
use Rattle.cdi_problem_hints.specs.Specializers as spec
use Rattle.cdi_problem_hints.proofs.specializer.specializing.Given as goal

abbrev pub invariant-loop-enabled : goal.invariant-loop-enabled
invariant-loop-enabled l =
    l.places ≡ map (λ b. place_of b.1)
    (filter (λ b. spec.specializes l.most l.classes l.class b.1.specializes) (take l.enabled-index l.beans))
