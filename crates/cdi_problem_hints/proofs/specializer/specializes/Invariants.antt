use Rattle.std.proofs.Common.{◌≡◌, ◌-◌}
use Rattle.cdi_problem_hints.specs.Specializers as spec
use Rattle.cdi_problem_hints.proofs.specializer.specializes.Given as goal

abbrev pub invariant-loop : goal.invariant-loop
invariant-loop l =
    spec.specializes (l.most - l.counter) l.classes l.class l.specialized
    ≡ spec.specializes l.most l.classes l.class l.fn.directly
