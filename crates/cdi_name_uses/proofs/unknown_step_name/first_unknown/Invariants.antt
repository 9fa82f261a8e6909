-- The first unknown one stands in the rest.
use Rattle.std.proofs.Common.{◌≡◌, drop}
use Rattle.cdi_name_uses.specs.UnknownStepName as spec
use Rattle.cdi_name_uses.proofs.unknown_step_name.first_unknown.Given as goal

abbrev pub invariant-loop-name : goal.invariant-loop-name
invariant-loop-name l =
    spec.first_unknown l.deployment (drop l.name-index l.used) ≡ spec.first_unknown l.deployment l.used
