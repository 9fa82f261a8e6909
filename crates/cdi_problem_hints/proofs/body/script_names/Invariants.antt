use Rattle.std.proofs.Common.{◌≡◌, take}
use Rattle.cdi_problem_hints.specs.Bodies as spec
use Rattle.cdi_problem_hints.proofs.body.script_names.Given as goal

abbrev pub invariant-loop-script : goal.invariant-loop-script
invariant-loop-script l = l.names ≡ spec.script_names (take l.script-index l.scripts)
