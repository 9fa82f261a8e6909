use Rattle.std.proofs.Common.{◌≡◌, take}
use Rattle.cdi_report.specs.Reviews as spec
use Rattle.cdi_report.proofs.reviewing.names_of.Given as goal

abbrev pub invariant-loop-named : goal.invariant-loop-named
invariant-loop-named l = l.names ≡ spec.names_of (take l.named-index l.scripts)
