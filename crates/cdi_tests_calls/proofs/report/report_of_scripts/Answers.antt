use Rattle.cdi_bodies.specs.Table.{entries_of}
use Rattle.cdi_tests_calls.proofs.Chosen.{drives_with}
use Rattle.cdi_tests_calls.proofs.report.report_of_scripts.Goals as goal

pub told_by-requires-clause-drives : goal.told_by-requires-clause-drives
told_by-requires-clause-drives c = drives_with (entries_of c.loop-named.bodies) c.args.deployment c.accept-accepted.result c.accept-accepted.ensures.ok
