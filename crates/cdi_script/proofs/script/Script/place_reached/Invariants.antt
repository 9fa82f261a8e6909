use Rattle.std.proofs.Common.{drop}
use Rattle.cdi_script.proofs.Course.{IsOnCourse}
use Rattle.cdi_script.proofs.script.Script.place_reached.Given as goal

abbrev pub invariant-loop-exception : goal.invariant-loop-exception
invariant-loop-exception l = IsOnCourse l.self l.answers (drop l.exception-index l.exception-items) l.place l.passed
