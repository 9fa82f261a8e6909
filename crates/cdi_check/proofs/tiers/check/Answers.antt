use Rattle.std.proofs.Common.{ℕ, List, Option, Result, Ok, Err, IfOk}
use Rattle.cdi_bodies.specs.Table.{entries_of}
use Rattle.cdi_bodies.specs.declared.shape.Shape.{Shape}
use Rattle.cdi_body_check.specs.Shapes.{shape_of}
use Rattle.cdi_deployment.specs.declared.deployment.Deployment.{Deployment}
use Rattle.cdi_problems.specs.declared.problem.Problem.{Problem}
use Rattle.cdi_check.specs.Late.{AreLateProblems}
use Rattle.cdi_check.specs.Problems.{AreProblemsOf}
use Rattle.cdi_check.proofs.tiers.check.Goals as goal

-- those of the last tier are the deployment's
late_ones : {E : Type 0} (d : Deployment) (shapes : ℕ → Option Shape) (r : Result (List Problem) E) → IfOk r (AreLateProblems d shapes) → IfOk r (AreProblemsOf d shapes)
late_ones d shapes (Ok problems) are = AreProblemsOf.late are
late_ones d shapes (Err e) are = tt

pub returns-in-Ok : goal.returns-in-Ok
returns-in-Ok g c = late_ones c.args.deployment.now (shape_of (entries_of c.args.bodies.now)) c.problems_with.result c.problems_with.ensures
