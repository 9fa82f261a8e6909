-- The problems of a deployment with its registered bodies, tier by tier (Jakarta CDI 4.0, Problems detected automatically by the
-- container).
use Rattle.std.specs.Prelude.{ℕ, List, Option}
use Rattle.cdi_beans.specs.Problems.{AreAllProblemsOf}
use Rattle.cdi_bodies.specs.declared.shape.Shape.{Shape}
use Rattle.cdi_deployment.specs.declared.deployment.Deployment.{Deployment}
use Rattle.cdi_problems.specs.declared.problem.Problem.{Problem}
use Rattle.cdi_check.specs.Late.{AreLateProblems}

-- those of names or, if there are none, those of beans; and where there are none of either, those of the last tier. A deployment is
-- accepted if there is none.
pub data AreProblemsOf (d : Deployment) (shape_of : ℕ → Option Shape) (problems : List Problem)
    : Type 0 where
  early : AreAllProblemsOf d problems → AreProblemsOf d shape_of problems
  late : AreLateProblems d shape_of problems → AreProblemsOf d shape_of problems
