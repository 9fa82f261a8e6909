-- The tables of a deployment by which its points resolve.
use Rattle.std.specs.Prelude.{List, Option, Some, None}
use Rattle.cdi_beans.specs.Problems.{AreAllProblemsOf}
use Rattle.cdi_deployment.specs.declared.deployment.Deployment.{Deployment}
use Rattle.cdi_problems.specs.declared.problem.Problem.{Problem}
use Rattle.cdi_resolve.specs.BeanTables.{AreTablesOf}
use Rattle.cdi_resolve.specs.declared.bean_tables.BeanTables.{BeanTables}

-- they are those of a deployment; none if its names or its beans have problems
abbrev pub AreTables : Deployment → Option BeanTables → Type 0
AreTables d (Some t) = AreTablesOf d t
AreTables d None = (problems : List Problem) × AreAllProblemsOf d problems
