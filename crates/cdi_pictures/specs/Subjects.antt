-- What a picture shows.
use Rattle.std.specs.Prelude.{List, Option}
use Rattle.std.specs.Option.{option_copied}
use Rattle.cdi_deployment.specs.declared.deployment.Deployment.{Deployment}
use Rattle.cdi_pictures.specs.declared.subject.Pictured.{Pictured as Lent}
use Rattle.cdi_problems.specs.declared.problem.Problem.{Problem}
use Rattle.cdi_resolve.specs.declared.bean_tables.BeanTables.{BeanTables}

-- a deployment, the tables by which its points resolve, if they are given, and its problems
pub record Pictured : Type 0 where
  pub deployment : Deployment
  pub tables : Option BeanTables
  pub problems : List Problem

-- what the code borrows
abbrev pub pictured_of : Lent → Pictured
pictured_of s =
    record {
      deployment = s.deployment.now;
      tables = option_copied s.tables;
      problems = s.problems.now;
    }
