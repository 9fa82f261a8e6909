-- What hints are about.
use Rattle.std.specs.Prelude.{List, Option}
use Rattle.std.specs.Option.{option_copied}
use Rattle.cdi_deployment.specs.declared.deployment.Deployment.{Deployment}
use Rattle.cdi_problem_hints.specs.declared.subject.Subject.{Subject as Lent}
use Rattle.cdi_resolve.specs.declared.bean_tables.BeanTables.{BeanTables}
use Rattle.cdi_name_uses.specs.declared.step_name.ScriptNames.{ScriptNames}

-- a deployment, the names that its scripts use, and the tables by which its points resolve, if they are given
pub record Subject : Type 0 where
  pub deployment : Deployment
  pub scripts : List ScriptNames
  pub tables : Option BeanTables

-- the subject that the code borrows
abbrev pub subject_of : Lent → Subject
subject_of s =
    record {
      deployment = s.deployment.now;
      scripts = s.scripts.now;
      tables = option_copied s.tables;
    }
