-- What the names of a shape are looked up in.
use Rattle.std.specs.Prelude.{ℕ, List}
use Rattle.cdi_beans.specs.declared.bean.Bean.{Bean}
use Rattle.cdi_deployment.specs.declared.deployment.Deployment.{Deployment}
use Rattle.cdi_live.specs.declared.deployment_tables.DeploymentTables.{DeploymentTables}
use Rattle.cdi_quals.specs.declared.types.QualifierType.{QualifierType}
use Rattle.cdi_resolve.specs.Filters.{enabled_of}

-- a deployment with the types of its qualifiers, and its enabled beans with their indices in the bean list
pub record Application : Type 0 where
  pub deployment : Deployment
  pub qualifiers : List QualifierType
  pub enabled : List (ℕ × Bean)

-- the application of some tables
abbrev pub application_of : DeploymentTables → Application
application_of t =
    record {
      deployment = t.deployment.now;
      qualifiers = t.beans.now.declared.qualifiers;
      enabled = enabled_of t.beans.now.resolver;
    }
