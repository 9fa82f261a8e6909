-- What plans are made from.
use Rattle.std.specs.Prelude.{List}
use Rattle.cdi_deployment.specs.declared.deployment.Class.{Class}
use Rattle.cdi_quals.specs.declared.types.QualifierType.{QualifierType}
use Rattle.cdi_types.specs.declared.declaration.TypeDeclaration.{TypeDeclaration}
use Rattle.cdi_plans.specs.Chains.{ChainTables}

-- the types of a deployment, its qualifiers and its classes, and the bindings of its classes with its enabled interceptors
pub record PlanTables : Type 0 where
  pub types : List TypeDeclaration
  pub qualifiers : List QualifierType
  pub classes : List Class
  pub chains : ChainTables
