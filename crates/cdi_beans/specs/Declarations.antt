-- The tables of what a deployment declares.
use Rattle.std.specs.Prelude.{◌≡◌}
use Rattle.cdi_deployment.specs.declared.deployment.Deployment.{Deployment}
use Rattle.cdi_quals.specs.Types.{AreQualifiersOf, AreTypesOf}
use Rattle.cdi_types.specs.Declarations.{declarations_of}
use Rattle.cdi_beans.specs.declared.declared.DeclaredTables.{DeclaredTables}

-- its types, those of its qualifiers, with the built-in ones, and those of its interceptor bindings
pub record AreDeclaredBy (d : Deployment) (t : DeclaredTables) : Type 0 where
  pub types : t.types ≡ declarations_of d
  pub qualifiers : AreQualifiersOf d t.qualifiers
  pub bindings : AreTypesOf d.names d.bindings t.bindings
