-- What is enabled in a deployment.
use Rattle.std.specs.Prelude.{ℕ, List}
use Rattle.cdi_beans.specs.declared.bean.Bean.{Bean}
use Rattle.cdi_beans.specs.declared.bean.EnabledInterceptor.{EnabledInterceptor}
use Rattle.cdi_deployment.specs.declared.deployment.Class.{Class}
use Rattle.cdi_types.specs.declared.declaration.TypeDeclaration.{TypeDeclaration}

-- the classes and the types of a deployment, its enabled beans with their indices in the bean list, and its enabled interceptors
pub record Enabled : Type 0 where
  pub classes : List Class
  pub types : List TypeDeclaration
  pub beans : List (ℕ × Bean)
  pub interceptors : List EnabledInterceptor
