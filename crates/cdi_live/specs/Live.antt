-- What is live: what the container calls, and where it injects, by the enabled beans, each with its index, and the enabled interceptors.
use Rattle.std.specs.Prelude.{ℕ, Bool, ◌==◌, ◌&&◌, List, IsTrue}
use Rattle.std.specs.List.{list_any, Any}
use Rattle.cdi_beans.specs.declared.bean.Bean.{Bean}
use Rattle.cdi_beans.specs.declared.bean.EnabledInterceptor.{EnabledInterceptor}
use Rattle.cdi_beans.specs.Kinds.{is_managed}
use Rattle.cdi_deployment.specs.declared.deployment.Class.{Class}
use Rattle.cdi_deployment.specs.Lists.{is_declared_class}
use Rattle.cdi_resolve.specs.Filters.{is_bean_of}
use Rattle.cdi_types.specs.Subtype.{IsSubtype}
use Rattle.cdi_types.specs.declared.declaration.TypeDeclaration.{TypeDeclaration}

-- an enabled managed bean is of the class, so that its constructor is called
abbrev pub is_live_class : List (ℕ × Bean) → ℕ → Bool
is_live_class enabled class = list_any (is_bean_of class) enabled

-- a bean has the member of a class with this name
abbrev pub has_member : ℕ → ℕ → ℕ × Bean → Bool
has_member class name b = list_any (λ m. (m.class == class) && (m.name == name)) b.1.members

-- an enabled bean has the member of a class with this name
abbrev pub is_live_member : List (ℕ × Bean) → ℕ → ℕ → Bool
is_live_member enabled class name = list_any (has_member class name) enabled

-- a managed bean is of the class or of one below it
pub record IsBeanBelow (types : List TypeDeclaration) (class : ℕ) (b : ℕ × Bean) : Type 0 where
  pub managed : IsTrue (is_managed b.1.kind)
  pub below : IsSubtype types b.1.class class

-- a class of the deployment is that of an enabled managed bean, or stands above it, so that its injected fields are set
pub record HasFieldsOf (classes : List Class) (types : List TypeDeclaration)
    (enabled : List (ℕ × Bean)) (class : ℕ) : Type 0 where
  pub declared : IsTrue (is_declared_class classes class)
  pub below : Any (IsBeanBelow types class) enabled

-- an interceptor is enabled, so that its methods are called and its injected fields are set
abbrev pub is_live_interceptor : List EnabledInterceptor → ℕ → Bool
is_live_interceptor interceptors name = list_any (λ j. j.name == name) interceptors
