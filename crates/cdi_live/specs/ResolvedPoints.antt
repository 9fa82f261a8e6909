-- What injection points resolve to, and what is kept of that.
use Rattle.std.specs.Prelude.{ℕ, ◌≡◌, List, All}
use Rattle.cdi_base.specs.declared.uses.Use.{Use}
use Rattle.cdi_bean_check.specs.Qualifiers.{full_uses}
use Rattle.cdi_beans.specs.declared.bean.Bean.{Bean}
use Rattle.cdi_deployment.specs.declared.deployment.Point.{Point}
use Rattle.cdi_quals.specs.declared.types.QualifierType.{QualifierType}
use Rattle.cdi_resolve.specs.Resolution.{resolution}
use Rattle.cdi_resolve.specs.declared.resolution.Resolution.{Resolution}

-- the types of qualifiers, and the enabled beans with their indices in the bean list
pub record Resolving : Type 0 where
  pub qualifiers : List QualifierType
  pub enabled : List (ℕ × Bean)

-- what a type and qualifiers as they were written resolve to
abbrev pub resolved_by : Resolving → ℕ → List Use → Resolution
resolved_by r ty uses = resolution ty (full_uses r.qualifiers uses) r.enabled

-- a point comes with what it resolves to
abbrev pub IsTold : Resolving → Point × Resolution → Type 0
IsTold r p = p.1 ≡ resolved_by r p.0.ty p.0.quals

abbrev pub AreTold : Resolving → List (Point × Resolution) → Type 0
AreTold r points = All (IsTold r) points
