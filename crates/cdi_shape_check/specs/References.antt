-- The references of a body, and what they lead to (Jakarta CDI 4.0, Typesafe resolution).
use Rattle.std.specs.Prelude.{ℕ, Bool, true, false, not, ◌==◌, ◌&&◌, List, Option, Some, None, option_map, slice_get}
use Rattle.std.specs.List.{list_any}
use Rattle.cdi_base.specs.Maps.{at}
use Rattle.cdi_base.specs.declared.act.Via.{Via}
use Rattle.cdi_base.specs.declared.act.Via.TheVariants as vias
use Rattle.cdi_bean_check.specs.Qualifiers.{full_uses}
use Rattle.cdi_beans.specs.declared.bean.Bean.{Bean}
use Rattle.cdi_beans.specs.declared.bean.BeanMember.{BeanMember}
use Rattle.cdi_bodies.specs.declared.shape.Lookup.{Lookup}
use Rattle.cdi_bodies.specs.declared.shape.MethodCall.{MethodCall}
use Rattle.cdi_deployment.specs.declared.deployment.Class.{Class}
use Rattle.cdi_deployment.specs.declared.deployment.Point.{Point}
use Rattle.cdi_beans.specs.Kinds.{is_managed}
use Rattle.cdi_types.specs.Line.{class_named}
use Rattle.cdi_body_check.specs.WrittenPoints.{point_of_field, point_of_lookup}
use Rattle.cdi_resolve.specs.Resolution.{resolution}
use Rattle.cdi_resolve.specs.declared.resolution.Resolution.{Resolution}
use Rattle.cdi_resolve.specs.declared.resolution.Resolution.TheVariants as resolutions
use Rattle.cdi_shape_check.specs.Application.{Application}
use Rattle.cdi_shape_check.specs.OwnParts.{OwnParts, declares_method}

-- the required type and qualifiers behind a reference: of an injected field, a parameter, or the lookup that a local comes from
abbrev pub point_at : OwnParts → List Point → List Lookup → Via → Option Point
point_at parts params lookups (vias.Field name) = option_map point_of_field (parts.injected name)
point_at parts params lookups (vias.Param k) = slice_get params k
point_at parts params lookups (vias.Local k) = option_map point_of_lookup (slice_get lookups k)

abbrev pub bean_told : List (ℕ × Bean) → Resolution → Option Bean
bean_told enabled (resolutions.One index) = at enabled index
bean_told enabled _ = None

-- the one bean that a point resolves to
abbrev pub bean_at : Application → Point → Option Bean
bean_at app p =
    bean_told app.enabled (resolution p.ty (full_uses app.qualifiers p.quals) app.enabled)

abbrev pub declares_called : MethodCall → Option Class → Bool
declares_called call None = false
declares_called call (Some c) = declares_method call.method call.count c

-- a member of a bean is the method that is called, with as many values
abbrev pub is_called : List Class → MethodCall → BeanMember → Bool
is_called classes call m =
    (m.name == call.method) && declares_called call (class_named classes m.class)

-- a managed bean has the method; a product has none
abbrev pub answers_call : List Class → MethodCall → Bean → Bool
answers_call classes call b = is_managed b.kind && list_any (is_called classes call) b.members

-- What doesn't resolve to one bean isn't looked at further.
abbrev pub refuses_call : List Class → MethodCall → Option Bean → Bool
refuses_call classes call None = false
refuses_call classes call (Some b) = not (answers_call classes call b)

-- there is no such reference; or it leads to one bean, which is a product or hasn't the method
abbrev pub is_call_missing : Application → MethodCall → Option Point → Bool
is_call_missing app call None = true
is_call_missing app call (Some p) = refuses_call app.deployment.classes call (bean_at app p)

-- a managed bean holds no value that could be read or written
abbrev pub holds_none : Option Bean → Bool
holds_none None = false
holds_none (Some b) = is_managed b.kind

-- there is no such reference; or it leads to one bean, which is a managed one
abbrev pub is_cell_missing : Application → Option Point → Bool
is_cell_missing app None = true
is_cell_missing app (Some p) = holds_none (bean_at app p)
