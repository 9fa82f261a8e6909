-- Injection points, and which of them are live (Jakarta CDI 4.0, Injection points).
use Rattle.std.specs.Prelude.{List, [], ◌∷◌, IsTrue}
use Rattle.std.specs.List.{Any}
use Rattle.cdi_deployment.specs.declared.deployment.InjectedField.{InjectedField}
use Rattle.cdi_deployment.specs.declared.deployment.Point.{Point}
use Rattle.cdi_problems.specs.Elements.{Element}
use Rattle.cdi_deployment.specs.Member.{member_name, member_params}
use Rattle.cdi_live.specs.Enabled.{Enabled}
use Rattle.cdi_live.specs.Live.{is_live_class, is_live_member, is_live_interceptor, HasFieldsOf}

-- what an injected field asks for
abbrev pub field_point : InjectedField → Point
field_point f = record { ty = f.ty; quals = f.quals }

-- the points of an element
abbrev pub points_of : Element → List Point
points_of (Element.AnInjectedField i c f) = field_point f ∷ []
points_of (Element.AConstructor i c k) = k.params
points_of (Element.AMember i c m) = member_params m
points_of (Element.AnInterceptorInjectedField i j f) = field_point f ∷ []
points_of _ = []

-- the container injects there: into fields of enabled beans and interceptors, and parameters of what enabled beans have
abbrev pub IsLive : Enabled → Element → Type 0
IsLive e (Element.AnInjectedField i c f) = HasFieldsOf e.classes e.types e.beans c.name
IsLive e (Element.AConstructor i c k) = IsTrue (is_live_class e.beans c.name)
IsLive e (Element.AMember i c m) = IsTrue (is_live_member e.beans c.name (member_name m))
IsLive e (Element.AnInterceptorInjectedField i j f) =
    IsTrue (is_live_interceptor e.interceptors j.name)
IsLive e _ = ⊥

-- an element has a live point for which P holds
pub record HasLivePoint (e : Enabled) (P : Point → Type 0) (x : Element) : Type 0 where
  pub live : IsLive e x
  pub point : Any P (points_of x)
