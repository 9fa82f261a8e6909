-- What of a deployment names a body, in the order of places.
use Rattle.std.specs.Prelude.{ℕ, List, [], ◌++◌, Option, Some, None, map, option_map, option_to_list, option_and_then, Bool, true, false}
use Rattle.std.specs.List.{flat_map, filter_map}
use Rattle.cdi_base.specs.declared.place.InterceptorMethod.{InterceptorMethod}
use Rattle.cdi_base.specs.declared.place.InterceptorMethod.TheVariants as methods
use Rattle.cdi_base.specs.declared.place.Place.{Place}
use Rattle.cdi_base.specs.declared.place.Place.TheVariants as places
use Rattle.cdi_deployment.specs.declared.deployment.Class.{Class}
use Rattle.cdi_deployment.specs.declared.deployment.Constructor.{Constructor}
use Rattle.cdi_deployment.specs.declared.deployment.Deployment.{Deployment}
use Rattle.cdi_deployment.specs.declared.deployment.Interceptor.{Interceptor}
use Rattle.cdi_deployment.specs.declared.deployment.Member.{Member}
use Rattle.cdi_deployment.specs.declared.deployment.Member.TheVariants as members
use Rattle.cdi_deployment.specs.declared.deployment.Point.{Point}
use Rattle.cdi_live.specs.Enabled.{Enabled}
use Rattle.cdi_live.specs.Live.{is_live_class, is_live_member, is_live_interceptor}
use Rattle.cdi_deployment.specs.Member.{member_name, member_params}
use Rattle.cdi_body_check.specs.declared.site.BodySite.{BodySite}
use Rattle.cdi_body_check.specs.declared.site.BodySite.TheVariants as lent

-- what has a body, with the body's name
pub data Site : Type 0 where
  AConstructor : Class → Constructor → ℕ → Site
  AMember : Class → Member → ℕ → Site
  AnInterceptorMethod : Interceptor → InterceptorMethod → ℕ → Site

-- a constructor may have a body
abbrev pub constructor_site : Class → Constructor → Option Site
constructor_site c k = option_map (Site.AConstructor c k) k.body

-- each member has a body but a producer field
abbrev pub member_body : Member → Option ℕ
member_body (members.Method m) = Some m.body
member_body (members.Initializer i) = Some i.body
member_body (members.PostConstruct m) = Some m.body
member_body (members.PreDestroy m) = Some m.body
member_body (members.Producer p) = Some p.body
member_body (members.ProducerField p) = None
member_body (members.Disposer m) = Some m.body
member_body (members.Observer o) = Some o.body

abbrev pub member_site : Class → Member → Option Site
member_site c m = option_map (Site.AMember c m) (member_body m)

abbrev pub constructor_sites : Class → List Site
constructor_sites c = option_to_list (option_and_then (constructor_site c) c.constructor)

abbrev pub member_sites : Class → List Site
member_sites c = filter_map (member_site c) c.members

-- of a class: its constructor, its members
abbrev pub class_sites : Class → List Site
class_sites c = constructor_sites c ++ member_sites c

-- an interceptor has those methods that name a body
abbrev pub method_body : Interceptor → InterceptorMethod → Option ℕ
method_body j methods.AroundInvoke = j.invoke
method_body j methods.AroundConstruct = j.construct
method_body j methods.PostConstruct = j.post
method_body j methods.PreDestroy = j.pre

abbrev pub method_sites : Interceptor → InterceptorMethod → List Site
method_sites j method =
    option_to_list (option_map (Site.AnInterceptorMethod j method) (method_body j method))

abbrev pub interceptor_sites : Interceptor → List Site
interceptor_sites j =
    method_sites j methods.AroundInvoke ++ method_sites j methods.AroundConstruct
    ++ method_sites j methods.PostConstruct
    ++ method_sites j methods.PreDestroy

-- class by class, and then interceptor by interceptor
abbrev pub sites_of : Deployment → List Site
sites_of d = flat_map class_sites d.classes ++ flat_map interceptor_sites d.interceptors

abbrev pub body_of : Site → ℕ
body_of (Site.AConstructor c k body) = body
body_of (Site.AMember c m body) = body
body_of (Site.AnInterceptorMethod j method body) = body

-- the place by which problems tell a site
abbrev pub place_of : Site → Place
place_of (Site.AConstructor c k body) = places.Constructor c.name
place_of (Site.AMember c m body) = places.Member c.name (member_name m)
place_of (Site.AnInterceptorMethod j method body) = places.Interceptor j.name method

abbrev pub params_of : Site → List Point
params_of (Site.AConstructor c k body) = k.params
params_of (Site.AMember c m body) = member_params m
params_of (Site.AnInterceptorMethod j method body) = []

-- the container runs the body as long as the deployment runs
abbrev pub is_live : Enabled → Site → Bool
is_live e (Site.AConstructor c k body) = is_live_class e.beans c.name
is_live e (Site.AMember c m body) = is_live_member e.beans c.name (member_name m)
is_live e (Site.AnInterceptorMethod j method body) = is_live_interceptor e.interceptors j.name

abbrev pub is_interceptor_method : Site → Bool
is_interceptor_method (Site.AnInterceptorMethod j method body) = true
is_interceptor_method _ = false

-- a callback at the begin or the end of an instance's life
abbrev pub is_callback_member : Member → Bool
is_callback_member (members.PostConstruct m) = true
is_callback_member (members.PreDestroy m) = true
is_callback_member _ = false

abbrev pub is_callback_method : InterceptorMethod → Bool
is_callback_method methods.PostConstruct = true
is_callback_method methods.PreDestroy = true
is_callback_method _ = false

abbrev pub is_callback : Site → Bool
is_callback (Site.AConstructor c k body) = false
is_callback (Site.AMember c m body) = is_callback_member m
is_callback (Site.AnInterceptorMethod j method body) = is_callback_method method

-- the site that the code borrows
abbrev pub site_of : BodySite → Site
site_of (lent.Constructor c k body) = Site.AConstructor c.now k.now body.now
site_of (lent.Member c m body) = Site.AMember c.now m.now body.now
site_of (lent.InterceptorMethod j method body) = Site.AnInterceptorMethod j.now method body.now

abbrev pub shown : List BodySite → List Site
shown = map site_of
