-- The place of each site of a body, of a deployment with these facts, is told by names.
use Rattle.std.proofs.Common.{ℕ, Option, Some, None, IfSome, length, option_and_then, option_map}
use Rattle.std.specs.List.{AllByRecursion}
use Rattle.cdi_base.specs.declared.place.InterceptorMethod.{InterceptorMethod}
use Rattle.cdi_base.specs.declared.place.InterceptorMethod.TheVariants as methods
use Rattle.cdi_body_check.specs.Sites.{Site, class_sites, constructor_site, interceptor_sites, member_body, member_site, method_body, place_of, sites_of}
use Rattle.cdi_deployment.specs.KnownNames.{IsKnown, KnowsClass, KnowsInterceptor, KnowsMember}
use Rattle.cdi_deployment.specs.declared.deployment.Class.{Class}
use Rattle.cdi_deployment.specs.declared.deployment.Constructor.{Constructor}
use Rattle.cdi_deployment.specs.declared.deployment.Deployment.{Deployment}
use Rattle.cdi_deployment.specs.declared.deployment.Interceptor.{Interceptor}
use Rattle.cdi_deployment.specs.declared.deployment.Member.{Member}
use Rattle.cdi_deployment.specs.Member.{member_name}
use Rattle.cdi_report.specs.PlaceNames.{HasName, HasNames}
use Rattle.cdi_report.proofs.Having.{Having, ◌and◌, given, if_mapped, one_if, parted}
use Rattle.cdi_report.proofs.KnownNames.{known-named, member-known}
use Rattle.cdi_report.specs.Facts.{HasFacts}

module _ (d : Deployment) (facts : HasFacts d) where
  abbrev count : ℕ
  count = length d.names

  abbrev Tells : Site → Type 0
  Tells s = HasNames d.names (place_of s)

  named : (name : ℕ) → IsKnown count name → HasName d.names name
  named name known = known-named d facts name known

  constructor-tells : (c : Class) (own : HasName d.names c.name) (o : Option Constructor) → IfSome (option_and_then (constructor_site c) o) Tells
  constructor-tells c own None = tt
  constructor-tells c own (Some k) = if_mapped Tells (Site.AConstructor c k) k.body (λ body. own)

  member-tells : (c : Class) (own : HasName d.names c.name) (m : Member) → KnowsMember count m → IfSome (member_site c m) Tells
  member-tells c own m know =
      if_mapped Tells (Site.AMember c m) (member_body m) (λ body. (own, named (member_name m) (member-known count m know)))

  class-tells : (c : Class) → KnowsClass count c → AllByRecursion Tells (class_sites c)
  class-tells c know =
      let own : HasName d.names c.name = named c.name know.name in
      (
      one_if Tells (option_and_then (constructor_site c) c.constructor) (constructor-tells c own c.constructor)
      and given Tells (KnowsMember count) (member_site c) (member-tells c own) c.members know.members
      ).each

  abbrev of_method : (j : Interceptor) → HasName d.names j.name → InterceptorMethod → Having Tells
  of_method j own method =
      let body = method_body j method in
      one_if Tells (option_map (Site.AnInterceptorMethod j method) body) (if_mapped Tells (Site.AnInterceptorMethod j method) body (λ name. own))

  interceptor-tells : (j : Interceptor) → KnowsInterceptor count j → AllByRecursion Tells (interceptor_sites j)
  interceptor-tells j know =
      let own : HasName d.names j.name = named j.name know.name in
      (
      of_method j own methods.AroundInvoke
      and of_method j own methods.AroundConstruct
      and of_method j own methods.PostConstruct
      and of_method j own methods.PreDestroy
      ).each

  pub sites-tell : AllByRecursion (λ s. HasNames d.names (place_of s)) (sites_of d)
  sites-tell =
      (
      parted Tells (KnowsClass count) class_sites class-tells d.classes facts.known.classes
      and parted Tells (KnowsInterceptor count) interceptor_sites interceptor-tells d.interceptors facts.known.interceptors
      ).each
