-- The sites of the check behind what the container runs: they stand among the sites of the deployment, and are live.
use Rattle.std.proofs.Common.{ℕ, ◌≡◌, ◌∙◌, ◌&&◌, inl, true, nat_eq, List, ◌++◌, map, option_to_list, Option, Some, None, refl, sym, ap, subst}
use Rattle.std.specs.Prelude.{option_and_then, option_map}
use Rattle.std.proofs.lemmas.Bool.{and_from}
use Rattle.std.specs.List.{flat_map}
use Rattle.cdi_base.specs.declared.place.InterceptorMethod.{InterceptorMethod}
use Rattle.cdi_base.specs.declared.place.InterceptorMethod.TheVariants as methods
use Rattle.cdi_beans.specs.Beans.{bean_member}
use Rattle.cdi_beans.specs.declared.bean.Bean.{Bean}
use Rattle.cdi_beans.specs.declared.bean.BeanMember.{BeanMember}
use Rattle.cdi_beans.specs.declared.bean.EnabledInterceptor.{EnabledInterceptor}
use Rattle.cdi_body_check.specs.Sites.{Site, class_sites, constructor_site, constructor_sites, interceptor_sites, is_live, member_body, member_site, member_sites, method_body, method_sites, sites_of}
use Rattle.cdi_check.specs.Tables.{setting_by}
use Rattle.cdi_deployment.specs.declared.deployment.Class.{Class}
use Rattle.cdi_deployment.specs.declared.deployment.Constructor.{Constructor}
use Rattle.cdi_deployment.specs.declared.deployment.Deployment.{Deployment}
use Rattle.cdi_deployment.specs.declared.deployment.Interceptor.{Interceptor}
use Rattle.cdi_deployment.specs.declared.deployment.Member.{Member}
use Rattle.cdi_deployment.specs.declared.deployment.Member.TheVariants as members
use Rattle.cdi_resolve.specs.Filters.{enabled_of, is_bean_of}
use Rattle.cdi_live.specs.Live.{has_member}
use Rattle.cdi_beans.specs.Kinds.{is_managed}
use Rattle.cdi_types.specs.Members.{members_of}
use Rattle.cdi_deployment.specs.Member.{member_name}
use Rattle.cdi_planner.proofs.Names.{same}
use Rattle.cdi_deployment.specs.Member.{member_name as element_name}
use Rattle.cdi_run_tables.specs.declared.tables.RunTables.{RunTables}
use Rattle.cdi_accepted.proofs.Lists.{Among, among_filter_map, among_flat_map, among_left, among_map, among_right, any_passes}

one_name : (m : Member) → element_name m ≡ member_name m
one_name (members.Method m) = refl
one_name (members.Initializer m) = refl
one_name (members.PostConstruct m) = refl
one_name (members.PreDestroy m) = refl
one_name (members.Producer m) = refl
one_name (members.ProducerField m) = refl
one_name (members.Disposer m) = refl
one_name (members.Observer m) = refl

to_list : {X : Type 0} (o : Option X) (x : X) → o ≡ Some x → Among x (option_to_list o)
to_list None x e = absurd cc
to_list (Some y) x e = inl (let s : x ≡ y = cc in s)

module _ (d : Deployment) where
  of_class : (c : Class) (s : Site) → Among c d.classes → Among s (class_sites c) → Among s (sites_of d)
  of_class c s listed own = among_left (flat_map class_sites d.classes) (flat_map interceptor_sites d.interceptors) s (among_flat_map class_sites d.classes c s listed own)

  pub member_stands : (c : Class) (m : Member) (body : ℕ) → member_body m ≡ Some body → Among c d.classes → Among m c.members → Among (Site.AMember c m body) (sites_of d)
  member_stands c m body is listed own =
      let of_member : Among (Site.AMember c m body) (member_sites c) =
      among_filter_map (member_site c) c.members m (Site.AMember c m body) own (ap (option_map (Site.AMember c m)) is) in
      of_class c (Site.AMember c m body) listed (among_right (constructor_sites c) (member_sites c) (Site.AMember c m body) of_member)

  pub constructor_stands : (c : Class) (k : Constructor) (body : ℕ) → c.constructor ≡ Some k → k.body ≡ Some body → Among c d.classes → Among (Site.AConstructor c k body) (sites_of d)
  constructor_stands c k body is has listed =
      let one : option_and_then (constructor_site c) c.constructor ≡ Some (Site.AConstructor c k body) =
      ap (option_and_then (constructor_site c)) is ∙ ap (option_map (Site.AConstructor c k)) has in
      of_class c (Site.AConstructor c k body) listed
      (among_left (constructor_sites c) (member_sites c) (Site.AConstructor c k body) (to_list (option_and_then (constructor_site c) c.constructor) (Site.AConstructor c k body) one))

  pub method_stands : (j : Interceptor) (role : InterceptorMethod) (body : ℕ) → method_body j role ≡ Some body → Among j d.interceptors → Among (Site.AnInterceptorMethod j role body) (sites_of d)
  method_stands j role body is listed =
      among_right (flat_map class_sites d.classes) (flat_map interceptor_sites d.interceptors) (Site.AnInterceptorMethod j role body)
      (among_flat_map interceptor_sites d.interceptors j (Site.AnInterceptorMethod j role body) listed
      (by role (to_list (option_map (Site.AnInterceptorMethod j role) (method_body j role)) (Site.AnInterceptorMethod j role body) (ap (option_map (Site.AnInterceptorMethod j role)) is))))
    where
      invoke : List Site
      invoke = method_sites j methods.AroundInvoke

      construct : List Site
      construct = method_sites j methods.AroundConstruct

      post : List Site
      post = method_sites j methods.PostConstruct

      by : (r : InterceptorMethod) → Among (Site.AnInterceptorMethod j role body) (method_sites j r) → Among (Site.AnInterceptorMethod j role body) (interceptor_sites j)
      by methods.AroundInvoke a = among_left (invoke ++ construct ++ post) (method_sites j methods.PreDestroy) _ (among_left (invoke ++ construct) post _ (among_left invoke construct _ a))
      by methods.AroundConstruct a = among_left (invoke ++ construct ++ post) (method_sites j methods.PreDestroy) _ (among_left (invoke ++ construct) post _ (among_right invoke construct _ a))
      by methods.PostConstruct a = among_left (invoke ++ construct ++ post) (method_sites j methods.PreDestroy) _ (among_right (invoke ++ construct) post _ a)
      by methods.PreDestroy a = among_right (invoke ++ construct ++ post) (method_sites j methods.PreDestroy) _ a

module _ (t : RunTables) (b : ℕ) (listed : Bean) (enabled : Among (b, listed) (enabled_of t.tables.resolver)) where
  abbrev d : Deployment
  d = t.deployment

  pub member_live : (line : List Class) → listed.members ≡ map bean_member (members_of line) → (c : Class) (m : Member) (body : ℕ) → Among (c, m) (members_of line)
      → is_live (setting_by d t.tables).enabled (Site.AMember c m body) ≡ true
  member_live line are c m body stands =
      let member : BeanMember = bean_member (c, m) in
      let P : List BeanMember → Type 0 = λ ms. Among member ms in
      let listed_member : Among member listed.members = subst P (sym are) (among_map bean_member (members_of line) (c, m) stands) in
      let named : nat_eq (member_name m) (element_name m) ≡ true = ap (λ n. nat_eq (member_name m) n) (one_name m) ∙ same (member_name m) in
      let test : (nat_eq c.name c.name && nat_eq (member_name m) (element_name m)) ≡ true = and_from _ _ (same c.name) named in
      any_passes (has_member c.name (element_name m)) (enabled_of t.tables.resolver) (b, listed) enabled
      (any_passes (λ (k : BeanMember). nat_eq k.class c.name && nat_eq k.name (element_name m)) listed.members member listed_member test)

  pub constructor_live : is_managed listed.kind ≡ true → (c : Class) (k : Constructor) (body : ℕ) → listed.class ≡ c.name → is_live (setting_by d t.tables).enabled (Site.AConstructor c k body) ≡ true
  constructor_live managed c k body is =
      any_passes (is_bean_of c.name) (enabled_of t.tables.resolver) (b, listed) enabled (and_from _ _ managed (ap (λ n. nat_eq n c.name) is ∙ same c.name))

-- an enabled interceptor
pub method_live : (t : RunTables) (i : ℕ) (j : Interceptor) (enabled : EnabledInterceptor) (role : InterceptorMethod) (body : ℕ) → Among enabled t.tables.chains.interceptors → enabled.name ≡ j.name
    → is_live (setting_by t.deployment t.tables).enabled (Site.AnInterceptorMethod j role body) ≡ true
method_live t i j enabled role body stands is =
    any_passes (λ (k : EnabledInterceptor). nat_eq k.name j.name) t.tables.chains.interceptors enabled stands (ap (λ n. nat_eq n j.name) is ∙ same j.name)

-- a site of the deployment that is live
pub record IsLiveSite (t : RunTables) (s : Site) : Type 0 where
  pub stands : Among s (sites_of t.deployment)
  pub live : is_live (setting_by t.deployment t.tables).enabled s ≡ true
