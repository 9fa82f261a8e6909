-- Each name in the lists of a deployment is a name of its table.
use Rattle.std.specs.Prelude.{ℕ, ◌<◌, List, length, Option, IfSome}
use Rattle.std.specs.List.{All}
use Rattle.cdi_base.specs.declared.uses.Use.{Use}
use Rattle.cdi_deployment.specs.declared.deployment.AnnotationType.{AnnotationType}
use Rattle.cdi_deployment.specs.declared.deployment.Bean.{Bean}
use Rattle.cdi_deployment.specs.declared.deployment.Callback.{Callback}
use Rattle.cdi_deployment.specs.declared.deployment.Class.{Class}
use Rattle.cdi_deployment.specs.declared.deployment.Constructor.{Constructor}
use Rattle.cdi_deployment.specs.declared.deployment.Deployment.{Deployment}
use Rattle.cdi_deployment.specs.declared.deployment.InjectedField.{InjectedField}
use Rattle.cdi_deployment.specs.declared.deployment.Interceptor.{Interceptor}
use Rattle.cdi_deployment.specs.declared.deployment.Interface.{Interface}
use Rattle.cdi_deployment.specs.declared.deployment.Member.{Member}
use Rattle.cdi_deployment.specs.declared.deployment.Member.TheVariants as members
use Rattle.cdi_deployment.specs.declared.deployment.Point.{Point}

-- of a table that holds so many names
module _ (count : ℕ) where
  abbrev pub IsKnown : ℕ → Type 0
  IsKnown name = name < count

  abbrev pub AreKnown : List ℕ → Type 0
  AreKnown names = All IsKnown names

  abbrev pub KnowsUse : Use → Type 0
  KnowsUse u = IsKnown u.name × All (λ m. IsKnown m.name) u.members

  abbrev pub KnowsUses : List Use → Type 0
  KnowsUses uses = All KnowsUse uses

  abbrev pub KnowsInterface : Interface → Type 0
  KnowsInterface i = IsKnown i.name × AreKnown i.extends

  abbrev pub KnowsAnnotationType : AnnotationType → Type 0
  KnowsAnnotationType a = IsKnown a.name × AreKnown a.members × AreKnown a.nonbinding

  abbrev pub KnowsBean : Bean → Type 0
  KnowsBean b = KnowsUses b.quals × IfSome b.typed AreKnown

  abbrev pub KnowsInjectedField : InjectedField → Type 0
  KnowsInjectedField f = IsKnown f.name × IsKnown f.ty × KnowsUses f.quals

  abbrev pub KnowsPoint : Point → Type 0
  KnowsPoint p = IsKnown p.ty × KnowsUses p.quals

  abbrev pub KnowsConstructor : Constructor → Type 0
  KnowsConstructor c = All KnowsPoint c.params × IfSome c.body IsKnown

  pub record KnowsInterceptor (i : Interceptor) : Type 0 where
    pub name : IsKnown i.name
    pub bindings : KnowsUses i.bindings
    pub fields : All (λ f. IsKnown f.name) i.fields
    pub inject : All KnowsInjectedField i.inject
    pub invoke : IfSome i.invoke IsKnown
    pub construct : IfSome i.construct IsKnown
    pub post : IfSome i.post IsKnown
    pub pre : IfSome i.pre IsKnown

  abbrev pub KnowsCallback : Callback → Type 0
  KnowsCallback m = IsKnown m.name × IsKnown m.body

  abbrev pub KnowsMember : Member → Type 0
  KnowsMember (members.Method m) = IsKnown m.name × IsKnown m.body × KnowsUses m.bindings
  KnowsMember (members.Initializer m) = IsKnown m.name × IsKnown m.body × All KnowsPoint m.params
  KnowsMember (members.PostConstruct m) = KnowsCallback m
  KnowsMember (members.PreDestroy m) = KnowsCallback m
  KnowsMember (members.Producer m) =
      IsKnown m.name × IsKnown m.body × IsKnown m.ty × KnowsUses m.quals × IfSome m.typed AreKnown
      × All KnowsPoint m.params × KnowsUses m.bindings
  KnowsMember (members.ProducerField m) =
      IsKnown m.name × IsKnown m.field × IsKnown m.ty × KnowsUses m.quals × IfSome m.typed AreKnown
  KnowsMember (members.Disposer m) =
      IsKnown m.name × IsKnown m.body × IsKnown m.ty × KnowsUses m.quals
      × All KnowsPoint m.params × KnowsUses m.bindings
  KnowsMember (members.Observer m) =
      IsKnown m.name × IsKnown m.body × IsKnown m.ty × KnowsUses m.quals
      × All KnowsPoint m.params × KnowsUses m.bindings

  pub record KnowsClass (c : Class) : Type 0 where
    pub name : IsKnown c.name
    pub extends : IfSome c.extends IsKnown
    pub implements : AreKnown c.implements
    pub bindings : KnowsUses c.bindings
    pub bean : IfSome c.bean KnowsBean
    pub fields : All (λ f. IsKnown f.name) c.fields
    pub inject : All KnowsInjectedField c.inject
    pub constructor : IfSome c.constructor KnowsConstructor
    pub members : All KnowsMember c.members

pub record KnowsNames (d : Deployment) : Type 0 where
  pub interfaces : All (KnowsInterface (length d.names)) d.interfaces
  pub qualifiers : All (KnowsAnnotationType (length d.names)) d.qualifiers
  pub bindings : All (KnowsAnnotationType (length d.names)) d.bindings
  pub exceptions : All (λ e. e.name < length d.names) d.exceptions
  pub classes : All (KnowsClass (length d.names)) d.classes
  pub interceptors : All (KnowsInterceptor (length d.names)) d.interceptors
  pub selected : AreKnown (length d.names) d.selected
  pub order : AreKnown (length d.names) d.order
  pub scripts : All (λ s. s.name < length d.names) d.scripts
