-- Tables and bodies that fit one another, for the whole machine.
use Rattle.std.specs.Prelude.{ℕ, ◌≡◌, ◌⊎◌, List, [], ◌∷◌, length, Bool, true, false, Some, slice_get}
use Rattle.std.specs.List.{AllByRecursion}
use Rattle.cdi_base.specs.declared.act.Act.{Act}
use Rattle.cdi_base.specs.declared.act.Act.TheVariants as acts
use Rattle.cdi_base.specs.declared.act.Via.{Via}
use Rattle.cdi_base.specs.declared.act.Via.TheVariants as vias
use Rattle.cdi_base.specs.declared.built_in.BuiltIn.{BuiltIn}
use Rattle.cdi_base.specs.declared.place.InterceptorMethod.{InterceptorMethod}
use Rattle.cdi_base.specs.declared.place.InterceptorMethod.TheVariants as roles
use Rattle.cdi_base.specs.declared.uses.Use.{Use}
use Rattle.cdi_base.specs.BuiltIn.{number_of}
use Rattle.cdi_base.specs.Fields.{has}
use Rattle.cdi_base.specs.Maps.{at}
use Rattle.cdi_bodies.specs.declared.view.View.{View}
use Rattle.cdi_bodies.specs.Shape.{is_thrown, last_answer}
use Rattle.cdi_machine.specs.Words.{Name, Fields, Asked}
use Rattle.cdi_machine.specs.Tables.{Tables, Method, Member, Lifecycle, Step, Managed, Source, Product, Kind, Bean, Interceptor, Observer, One}
use Rattle.cdi_machine.specs.Runs.{Legal}
use Rattle.cdi_ledger.specs.Whose.{IsIn}

-- ---- sites

-- What a body may go through: the fields of its instance, the points of its injected fields and of its own parameters, the
-- methods of its bean; whether it stands in a chain; and its number.
pub record Site : Type 0 where
  pub fields : Fields
  pub injected : List (Name × Asked)
  pub points : List Asked
  pub methods : List (Name × Method)
  pub chained : Bool
  pub body : ℕ

-- what the steps of a plan inject into fields
abbrev pub injected_by : List Step → List (Name × Asked)
injected_by [] = []
injected_by (Step.Inject field point ∷ more) = (field, point) ∷ injected_by more
injected_by (Step.Intercept i ∷ more) = injected_by more
injected_by (Step.Construct points l ∷ more) = injected_by more
injected_by (Step.Initialize m points ∷ more) = injected_by more
injected_by (Step.Complete l ∷ more) = injected_by more

-- the interceptors of which they make instances
abbrev pub intercepted_by : List Step → List ℕ
intercepted_by [] = []
intercepted_by (Step.Intercept i ∷ more) = i ∷ intercepted_by more
intercepted_by (Step.Inject field point ∷ more) = intercepted_by more
intercepted_by (Step.Construct points l ∷ more) = intercepted_by more
intercepted_by (Step.Initialize m points ∷ more) = intercepted_by more
intercepted_by (Step.Complete l ∷ more) = intercepted_by more

-- a body on an instance of a managed bean: with what is injected into the body's own parameters
abbrev pub class_site : Managed → List Asked → ℕ → Site
class_site c points body =
    record {
      fields = c.fields;
      injected = injected_by c.plan;
      points = points;
      methods = c.methods;
      chained = false;
      body = body;
    }

-- a body on an instance of an interceptor: it has no parameters with points, and no methods of its own
abbrev pub interceptor_site : Interceptor → ℕ → Site
interceptor_site i body =
    record {
      fields = i.fields;
      injected = i.injected;
      points = [];
      methods = [];
      chained = true;
      body = body;
    }

-- ---- acts

-- the class of an exception has a text
abbrev pub HasText : Tables → Name → Type 0
HasText t x = (text : List ℕ) × (t.text x ≡ Some text)

-- a method of this name, which takes so many values
pub record HasMethod (methods : List (Name × Method)) (name : Name) (count : ℕ) : Type 0 where
  pub method : Method
  pub has : at methods name ≡ Some method
  pub takes : method.count ≡ count

-- the class of a managed bean
pub record IsClassOf (t : Tables) (b : ℕ) (c : Managed) : Type 0 where
  pub bean : Bean
  pub known : t.bean b ≡ Some bean
  pub is : bean.kind ≡ Kind.Class c

-- a point, a parameter's point or a lookup behind it resolves to the bean
abbrev pub LeadsTo : Tables → Site → Via → ℕ → Type 0
LeadsTo t s (vias.Field field) b = (point : Asked) × IsIn (field, point) s.injected × (t.resolve point ≡ One b)
LeadsTo t s (vias.Param k) b = (point : Asked) × (slice_get s.points k ≡ Some point) × (t.resolve point ≡ One b)
LeadsTo t s (vias.Local k) b = (point : Asked) × (t.lookup s.body k ≡ Some point) × (t.resolve point ≡ One b)

-- something stands behind the reference: an injected field of the instance, a parameter of the body, or a lookup that it has
abbrev pub IsThere : Tables → Site → Via → Type 0
IsThere t s (vias.Field field) = (point : Asked) × IsIn (field, point) s.injected
IsThere t s (vias.Param k) = (point : Asked) × (slice_get s.points k ≡ Some point)
IsThere t s (vias.Local k) = (point : Asked) × (t.lookup s.body k ≡ Some point)

-- the bean is a managed one, and has the method
pub record AnswersCalls (t : Tables) (b : ℕ) (name : Name) (count : ℕ) : Type 0 where
  pub class : Managed
  pub is : IsClassOf t b class
  pub takes : HasMethod class.methods name count

-- An act that asks for what is there: a field to set, a method of its own, a reference through which it calls, reads or writes,
-- and a method of whatever is behind it, an event class, a lookup that the body has, a text of what it throws; and what belongs
-- to an invocation is asked for by the body of an interceptor alone.
abbrev pub FitsAct : Tables → Site → View → Act → Type 0
FitsAct t s view (acts.Set field v) = has s.fields field ≡ true
FitsAct t s view (acts.Call via name args) =
    IsThere t s via × ((b : ℕ) → LeadsTo t s via b → AnswersCalls t b name (length args))
FitsAct t s view (acts.Own name args) = HasMethod s.methods name (length args)
FitsAct t s view (acts.Read via) = IsThere t s via
FitsAct t s view (acts.Write via v) = IsThere t s via
FitsAct t s view (acts.Fire class qualifiers v) = t.is_event class [] ≡ true
FitsAct t s view (acts.Proceed args) = s.chained ≡ true
FitsAct t s view (acts.Find k) = (point : Asked) × (t.lookup s.body k ≡ Some point)
FitsAct t s view (acts.Keep key v) = s.chained ≡ true
FitsAct t s view (acts.Peek key) = s.chained ≡ true
FitsAct t s view (acts.Destroy k) = IsThere t s (vias.Local k)
FitsAct t s view (acts.Give v) = Unit {0}
FitsAct t s view (acts.Throw x) = HasText t x ⊎ (is_thrown x (last_answer view) ≡ true)

-- whatever the body may give fits its site
abbrev pub FitsBody : Tables → Legal → Site → Type 0
FitsBody t legal s =
    (count : ℕ) (fields : Fields) (view : View) (a : Act) → legal.gives s.body count fields view a → FitsAct t s view a

-- ---- chains

-- the interceptor has the method, and whatever its body may give fits
pub record FitsRole (t : Tables) (legal : Legal) (i : ℕ) (role : InterceptorMethod) : Type 0 where
  pub interceptor : Interceptor
  pub known : t.interceptor i ≡ Some interceptor
  pub body : ℕ
  pub has : interceptor.body role ≡ Some body
  pub fits : FitsBody t legal (interceptor_site interceptor body)

-- each interceptor of the chain has the method, and is one of these
abbrev pub FitsChain : Tables → Legal → InterceptorMethod → List ℕ → List ℕ → Type 0
FitsChain t legal role ready chain = AllByRecursion (λ i. FitsRole t legal i role × IsIn i ready) chain

-- a lifecycle chain and the bodies at its end
pub record FitsLifecycle (t : Tables) (legal : Legal) (c : Managed) (points : List Asked)
    (role : InterceptorMethod) (ready : List ℕ) (l : Lifecycle) : Type 0 where
  pub chain : FitsChain t legal role ready l.chain
  pub callbacks : AllByRecursion (λ m. FitsBody t legal (class_site c points m.body)) l.callbacks

-- a producer, a disposer or an observer
pub record FitsMember (t : Tables) (legal : Legal) (c : Managed) (m : Member) : Type 0 where
  pub chain : FitsChain t legal roles.AroundInvoke (intercepted_by c.plan) m.chain
  pub body : FitsBody t legal (class_site c m.points m.code.body)

pub record FitsMethod (t : Tables) (legal : Legal) (c : Managed) (m : Method) : Type 0 where
  pub chain : FitsChain t legal roles.AroundInvoke (intercepted_by c.plan) m.chain
  pub body : FitsBody t legal (class_site c [] m.code.body)

-- ---- beans

-- the interceptor is there
abbrev pub IsThereInterceptor : Tables → ℕ → Type 0
IsThereInterceptor t i = (interceptor : Interceptor) × (t.interceptor i ≡ Some interceptor)

-- Each step fits, if instances of these interceptors are there: so in a chain stand only interceptors of which an instance
-- was made before.
abbrev pub FitsStep : Tables → Legal → Managed → List ℕ → Step → Type 0
FitsStep t legal c ready (Step.Intercept i) = IsThereInterceptor t i
FitsStep t legal c ready (Step.Construct points l) = FitsLifecycle t legal c points roles.AroundConstruct ready l
FitsStep t legal c ready (Step.Inject field point) = Unit {0}
FitsStep t legal c ready (Step.Initialize m points) = FitsBody t legal (class_site c points m.body)
FitsStep t legal c ready (Step.Complete l) = FitsLifecycle t legal c [] roles.PostConstruct ready l

abbrev pub ready_after : Step → List ℕ → List ℕ
ready_after (Step.Intercept i) ready = i ∷ ready
ready_after (Step.Construct points l) ready = ready
ready_after (Step.Inject field point) ready = ready
ready_after (Step.Initialize m points) ready = ready
ready_after (Step.Complete l) ready = ready

abbrev pub FitsSteps : Tables → Legal → Managed → List ℕ → List Step → Type 0
FitsSteps t legal c ready [] = Unit {0}
FitsSteps t legal c ready (s ∷ more) = FitsStep t legal c ready s × FitsSteps t legal c (ready_after s ready) more

pub record FitsClass (t : Tables) (legal : Legal) (c : Managed) : Type 0 where
  pub steps : FitsSteps t legal c [] c.plan
  pub methods : (name : Name) (m : Method) → at c.methods name ≡ Some m → FitsMethod t legal c m
  pub pre_destroy : FitsLifecycle t legal c [] roles.PreDestroy (intercepted_by c.plan) c.pre_destroy

abbrev pub FitsSource : Tables → Legal → Managed → Source → Type 0
FitsSource t legal c (Source.ProducerMethod m) = FitsMember t legal c m
FitsSource t legal c (Source.ProducerField field) = has c.fields field ≡ true

-- a managed bean that can be had
pub record FitsManaged (t : Tables) (legal : Legal) (b : ℕ) (c : Managed) : Type 0 where
  pub is : IsClassOf t b c
  pub fits : FitsClass t legal c

pub record FitsProduct (t : Tables) (legal : Legal) (p : Product) : Type 0 where
  pub class : Managed
  pub declares : FitsManaged t legal p.declaring class
  pub source : FitsSource t legal class p.source
  pub disposers : AllByRecursion (FitsMember t legal class) p.disposers

abbrev pub FitsKind : Tables → Legal → Kind → Type 0
FitsKind t legal (Kind.Class c) = FitsClass t legal c
FitsKind t legal (Kind.Producer p) = FitsProduct t legal p

-- a bean that can be had
pub record FitsBean (t : Tables) (legal : Legal) (b : ℕ) : Type 0 where
  pub bean : Bean
  pub known : t.bean b ≡ Some bean
  pub kind : FitsKind t legal bean.kind

pub record FitsObserver (t : Tables) (legal : Legal) (o : Observer) : Type 0 where
  pub class : Managed
  pub observes : FitsManaged t legal o.bean class
  pub member : FitsMember t legal class o.member

-- Tables and bodies that fit one another: each bean to which something resolves can be had, each observer fits, and the
-- built-in exceptions have texts.
pub record Fits (t : Tables) (legal : Legal) : Type 0 where
  pub resolved : (asked : Asked) (b : ℕ) → t.resolve asked ≡ One b → FitsBean t legal b
  pub observed : (class : Name) (qualifiers : List Use)
      → AllByRecursion (AllByRecursion (FitsObserver t legal)) (t.observers class qualifiers)
  pub texts : (x : BuiltIn) → HasText t (number_of x)
