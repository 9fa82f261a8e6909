-- Worlds whose parts fit one another.
use Rattle.std.proofs.Common.{ℕ, ◌≡◌, ◌<◌, ◌⊎◌, List, [], ◌∷◌, Option, Some, None}
use Rattle.cdi_base.specs.Fields.{has}
use Rattle.cdi_base.specs.Maps.{at}
use Rattle.cdi_store.specs.declared.instance.Component.{Component}
use Rattle.cdi_store.specs.declared.instance.Component.TheVariants as components
use Rattle.cdi_store.specs.declared.instance.Context.{Context}
use Rattle.cdi_store.specs.declared.instance.Owner.{Owner}
use Rattle.cdi_store.specs.declared.instance.Owner.TheVariants as owners
use Rattle.cdi_store.specs.declared.instance.Phase.{Phase}
use Rattle.cdi_store.specs.declared.instance.Phase.TheVariants as phases
use Rattle.cdi_store.specs.declared.instance.Instance.{Instance}
use Rattle.cdi_store.specs.declared.references.Reference.{Reference}
use Rattle.cdi_store.specs.declared.references.Reference.TheVariants.{Direct, Proxy, Empty}
use Rattle.cdi_store.specs.Live.{Instances}
use Rattle.cdi_contexts.specs.Contexts.{Contexts}
use Rattle.cdi_machine.specs.Words.{Name, Fields, Asked}
use Rattle.cdi_machine.specs.Tables.{Tables, Kind, Bean, Interceptor, One}
use Rattle.cdi_machine.specs.World.{World, Invocation}
use Rattle.cdi_machine.specs.Creation.{first_fields}
use Rattle.cdi_machine.specs.Runs.{Legal}
use Rattle.cdi_ledger.specs.Whose.{IsIn}
use Rattle.cdi_whole.specs.Fits.{injected_by, intercepted_by, IsThereInterceptor, FitsBean}
use Rattle.cdi_ledger.proofs.Lists.{IsAmong}
use Rattle.cdi_whole.proofs.Contexts.{AllContexts}

-- ---- what the tables declare of a component

abbrev pub injected_of : Kind → List (Name × Asked)
injected_of (Kind.Class c) = injected_by c.plan
injected_of (Kind.Producer p) = []

abbrev pub intercepted_of : Kind → List ℕ
intercepted_of (Kind.Class c) = intercepted_by c.plan
intercepted_of (Kind.Producer p) = []

abbrev pub by_bean : {X : Type 0} → List X → (Kind → List X) → Option Bean → List X
by_bean none f None = none
by_bean none f (Some bean) = f bean.kind

abbrev pub by_interceptor : {X : Type 0} → List X → (Interceptor → List X) → Option Interceptor → List X
by_interceptor none f None = none
by_interceptor none f (Some i) = f i

abbrev pub fields_in : Tables → Component → Fields
fields_in t (components.Bean b) = by_bean [] first_fields (t.bean b)
fields_in t (components.Interceptor i) = by_interceptor [] (λ k. k.fields) (t.interceptor i)

abbrev pub injected_in : Tables → Component → List (Name × Asked)
injected_in t (components.Bean b) = by_bean [] injected_of (t.bean b)
injected_in t (components.Interceptor i) = by_interceptor [] (λ k. k.injected) (t.interceptor i)

abbrev pub intercepted_in : Tables → Component → List ℕ
intercepted_in t (components.Bean b) = by_bean [] intercepted_of (t.bean b)
intercepted_in t (components.Interceptor i) = []

abbrev pub Declared : Tables → Legal → Component → Type 0
Declared t legal (components.Bean b) = FitsBean t legal b
Declared t legal (components.Interceptor i) = IsThereInterceptor t i

-- ---- instances

abbrev pub IsThere : Instances → ℕ → Type 0
IsThere instances n = (o : Instance) × (at instances n ≡ Some o)

abbrev pub Lives : Instances → ℕ → Component → Type 0
Lives instances n component = (o : Instance) × (at instances n ≡ Some o) × (o.component ≡ component)

-- an instance of the component is live under the number, and ready
abbrev pub Serves : Instances → ℕ → Component → Type 0
Serves instances n component = (o : Instance) × (at instances n ≡ Some o) × (o.component ≡ component) × (o.phase ≡ phases.Ready)

abbrev pub IsReady : Instances → ℕ → Type 0
IsReady instances n = (o : Instance) × (at instances n ≡ Some o) × (o.phase ≡ phases.Ready)

-- an instance of this component, of this owner and in this phase is live under the number
pub record Stands (instances : Instances) (n : ℕ) (component : Component) (owner : Owner) (phase : Phase) : Type 0 where
  pub instance : Instance
  pub there : at instances n ≡ Some instance
  pub of : instance.component ≡ component
  pub owned : instance.owner ≡ owner
  pub phase_is : instance.phase ≡ phase

abbrev pub IsOwned : Instances → ℕ → Owner → Type 0
IsOwned instances n owner = (component : Component) × Stands instances n component owner phases.Ready

-- an owner is older
abbrev pub IsOlder : ℕ → Owner → Type 0
IsOlder n (owners.Context c) = Unit {0}
IsOlder n (owners.Instance m) = m < n
IsOlder n owners.Borrower = Unit {0}

-- ---- references

-- if an instance is live under the number, it is one of the bean, and no longer being made
pub record IsOnly (instances : Instances) (n b : ℕ) : Type 0 where
  pub is : (o : Instance) → at instances n ≡ Some o → o.component ≡ components.Bean b
  pub made : (o : Instance) → at instances n ≡ Some o → o.phase ≡ phases.New → ⊥

-- the proxy of the bean, or an instance of it, which may be gone, but its number is given to no other
abbrev pub Refers : Instances → ℕ → ℕ → Reference → Type 0
Refers instances next b Empty = Unit {0}
Refers instances next b (Proxy c) = c ≡ b
Refers instances next b (Direct n) = (n < next) × IsOnly instances n b

-- the point resolves to a bean, and the reference is one to it
pub record IsFor (t : Tables) (instances : Instances) (next : ℕ) (point : Asked) (r : Reference) : Type 0 where
  pub bean : ℕ
  pub resolves : t.resolve point ≡ One bean
  pub refers : Refers instances next bean r

-- each point has its reference
abbrev pub AreFor : Tables → Instances → ℕ → List Asked → List Reference → Type 0
AreFor t instances next [] [] = Unit {0}
AreFor t instances next [] (r ∷ rs) = ⊥
AreFor t instances next (p ∷ ps) [] = ⊥
AreFor t instances next (p ∷ ps) (r ∷ rs) = IsFor t instances next p r × AreFor t instances next ps rs

-- ---- interceptors

-- an instance of the interceptor is among its dependents
abbrev pub IsAttended : Instances → Instance → ℕ → Type 0
IsAttended instances o i = (d : ℕ) × IsIn d o.dependents × Lives instances d (components.Interceptor i)

abbrev pub Attends : Instances → ℕ → ℕ → Type 0
Attends instances n i = (o : Instance) × (at instances n ≡ Some o) × IsAttended instances o i

-- ---- the stack

abbrev pub Targets : ℕ → List Invocation → Type 0
Targets s [] = ⊥
Targets s (v ∷ vs) = (v.target ≡ s) ⊎ Targets s vs

-- it is the target of an invocation, or a body runs on it
abbrev pub OnStack : List Invocation → List ℕ → ℕ → Type 0
OnStack vs bodies s = Targets s vs ⊎ IsIn s bodies

-- the one is the other, or belongs to it, directly or through others
pub data Under (instances : Instances) : ℕ → ℕ → Type 0 where
  self : {n : ℕ} → Under instances n n
  up : {m k n : ℕ} (o : Instance) → at instances m ≡ Some o → (o.phase ≡ phases.Leaving → ⊥) → o.owner ≡ owners.Instance k
      → Under instances k n
      → Under instances m n

-- something on the stack is it or belongs to it
pub record Busy (instances : Instances) (vs : List Invocation) (bodies : List ℕ) (n : ℕ) : Type 0 where
  pub root : ℕ
  pub on : OnStack vs bodies root
  pub under : Under instances root n

abbrev pub Idle : Instances → List Invocation → List ℕ → ℕ → Type 0
Idle instances vs bodies n = Busy instances vs bodies n → ⊥

-- what isn't ready stays as it is, and so does what is busy
abbrev pub Holds : Instances → List Invocation → List ℕ → ℕ → Instance → Type 0
Holds instances vs bodies n o = Busy instances vs bodies n ⊎ (o.phase ≡ phases.Ready → ⊥)

-- it isn't an interceptor that a ready instance has
abbrev pub IsFree : Instances → ℕ → Type 0
IsFree instances n = (i m : ℕ) (o : Instance) → Lives instances n (components.Interceptor i) → at instances m ≡ Some o → IsIn n o.dependents → o.phase ≡ phases.Ready → ⊥

-- ---- worlds

pub record IsWhole (t : Tables) (legal : Legal) (n : ℕ) (o : Instance) : Type 0 where
  pub declared : Declared t legal o.component
  pub fields : (name : Name) → has o.fields name ≡ has (fields_in t o.component) name
  pub owner : IsOlder n o.owner

abbrev pub HeldBy : Instances → Context → ℕ → ℕ → Type 0
HeldBy instances c bean n = Stands instances n (components.Bean bean) (owners.Context c) phases.Ready

pub record Whole (t : Tables) (legal : Legal) (instances : Instances) (next : ℕ) (contexts : Contexts) (temporaries : List (List ℕ)) (vs : List Invocation) (bodies : List ℕ) : Type 0 where
  pub below : (n : ℕ) (o : Instance) → at instances n ≡ Some o → n < next
  pub whole : (n : ℕ) (o : Instance) → at instances n ≡ Some o → IsWhole t legal n o
  -- what depends on an instance is ready, and the instance's
  pub owned : (m : ℕ) (o : Instance) (n : ℕ) → at instances m ≡ Some o → IsIn n o.dependents → IsOwned instances n (owners.Instance m)
  -- what is injected into a field was asked for at a point of it
  pub refer : (n : ℕ) (o : Instance) (field : Name) (r : Reference) → at instances n ≡ Some o → at o.references field ≡ Some r
      → (point : Asked) × IsIn (field, point) (injected_in t o.component) × IsFor t instances next point r
  -- what is ready has its interceptors
  pub attended : (n : ℕ) (o : Instance) (i : ℕ) → at instances n ≡ Some o → o.phase ≡ phases.Ready → IsIn i (intercepted_in t o.component) → IsAttended instances o i
  -- what a context has for a bean is an instance of it, which is ready and the context's
  pub held : AllContexts (HeldBy instances) contexts
  -- what is temporary is ready and borrowed
  pub borrowed : (n : ℕ) → IsAmong n temporaries → IsOwned instances n owners.Borrower
  -- what is on the stack is live
  pub stacked : (s : ℕ) → OnStack vs bodies s → IsThere instances s

abbrev pub Good : Tables → Legal → World → Type 0
Good t legal w = Whole t legal w.instances w.next w.contexts w.temporaries w.invocations w.bodies
