-- What each task needs of its world, and what holds after it.
use Rattle.std.proofs.Common.{ℕ, ◌≡◌, List, [], ◌∷◌, Bool, true, false, Some}
use Rattle.std.specs.List.{AllByRecursion}
use Rattle.cdi_base.specs.declared.act.Answer.{Answer}
use Rattle.cdi_base.specs.declared.act.Answer.TheVariants as answers
use Rattle.cdi_base.specs.Maps.{at, Map}
use Rattle.cdi_store.specs.declared.instance.Component.{Component}
use Rattle.cdi_store.specs.declared.instance.Component.TheVariants as components
use Rattle.cdi_store.specs.declared.instance.Owner.{Owner}
use Rattle.cdi_store.specs.declared.instance.Phase.{Phase}
use Rattle.cdi_store.specs.declared.instance.Phase.TheVariants as phases
use Rattle.cdi_store.specs.declared.references.Reference.{Reference}
use Rattle.cdi_store.specs.Live.{Instances}
use Rattle.cdi_machine.specs.Words.{Asked}
use Rattle.cdi_machine.specs.Tables.{Tables, Managed, Bean, Interceptor}
use Rattle.cdi_machine.specs.World.{World, Invocation}
use Rattle.cdi_machine.specs.Programs.{Task, Given, Completion, Gave, Threw, Running}
use Rattle.cdi_machine.specs.Contexts.{is_normal}
use Rattle.cdi_machine.specs.Runs.{Legal}
use Rattle.cdi_ledger.specs.Whose.{IsIn}
use Rattle.cdi_whole.specs.Fits.{Site, class_site, interceptor_site, HasText, FitsBody, FitsRole, IsThereInterceptor, FitsManaged, FitsBean, FitsObserver}
use Rattle.cdi_whole.proofs.Whole.{Lives, Serves, IsReady, Stands, IsOlder, IsFor, AreFor, Attends, Idle, IsFree, Good}
use Rattle.cdi_whole.proofs.Remains.{Any, But, Of, AfterAt, After}

-- ---- bodies

-- where the bodies of a site run: on an instance of a managed bean that can be had, or of an interceptor
pub data Home (t : Tables) (legal : Legal) (instances : Instances) (n : ℕ) (site : Site) : Type 0 where
  on_bean : (b : ℕ) (c : Managed) (points : List Asked) (body : ℕ) → FitsManaged t legal b c → Lives instances n (components.Bean b) → site ≡ class_site c points body
      → Home t legal instances n site
  on_interceptor : (i : ℕ) (k : Interceptor) (body : ℕ) → t.interceptor i ≡ Some k → Lives instances n (components.Interceptor i) → site ≡ interceptor_site k body
      → Home t legal instances n site

-- a body can run on the instance, with these references for its parameters
pub record Stood (t : Tables) (legal : Legal) (instances : Instances) (next : ℕ) (n body : ℕ) (references : List Reference) (chained : Bool) : Type 0 where
  pub site : Site
  pub is : site.body ≡ body
  pub chains : site.chained ≡ chained
  pub fits : FitsBody t legal site
  pub home : Home t legal instances n site
  pub points : AreFor t instances next site.points references

-- the rest of a chain of the innermost invocation can be run: its interceptors are there, and so is what stands at its end
abbrev pub CanRest : Tables → Legal → Instances → ℕ → List Invocation → List ℕ → Type 0
CanRest t legal instances next [] chain = ⊥
CanRest t legal instances next (v ∷ vs) chain =
    AllByRecursion (λ i. FitsRole t legal i v.role × Attends instances v.target i) chain
    × AllByRecursion (λ m. Stood t legal instances next v.target m.body v.references false) v.members

-- an exception has a text
abbrev pub IsAnswered : Tables → Answer → Type 0
IsAnswered t (answers.Threw x text) = HasText t x
IsAnswered t _ = Unit {0}

-- the references in a body's locals were looked up by it
pub record AreFound (t : Tables) (instances : Instances) (next body : ℕ) (locals : Map Reference) : Type 0 where
  pub found : (k : ℕ) (r : Reference) → at locals k ≡ Some r → (point : Asked) × (t.lookup body k ≡ Some point) × IsFor t instances next point r

pub record CanRun (t : Tables) (legal : Legal) (instances : Instances) (next : ℕ) (vs : List Invocation) (r : Running) : Type 0 where
  pub chained : Bool
  pub stood : Stood t legal instances next r.instance r.body r.references chained
  pub rest : chained ≡ true → CanRest t legal instances next vs r.rest
  pub locals : AreFound t instances next r.body r.locals
  pub told : AllByRecursion (IsAnswered t) r.view.answers

-- ---- completions

abbrev pub Told : {A : Type 0} → Tables → Completion A → Type 0
Told t (Gave g) = Unit {0}
Told t (Threw x) = HasText t x

-- a value is given, and this holds
abbrev pub Gives : {A : Type 0} → Completion A → Type 0 → Type 0
Gives (Gave a) P = P
Gives (Threw x) P = ⊥

abbrev pub IsValue : Completion Given → Type 0
IsValue (Gave (Given.Result v)) = Unit {0}
IsValue (Gave (Given.Number n)) = ⊥
IsValue (Gave Given.Empty) = ⊥
IsValue (Threw x) = Unit {0}

-- a value, or an exception that has a text
abbrev pub Answered : Tables → Completion Given → Type 0
Answered t c = IsValue c × Told t c

-- what was obtained is an instance of the bean
abbrev pub Obtains : Instances → ℕ → Completion Given → Type 0
Obtains instances b (Gave (Given.Number n)) = Serves instances n (components.Bean b)
Obtains instances b (Gave (Given.Result v)) = ⊥
Obtains instances b (Gave Given.Empty) = ⊥
Obtains instances b (Threw x) = Unit {0}

-- the bean has no normal scope
abbrev pub IsLoose : Tables → ℕ → Type 0
IsLoose t b = (bean : Bean) → t.bean b ≡ Some bean → is_normal bean.scope ≡ false

-- what was created is an instance of the bean, or nothing, if its scope isn't a normal one
abbrev pub Gets : Tables → Instances → ℕ → Completion Given → Type 0
Gets t instances b (Gave (Given.Number n)) = Serves instances n (components.Bean b)
Gets t instances b (Gave (Given.Result v)) = ⊥
Gets t instances b (Gave Given.Empty) = IsLoose t b
Gets t instances b (Threw x) = Unit {0}

-- an instance of the interceptor attends the instance
abbrev pub Intercepts : Instances → ℕ → ℕ → Completion Given → Type 0
Intercepts instances n i (Gave g) = Attends instances n i
Intercepts instances n i (Threw x) = Unit {0}

-- ---- tasks

-- the instance lives, and is being made or destroyed
pub record IsUnready (instances : Instances) (n : ℕ) : Type 0 where
  pub component : Component
  pub owner : Owner
  pub phase : Phase
  pub stands : Stands instances n component owner phase
  pub unready : phase ≡ phases.Ready → ⊥

pub record IsBegun (instances : Instances) (n : ℕ) : Type 0 where
  pub component : Component
  pub owner : Owner
  pub stands : Stands instances n component owner phases.New

abbrev pub IdleIn : World → ℕ → Type 0
IdleIn w n = Idle w.instances w.invocations w.bodies n

-- the innermost temporaries are idle
abbrev pub AllIdle : World → List (List ℕ) → Type 0
AllIdle w [] = ⊥
AllIdle w (ns ∷ more) = (n : ℕ) → IsIn n ns → IdleIn w n

abbrev pub IsEmptyStack : World → Type 0
IsEmptyStack w = (w.invocations ≡ []) × (w.bodies ≡ [])

abbrev pub Pre : Tables → Legal → Task → World → Type 0
Pre t legal (Task.Obtain b) w = Good t legal w × FitsBean t legal b
Pre t legal (Task.Create b owner) w = Good t legal w × FitsBean t legal b × IsOlder w.next owner
Pre t legal (Task.Intercept i n) w = Good t legal w × IsThereInterceptor t i × IsBegun w.instances n
Pre t legal (Task.Rest chain) w = Good t legal w × CanRest t legal w.instances w.next w.invocations chain
Pre t legal (Task.Body r) w = Good t legal w × CanRun t legal w.instances w.next w.invocations r
Pre t legal (Task.Acts r) w = Good t legal w × CanRun t legal w.instances w.next w.invocations r × IsIn r.instance w.bodies
Pre t legal (Task.Destroy n) w = Good t legal w × IsReady w.instances n × IdleIn w n × IsFree w.instances n
Pre t legal (Task.Release n) w = Good t legal w × IsUnready w.instances n × IdleIn w n
Pre t legal (Task.Fire class qualifiers v) w = Good t legal w
Pre t legal (Task.Notify os v) w = Good t legal w × AllByRecursion (FitsObserver t legal) os
Pre t legal Task.Dismiss w = Good t legal w × AllIdle w w.temporaries
Pre t legal (Task.Clear context) w = Good t legal w × IsEmptyStack w

abbrev pub Post : Tables → Legal → Task → World → Completion Given → World → Type 0
Post t legal (Task.Obtain b) w c u = After t legal w u × Obtains u.instances b c × Told t c
Post t legal (Task.Create b owner) w c u = After t legal w u × Gets t u.instances b c × Told t c
Post t legal (Task.Intercept i n) w c u = After t legal w u × Intercepts u.instances n i c × Told t c
Post t legal (Task.Rest chain) w c u = After t legal w u × Answered t c
Post t legal (Task.Body r) w c u = After t legal w u × Answered t c
Post t legal (Task.Acts r) w c u = After t legal w u × Answered t c
Post t legal (Task.Destroy n) w c u = Gives c (AfterAt t legal Any (But n) w u)
Post t legal (Task.Release n) w c u = Gives c (AfterAt t legal Any (Of n) w u)
Post t legal (Task.Fire class qualifiers v) w c u = After t legal w u × Told t c
Post t legal (Task.Notify os v) w c u = After t legal w u × Told t c
Post t legal Task.Dismiss w c u = Gives c (After t legal w u)
Post t legal (Task.Clear context) w c u = Gives c (After t legal w u)
