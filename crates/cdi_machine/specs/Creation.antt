-- The creation of an instance: of a managed bean (Jakarta CDI 4.0, *Lifecycle of managed beans*), of an interceptor (Jakarta
-- Interceptors 2.1, *Interceptor Life Cycle*), of a product (Jakarta CDI 4.0, *Lifecycle of producer methods* and
-- *Lifecycle of producer fields*).
use Rattle.std.specs.Prelude.{ℕ, List, [], Bool, true}
use Rattle.cdi_base.specs.declared.value.Value.TheVariants as values
use Rattle.cdi_base.specs.declared.entry.Entry.TheVariants as entries
use Rattle.cdi_base.specs.declared.place.Place.{Place}
use Rattle.cdi_base.specs.declared.place.Place.TheVariants as places
use Rattle.cdi_base.specs.declared.place.InterceptorMethod.TheVariants as roles
use Rattle.cdi_base.specs.declared.scope.Scope.{Scope}
use Rattle.cdi_base.specs.declared.built_in.BuiltIn.TheVariants as built_in
use Rattle.cdi_base.specs.Maps.{at}
use Rattle.cdi_store.specs.declared.instance.Component.{Component}
use Rattle.cdi_store.specs.declared.instance.Component.TheVariants as components
use Rattle.cdi_store.specs.declared.instance.Owner.{Owner}
use Rattle.cdi_store.specs.declared.instance.Owner.TheVariants as owners
use Rattle.cdi_machine.specs.Words.{Name, Fields, Asked}
use Rattle.cdi_machine.specs.Tables.{Code, Lifecycle, Step, Source, Product, Kind, Bean}
use Rattle.cdi_machine.specs.World.{Change}
use Rattle.cdi_machine.specs.Programs.{Task, Given, Result, Number, Prog, ret, handle, require_present, call, finish, raise, require, note, alter, each, bean_at, interceptor_at, instance, invocation, next_number, rethrow, ◌>>=◌, ◌>>◌}
use Rattle.cdi_machine.specs.Programs.Given.{Empty as NoInstance}
use Rattle.cdi_machine.specs.Contexts.{is_normal, resolve_point, resolve_points}
use Rattle.cdi_machine.specs.Bodies.{invoke_by, provide, invoke, call_back, body_at_start}
use Rattle.cdi_machine.specs.Destruction.{borrow_for, obtain_receiver}

-- ---- ready, or not

abbrev pub make_ready : ℕ → Prog Given
make_ready n = do
  note (entries.Ready n)
  alter (Change.Settle n)
  ret (Number n)

-- the dependents that are completed are destroyed; no pre-destroy runs
abbrev pub discard : ℕ → Prog (Unit {0})
discard n = do
  call (Task.Release n)
  note (entries.Drop n)
  alter (Change.Discard n)

abbrev pub end_creation : ℕ → Given → Prog Given
end_creation n (Result values.Null) = do
  discard n
  ret NoInstance
end_creation n g = make_ready n

-- a creation by its steps: a null product is none, and if they throw, the creation has failed
abbrev pub create_by : ℕ → Prog Given → Prog Given
create_by n steps = handle steps (end_creation n) λ x. do
  discard n
  rethrow x built_in.CreationException

abbrev pub begin_creation : Place → Component → Owner → Fields → Prog ℕ
begin_creation place component owner fields = do
  n ← next_number
  note (entries.New n place)
  alter (Change.Make component owner fields)
  ret n

-- ---- a managed bean

-- a construct chain that doesn't get through the constructor gives no instance (Jakarta Interceptors 2.1, *Lifecycle callback
-- interceptors*)
abbrev pub construct : ℕ → List Asked → Lifecycle → Prog Given
construct n points chain = invoke_by n roles.AroundConstruct chain.callbacks [] do
  provide points (owners.Instance n)
  call (Task.Rest chain.chain)
  v ← invocation
  require v.completed built_in.CreationException
  finish

abbrev pub inject : ℕ → Name → Asked → Prog Given
inject n field point = do
  r ← resolve_point point (owners.Instance n)
  alter (Change.Refer n field r)
  finish

abbrev pub initialize : ℕ → Code → List Asked → Prog Given
initialize n m points = do
  rs ← resolve_points points (owners.Instance n)
  call (Task.Body (body_at_start n m.place m.body [] rs []))

abbrev pub take_step : ℕ → Step → Prog Given
take_step n (Step.Intercept i) = call (Task.Intercept i n)
take_step n (Step.Construct points chain) = construct n points chain
take_step n (Step.Inject field point) = inject n field point
take_step n (Step.Initialize m points) = initialize n m points
take_step n (Step.Complete chain) = call_back n roles.PostConstruct chain.callbacks chain.chain

-- ---- a product

abbrev pub call_producer : ℕ → ℕ → Source → Prog Given
call_producer n m (Source.ProducerMethod producer) = invoke m producer [] (owners.Instance n)
call_producer n m (Source.ProducerField field) = do
  o ← instance m
  v ← require_present (at o.fields field)
  ret (Result v)

-- null is a product of no scope but Dependent (Jakarta CDI 4.0, *Lifecycle of producer methods*)
abbrev pub accept : Bool → ℕ → Given → Prog Given
accept true n (Result values.Null) = raise built_in.IllegalProductException
accept normal n (Result v) = do
  alter (Change.Hold n v)
  ret (Result v)
accept normal n g = ret g

abbrev pub produce : ℕ → Scope → Product → Prog Given
produce n scope p = do
  v ← borrow_for do
    m ← obtain_receiver p.declaring
    call_producer n m p.source
  accept (is_normal scope) n v

-- ---- the tasks

abbrev pub first_fields : Kind → Fields
first_fields (Kind.Class c) = c.fields
first_fields (Kind.Producer p) = []

abbrev pub make : ℕ → Bean → Kind → Prog Given
make n bean (Kind.Class c) = do
  each c.plan (take_step n)
  ret (Number n)
make n bean (Kind.Producer p) = produce n bean.scope p

abbrev pub create : ℕ → Owner → Prog Given
create b owner = do
  bean ← bean_at b
  n ← begin_creation bean.place (components.Bean b) owner (first_fields bean.kind)
  create_by n (make n bean bean.kind)

abbrev pub intercept : ℕ → ℕ → Prog Given
intercept i n = do
  interceptor ← interceptor_at i
  m ← begin_creation (places.Class interceptor.name) (components.Interceptor i) (owners.Instance n)
      interceptor.fields
  create_by m do
    each interceptor.injected λ p. inject m p.0 p.1
    ret (Number m)
