-- Invocations, chains and bodies (Jakarta CDI 4.0, *Container invocations and interception*; Jakarta Interceptors 2.1,
-- *Business Method Interceptor Methods*, *Interceptor Methods for Lifecycle Event Callbacks* and *InvocationContext*).
use Rattle.std.specs.Prelude.{ℕ, List, [], ◌∷◌, ◌++◌, length, Bool, true, false, not, ◌||◌, Option, Some, None, nat_eq, slice_get}
use Rattle.cdi_base.specs.declared.value.Value.{Value}
use Rattle.cdi_base.specs.declared.value.Value.TheVariants as values
use Rattle.cdi_base.specs.declared.act.Act.{Act}
use Rattle.cdi_base.specs.declared.act.Act.TheVariants as acts
use Rattle.cdi_base.specs.declared.act.Via.{Via}
use Rattle.cdi_base.specs.declared.act.Via.TheVariants as vias
use Rattle.cdi_base.specs.declared.act.Answer.{Answer}
use Rattle.cdi_base.specs.declared.act.Answer.TheVariants as answers
use Rattle.cdi_base.specs.declared.entry.Entry.TheVariants as entries
use Rattle.cdi_base.specs.declared.place.Place.{Place}
use Rattle.cdi_base.specs.declared.place.Place.TheVariants as places
use Rattle.cdi_base.specs.declared.place.InterceptorMethod.{InterceptorMethod}
use Rattle.cdi_base.specs.declared.place.InterceptorMethod.TheVariants as roles
use Rattle.cdi_base.specs.declared.built_in.BuiltIn.TheVariants as built_in
use Rattle.cdi_base.specs.Maps.{at, put}
use Rattle.cdi_store.specs.declared.instance.Component.{Component}
use Rattle.cdi_store.specs.declared.instance.Component.TheVariants as components
use Rattle.cdi_store.specs.declared.instance.Owner.{Owner}
use Rattle.cdi_store.specs.declared.instance.Owner.TheVariants as owners
use Rattle.cdi_store.specs.declared.references.Reference.{Reference}
use Rattle.cdi_store.specs.declared.references.Reference.TheVariants.{Empty as NoReference}
use Rattle.cdi_store.specs.declared.instance.Instance.{Instance}
use Rattle.cdi_machine.specs.Words.{Name, Asked}
use Rattle.cdi_machine.specs.Tables.{Code, Method, Member, Bean, Kind}
use Rattle.cdi_machine.specs.World.{World, Change, Invocation, instance_at}
use Rattle.cdi_machine.specs.Programs.{Running, Task, Given, Result, Completion, Gave, Threw, Prog, ret, throw, see, act, attempt, finally, do_nothing, tell_missing, require_present, expect, call, finish, require, note, alter, each, bean_at, interceptor_at, lookup_at, text_of, instance, invocation, go_deeper, resolve, ◌>>=◌, ◌>>◌}
use Rattle.cdi_machine.specs.Contexts.{refer_to, resolve_points, reach_instance}
use Rattle.cdi_machine.specs.DestroyAct.{destroy_by}

-- ---- invocations

abbrev pub invocation_at_start : ℕ → InterceptorMethod → List Code → List Value → Invocation
invocation_at_start n role members args =
    record {
      target = n;
      role = role;
      members = members;
      parameters = args;
      references = [];
      data_of = [];
      completed = false;
    }

-- Bodies of the target, round which a chain stands. The target is invoked from here on, also while the parameters are
-- obtained.
abbrev pub invoke_by : ℕ → InterceptorMethod → List Code → List Value → Prog Given → Prog Given
invoke_by n role members args p = do
  alter (Change.Enter (invocation_at_start n role members args))
  finally p (alter Change.Exit)

abbrev pub provide : List Asked → Owner → Prog (Unit {0})
provide points owner = do
  rs ← resolve_points points owner
  alter (Change.Provide rs)

-- a member through its chain; the dependents of its parameters belong to the owner
abbrev pub invoke : ℕ → Member → List Value → Owner → Prog Given
invoke n m args owner = invoke_by n roles.AroundInvoke (m.code ∷ []) args do
  provide m.points owner
  call (Task.Rest m.chain)

-- the callbacks through their chain
abbrev pub call_back : ℕ → InterceptorMethod → List Code → List ℕ → Prog Given
call_back n role callbacks chain = invoke_by n role callbacks [] (call (Task.Rest chain))

-- ---- chains

-- the chains of lifecycle callbacks and constructors give null (Jakarta Interceptors 2.1, *Interceptor Methods for Lifecycle Event Callbacks*)
abbrev pub given_by : InterceptorMethod → Given → Given
given_by roles.AroundInvoke g = g
given_by _ g = Result values.Null

abbrev pub body_at_start : ℕ → Place → ℕ → List Value → List Reference → List ℕ → Running
body_at_start n place code args references chain =
    record {
      instance = n;
      place = place;
      body = code;
      references = references;
      rest = chain;
      view = record { args = args; answers = [] };
      locals = [];
      proceeded = false;
    }

abbrev pub is_of : ℕ → Option Instance → Bool
is_of i None = false
is_of i (Some o) =
    elim o.component [ components.Bean b ↦ false | components.Interceptor j ↦ nat_eq i j ]

abbrev pub first_of : World → ℕ → List ℕ → Prog ℕ
first_of w i [] = tell_missing
first_of w i (n ∷ ns) = elim (is_of i (instance_at w n)) [ true ↦ ret n | false ↦ first_of w i ns ]

-- the instance's instance of an interceptor
abbrev pub interceptor_of : ℕ → ℕ → Prog ℕ
interceptor_of n i = do
  o ← instance n
  see λ t w. first_of w i o.dependents

abbrev pub run_rest : List ℕ → Prog Given
run_rest [] = do
  v ← invocation
  g ← each v.members λ m.
      call (Task.Body
      (body_at_start v.target m.place m.body v.parameters v.references []))
  alter Change.Reach
  ret (given_by v.role g)
run_rest (i ∷ chain) = do
  v ← invocation
  interceptor ← interceptor_at i
  code ← require_present (interceptor.body v.role)
  n ← interceptor_of v.target i
  g ← call (Task.Body
      (body_at_start n (places.Interceptor interceptor.name v.role) code v.parameters [] chain))
  ret (given_by v.role g)

-- ---- bodies

abbrev pub run_body : Running → Prog Given
run_body r = do
  go_deeper
  instance r.instance
  note (entries.Run r.instance r.place)
  alter (Change.Start r.instance)
  finally (call (Task.Acts r)) (alter Change.Stop)

-- ---- acts

abbrev pub reference_at : Option Reference → Reference
reference_at None = NoReference
reference_at (Some x) = x

-- a field that isn't injected yet and a local that isn't found yet are empty
abbrev pub find_reference : Running → Via → Prog Reference
find_reference r (vias.Field name) = do
  o ← instance r.instance
  ret (reference_at (at o.references name))
find_reference r (vias.Param k) = ret (reference_at (slice_get r.references k))
find_reference r (vias.Local k) = ret (reference_at (at r.locals k))

abbrev pub method_in : Kind → Name → Prog Method
method_in (Kind.Class c) name = require_present (at c.methods name)
method_in (Kind.Producer p) name = tell_missing

abbrev pub bean_of : Component → Prog Bean
bean_of (components.Bean b) = bean_at b
bean_of (components.Interceptor i) = tell_missing

abbrev pub method_of : ℕ → Name → Prog Method
method_of n name = do
  o ← instance n
  bean ← bean_of o.component
  method_in bean.kind name

abbrev pub invoke_method : ℕ → Name → List Value → Prog Given
invoke_method n name args = do
  m ← method_of n name
  expect (nat_eq (length args) m.count)
  invoke_by n roles.AroundInvoke (m.code ∷ []) args (call (Task.Rest m.chain))

-- as many values as the invocation has parameters (Jakarta Interceptors 2.1, *InvocationContext*)
abbrev pub fits : List Value → Option (List Value) → Bool
fits parameters None = true
fits parameters (Some args) = nat_eq (length args) (length parameters)

abbrev pub replace_parameters : Option (List Value) → Prog (Unit {0})
replace_parameters None = do_nothing
replace_parameters (Some args) = alter (Change.Replace args)

abbrev pub repeats : InterceptorMethod → Bool
repeats roles.AroundInvoke = true
repeats _ = false

-- the rest of the chain; the chain of a lifecycle callback is run once
abbrev pub proceed : Running → Option (List Value) → Prog Given
proceed r args = do
  v ← invocation
  require (fits v.parameters args) built_in.IllegalArgumentException
  require (repeats v.role || not r.proceeded) built_in.IllegalStateException
  replace_parameters args
  call (Task.Rest r.rest)

abbrev pub value_at : Option Value → Value
value_at None = values.Null
value_at (Some v) = v

-- what an act does, and gives
abbrev pub carry_out : Running → Act → Prog Given
carry_out r (acts.Set field v) = do
  o ← instance r.instance
  require_present (at o.fields field)
  alter (Change.Assign r.instance field v)
  finish
carry_out r (acts.Call via name args) = do
  target ← find_reference r via
  n ← reach_instance target
  invoke_method n name args
carry_out r (acts.Own name args) = do
  m ← method_of r.instance name
  expect (nat_eq (length args) m.count)
  call (Task.Body (body_at_start r.instance m.code.place m.code.body args [] []))
carry_out r (acts.Read via) = do
  target ← find_reference r via
  n ← reach_instance target
  o ← instance n
  ret (Result o.value)
carry_out r (acts.Write via v) = do
  target ← find_reference r via
  n ← reach_instance target
  alter (Change.Hold n v)
  finish
carry_out r (acts.Fire class qualifiers v) = call (Task.Fire class qualifiers v)
carry_out r (acts.Proceed args) = proceed r args
carry_out r (acts.Keep key v) = do
  alter (Change.Keep key v)
  finish
carry_out r (acts.Peek key) = do
  v ← invocation
  ret (Result (value_at (at v.data_of key)))
carry_out r (acts.Destroy k) = destroy_by (reference_at (at r.locals k))
carry_out r _ = tell_missing

-- a lookup (Jakarta CDI 4.0, *Programmatic lookup*); what it finds belongs to the body's own instance
abbrev pub find : Running → ℕ → Prog Reference
find r k = do
  asked ← lookup_at r.body k
  b ← resolve asked
  refer_to b (owners.Instance r.instance)

abbrev pub answer_of : Completion Given → Prog Answer
answer_of (Gave (Result v)) = ret (answers.Done v)
answer_of (Gave g) = ret (answers.Done values.Null)
answer_of (Threw x) = do
  text ← text_of x
  ret (answers.Threw x text)

abbrev pub with_answer : Running → Answer → Running
with_answer r a =
    record r { view = record { args = r.view.args; answers = r.view.answers ++ a ∷ [] } }

-- a proceed that was refused for the number of its values doesn't count
abbrev pub after_act : Running → Act → Running
after_act r (acts.Proceed args) = record r { proceeded = r.proceeded || fits r.view.args args }
after_act r a = r

-- the body goes on with one answer more
abbrev pub answer_find : Running → ℕ → Completion Reference → Prog Given
answer_find r k (Gave it) =
    call (Task.Acts (with_answer (record r { locals = put k it r.locals }) (answers.Found k)))
answer_find r k (Threw x) = do
  answer ← answer_of (Threw x)
  call (Task.Acts (with_answer r answer))

abbrev pub perform : Running → Act → Prog Given
perform r (acts.Give v) = ret (Result v)
perform r (acts.Throw x) = throw x
perform r (acts.Find k) = do
  c ← attempt (find r k)
  answer_find r k c
perform r a = do
  c ← attempt (carry_out r a)
  answer ← answer_of c
  call (Task.Acts (with_answer (after_act r a) answer))

-- the next act, and what it does
abbrev pub carry_on : Running → Prog Given
carry_on r = do
  o ← instance r.instance
  a ← act r.body o.fields r.view ret
  perform r a
