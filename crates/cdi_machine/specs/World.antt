-- The world of the machine: what a container holds, and how it changes.
use Rattle.std.specs.Prelude.{ℕ, ◌+◌, ◌++◌, ◌∷◌, [], Bool, true, false, List, map, Option, Some, None}
use Rattle.cdi_base.specs.declared.value.Value.{Value}
use Rattle.cdi_base.specs.declared.entry.Entry.{Entry}
use Rattle.cdi_base.specs.declared.place.InterceptorMethod.{InterceptorMethod}
use Rattle.cdi_base.specs.Maps.{at, put, without}
use Rattle.cdi_store.specs.declared.instance.Component.{Component}
use Rattle.cdi_store.specs.declared.instance.Component.TheVariants as components
use Rattle.cdi_store.specs.declared.instance.Context.{Context}
use Rattle.cdi_store.specs.declared.instance.Owner.{Owner}
use Rattle.cdi_store.specs.declared.instance.Owner.TheVariants as owners
use Rattle.cdi_store.specs.declared.instance.Instance.{Instance}
use Rattle.cdi_store.specs.declared.references.Reference.{Reference}
use Rattle.cdi_store.specs.Live.{Instances, with_newborn, with_field, with_reference, with_value, with_ready, with_leaving, all_but}
use Rattle.cdi_contexts.specs.declared.context.Held.{Held}
use Rattle.cdi_contexts.specs.declared.context.Held.TheVariants.{Making, Is}
use Rattle.cdi_contexts.specs.Contexts.{Contexts, Environment, with_request, with_session, with_ending, without_context, with_mark, with_held, with_nothing, at_boot}
use Rattle.cdi_machine.specs.Words.{Name, Fields}
use Rattle.cdi_machine.specs.Tables.{Code}

-- Bodies under way on the target, at the end of a chain.
pub record Invocation : Type 0 where
  pub target : ℕ
  pub role : InterceptorMethod
  pub members : List Code
  pub parameters : List Value
  pub references : List Reference
  -- the context data
  pub data_of : Fields
  -- the bodies at the chain's end have been run
  pub completed : Bool

pub record World : Type 0 where
  -- the live instances
  pub instances : Instances
  -- the next number
  pub next : ℕ
  -- the contexts that aren't gone
  pub contexts : Contexts
  pub down : Bool
  -- of the running command: its environment, its invocations and the instances with a running body, innermost first, and
  -- what each call of a producer, disposer or observer, or a call or read command, has borrowed
  pub environment : Environment
  pub invocations : List Invocation
  pub bodies : List ℕ
  pub temporaries : List (List ℕ)
  pub trace : List Entry
  -- how many entries a command may have, and how many levels of bodies
  pub ticks : ℕ
  pub depth : ℕ

abbrev pub instance_at : World → ℕ → Option Instance
instance_at w n = at w.instances n

-- ---- changes

pub data Change : Type 0 where
  -- an instance gets the next number; its context holds Making
  Make : Component → Owner → Fields → Change
  -- the instance is ready, and its context, its owner or the temporaries have it
  Settle : ℕ → Change
  -- the creation of the instance failed: it is gone, and leaves its context
  Discard : ℕ → Change
  -- its destruction begins: it leaves its context, its owner or the temporaries
  Leave : ℕ → Change
  -- the instance is gone
  Remove : ℕ → Change
  -- a field, a reference, and the value of a product
  Assign : ℕ → Name → Value → Change
  Refer : ℕ → Name → Reference → Change
  Hold : ℕ → Value → Change
  -- a request begins, with its session; a session is created; a session is marked
  BeginRequest : List ℕ → Option (List ℕ) → Change
  BeginSession : List ℕ → Change
  Mark : List ℕ → Change
  -- a context is ending, is gone
  Finish : Context → Change
  Close : Context → Change
  -- the environment of the command
  Stand : Environment → Change
  -- an invocation begins and ends; its references, parameters and data; its chain's end was reached
  Enter : Invocation → Change
  Provide : List Reference → Change
  Replace : List Value → Change
  Keep : Name → Value → Change
  Reach : Change
  Exit : Change
  -- a body starts on an instance, and ends
  Start : ℕ → Change
  Stop : Change
  -- temporaries from here on, and no longer
  Borrow : Change
  Return : Change
  -- the container is down
  Down : Change

abbrev pub on_top : {X : Type 0} → (X → X) → List X → List X
on_top f [] = []
on_top f (x ∷ xs) = f x ∷ xs

abbrev pub below : {X : Type 0} → List X → List X
below [] = []
below (x ∷ xs) = xs

-- the context has this for the bean; it has no instances of interceptors
abbrev pub with_component_held : Component → Held → Context → Contexts → Contexts
with_component_held (components.Bean b) held context c = with_held b held context c
with_component_held (components.Interceptor i) held context c = c

abbrev pub with_component_left : Component → Context → Contexts → Contexts
with_component_left (components.Bean b) context c = with_nothing b context c
with_component_left (components.Interceptor i) context c = c

abbrev pub with_contexts : (Contexts → Contexts) → World → World
with_contexts f w = record w { contexts = f w.contexts }

-- its context has it as one that is being made
abbrev pub with_making : Component → Owner → World → World
with_making component (owners.Context c) w =
    with_contexts (with_component_held component Making c) w
with_making component _ w = w

-- its context or the temporaries have it
abbrev pub with_owned : ℕ → Component → Owner → World → World
with_owned n component (owners.Context c) w =
    with_contexts (with_component_held component (Is n) c) w
with_owned n component (owners.Instance m) w = w
with_owned n component owners.Borrower w =
    record w { temporaries = on_top (λ ns. ns ++ n ∷ []) w.temporaries }

-- its context and the temporaries have it no longer
abbrev pub without_owned : ℕ → Component → Owner → World → World
without_owned n component (owners.Context c) w = with_contexts (with_component_left component c) w
without_owned n component (owners.Instance m) w = w
without_owned n component owners.Borrower w =
    record w { temporaries = map (all_but n) w.temporaries }

abbrev pub without_making : Component → Owner → World → World
without_making component (owners.Context c) w = with_contexts (with_component_left component c) w
without_making component _ w = w

abbrev pub for_instance : World → Option Instance → (Instance → World) → World
for_instance w None f = w
for_instance w (Some o) f = f o

abbrev pub with_instances : (Instances → Instances) → World → World
with_instances f w = record w { instances = f w.instances }

abbrev pub with_invocation : (Invocation → Invocation) → World → World
with_invocation f w = record w { invocations = on_top f w.invocations }

abbrev pub after_change : Change → World → World
after_change (Make component owner fields) w =
    with_making component owner
    (record w {
      instances = with_newborn w.next component owner fields w.instances;
      next = w.next + 1;
    })
after_change (Settle n) w =
    for_instance w (instance_at w n) λ o.
    with_owned n o.component o.owner (with_instances (with_ready n) w)
after_change (Discard n) w =
    for_instance w (instance_at w n) λ o.
    without_making o.component o.owner (with_instances (without n) w)
after_change (Leave n) w =
    for_instance w (instance_at w n) λ o.
    without_owned n o.component o.owner (with_instances (with_leaving n) w)
after_change (Remove n) w = with_instances (without n) w
after_change (Assign n field v) w = with_instances (with_field n field v) w
after_change (Refer n field r) w = with_instances (with_reference n field r) w
after_change (Hold n v) w = with_instances (with_value n v) w
after_change (BeginRequest name session) w = with_contexts (with_request name session) w
after_change (BeginSession name) w = with_contexts (with_session name) w
after_change (Mark session) w = with_contexts (with_mark session) w
after_change (Finish c) w = with_contexts (with_ending c) w
after_change (Close c) w = with_contexts (without_context c) w
after_change (Stand e) w = record w { environment = e }
after_change (Enter i) w = record w { invocations = i ∷ w.invocations }
after_change (Provide rs) w = with_invocation (λ i. record i { references = rs }) w
after_change (Replace vs) w = with_invocation (λ i. record i { parameters = vs }) w
after_change (Keep key v) w = with_invocation (λ i. record i { data_of = put key v i.data_of }) w
after_change Reach w = with_invocation (λ i. record i { completed = true }) w
after_change Exit w = record w { invocations = below w.invocations }
after_change (Start n) w = record w { bodies = n ∷ w.bodies }
after_change Stop w = record w { bodies = below w.bodies }
after_change Borrow w = record w { temporaries = [] ∷ w.temporaries }
after_change Return w = record w { temporaries = below w.temporaries }
after_change Down w = record w { down = true }

-- the world with one entry more
abbrev pub with_entry : Entry → World → World
with_entry e w = record w { trace = w.trace ++ e ∷ [] }

abbrev pub no_environment : Environment
no_environment = record { request = None; session = None }

-- the world before the boot
abbrev pub before_boot : ℕ → ℕ → World
before_boot ticks depth =
    record {
      instances = [];
      next = 1;
      contexts = at_boot;
      down = false;
      environment = no_environment;
      invocations = [];
      bodies = [];
      temporaries = [];
      trace = [];
      ticks = ticks;
      depth = depth;
    }

-- the world at the begin of a command
abbrev pub at_begin : World → World
at_begin w = record w { trace = []; environment = no_environment }
