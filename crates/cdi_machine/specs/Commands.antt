-- Commands: what begins and ends contexts (Jakarta CDI 4.0, *Context management for built-in scopes*), calls, and boot and
-- shutdown.
use Rattle.std.specs.Prelude.{ℕ, List, map, Bool, true, false, Option, Some, None}
use Rattle.std.specs.List.{list_any}
use Rattle.cdi_base.specs.declared.value.Value.{Value}
use Rattle.cdi_base.specs.declared.built_in.BuiltIn.TheVariants as built_in
use Rattle.cdi_base.specs.declared.uses.Use.{Use}
use Rattle.cdi_store.specs.declared.instance.Context.{Context}
use Rattle.cdi_store.specs.declared.instance.Context.TheVariants.{Application, Request, Session}
use Rattle.cdi_store.specs.declared.instance.Owner.TheVariants as owners
use Rattle.cdi_contexts.specs.Contexts.{Contexts, Environment, OpenRequest, request_in, belongs_to, is_due}
use Rattle.cdi_contexts.specs.Refusals.{is_new}
use Rattle.cdi_machine.specs.Words.{Name, Asked}
use Rattle.cdi_machine.specs.World.{World, Change, no_environment}
use Rattle.cdi_machine.specs.Programs.{Task, Given, Result, Prog, ret, see, do_nothing, call, finish, alter, each, instance, resolve, world, written_of, ◌>>=◌, ◌>>◌}
use Rattle.cdi_machine.specs.Contexts.{refer_to, reach_instance}
use Rattle.cdi_machine.specs.Bodies.{invoke_method}
use Rattle.cdi_machine.specs.Destruction.{borrow_for}
use Rattle.cdi_machine.specs.Events.{fire_context_event, fire_container_event}

-- Requests and sessions are told by the names that the commands give them.
pub data Command : Type 0 where
  -- the application begins
  Boot : Command
  -- a request begins, in a session if one is named, and ends
  Begin : List ℕ → Option (List ℕ) → Command
  End : List ℕ → Command
  -- a session ends, once no open request has it
  Invalidate : List ℕ → Command
  -- in a request or in none, a method of the bean that is asked for is called with values, a product is read, an event is
  -- fired
  Call : Option (List ℕ) → Asked → Name → List Value → Command
  Read : Option (List ℕ) → Asked → Command
  Fire : Option (List ℕ) → Name → List Use → Value → Command
  -- the numbers of the live instances are asked for
  Live : Command
  -- all contexts end
  Shutdown : Command

-- ---- environments

abbrev pub session_of : Option OpenRequest → Option (List ℕ)
session_of None = None
session_of (Some r) = r.session

-- a request and its session
abbrev pub environment_of : Contexts → Option (List ℕ) → Environment
environment_of c None = no_environment
environment_of c (Some r) =
    record { request = Some r; session = session_of (request_in c.requests r) }

-- the rest of the command runs in the environment of the request
abbrev pub stand_in : Option (List ℕ) → Prog (Unit {0})
stand_in r = see λ t w. alter (Change.Stand (environment_of w.contexts r))

abbrev pub stand_alone_in : List ℕ → Prog (Unit {0})
stand_alone_in s = alter (Change.Stand (record { request = None; session = Some s }))

-- ---- contexts

-- in the order of their begin
abbrev pub requests_of : Contexts → List (List ℕ)
requests_of c = map (λ r. r.name) c.requests

-- in the order of their creation
abbrev pub sessions_of : Contexts → List (List ℕ)
sessions_of c = map (λ s. s.name) c.sessions

-- an open request has the session
abbrev pub is_used : Contexts → List ℕ → Bool
is_used c s = list_any (belongs_to s) c.requests

-- a context ends
abbrev pub close : Context → Prog Given
close c = do
  fire_context_event built_in.BeforeDestroyed c
  alter (Change.Finish c)
  call (Task.Clear c)
  alter (Change.Close c)
  fire_context_event built_in.Destroyed c
  finish

-- ---- begin, end, invalidate

abbrev pub begin_session : List ℕ → Prog (Unit {0})
begin_session s =
    see λ t w. elim (is_new w.contexts s) [
      | true ↦ alter (Change.BeginSession s)
      | false ↦ do_nothing
    ]

-- both contexts are open before the first event
abbrev pub begin : List ℕ → Option (List ℕ) → Prog Given
begin r None = do
  alter (Change.BeginRequest r None)
  stand_in (Some r)
  fire_context_event built_in.Initialized (Request r)
  finish
begin r (Some s) = do
  w ← world
  begin_session s
  alter (Change.BeginRequest r (Some s))
  stand_in (Some r)
  elim (is_new w.contexts s) [
    | true ↦ fire_context_event built_in.Initialized (Session s)
    | false ↦ do_nothing
  ]
  fire_context_event built_in.Initialized (Request r)
  finish

abbrev pub end_session : World → Option (List ℕ) → Prog Given
end_session w None = finish
end_session w (Some s) = elim (is_due w.contexts s) [ true ↦ close (Session s) | false ↦ finish ]

-- a session that is marked ends with its last request
abbrev pub end : List ℕ → Prog Given
end r = do
  stand_in (Some r)
  close (Request r)
  w ← world
  end_session w w.environment.session

-- a session is marked; one that no request has ends at once
abbrev pub invalidate : List ℕ → Prog Given
invalidate s = do
  alter (Change.Mark s)
  see λ t w. elim (is_used w.contexts s) [
    | true ↦ finish
    | false ↦ stand_alone_in s >> close (Session s)
  ]

-- ---- call, read

-- a reference for the time of the command
abbrev pub use_bean : Asked → (ℕ → Prog Given) → Prog Given
use_bean asked f = borrow_for do
  b ← resolve asked
  r ← refer_to b owners.Borrower
  n ← reach_instance r
  f n

abbrev pub call_method : Option (List ℕ) → Asked → Name → List Value → Prog Given
call_method r asked method args = do
  stand_in r
  use_bean asked λ n. invoke_method n method args

abbrev pub read : Option (List ℕ) → Asked → Prog Given
read r asked = do
  stand_in r
  use_bean asked λ n. do
    o ← instance n
    ret (Result o.value)

abbrev pub fire : Option (List ℕ) → Name → List Use → Value → Prog Given
fire r class qualifiers v = do
  stand_in r
  qualifiers ← written_of qualifiers
  call (Task.Fire class qualifiers v)

-- ---- boot, shutdown

abbrev pub boot : Prog Given
boot = do
  fire_context_event built_in.Initialized Application
  fire_container_event built_in.Startup
  finish

abbrev pub end_alone : List ℕ → Prog Given
end_alone s = do
  stand_alone_in s
  close (Session s)

abbrev pub shut_down : Prog Given
shut_down = do
  requests ← see λ t w. ret (requests_of w.contexts)
  each requests end
  sessions ← see λ t w. ret (sessions_of w.contexts)
  each sessions end_alone
  stand_in None
  fire_container_event built_in.Shutdown
  close Application
  alter Change.Down
  finish

abbrev pub task : Command → Prog Given
task Boot = boot
task (Begin r s) = begin r s
task (End r) = end r
task (Invalidate s) = invalidate s
task (Call r asked method args) = call_method r asked method args
task (Read r asked) = read r asked
task (Fire r class qualifiers v) = fire r class qualifiers v
task Live = finish
task Shutdown = shut_down
