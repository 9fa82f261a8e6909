-- Programs of the machine: what they may look at, change, write and call.
use Rattle.std.specs.Prelude.{ℕ, suc, ◌^◌, List, [], ◌∷◌, length, Bool, true, false, Option, Some, None, nat_lt, option_map}
use Rattle.cdi_base.specs.declared.value.Value.{Value}
use Rattle.cdi_base.specs.declared.value.Value.TheVariants as values
use Rattle.cdi_base.specs.declared.act.Act.{Act}
use Rattle.cdi_base.specs.declared.entry.Entry.{Entry}
use Rattle.cdi_base.specs.declared.place.Place.{Place}
use Rattle.cdi_base.specs.declared.scope.Scope.{Scope}
use Rattle.cdi_base.specs.declared.reply.Cause.{Cause}
use Rattle.cdi_base.specs.declared.reply.Cause.TheVariants as causes
use Rattle.cdi_base.specs.declared.built_in.BuiltIn.{BuiltIn}
use Rattle.cdi_base.specs.declared.built_in.BuiltIn.TheVariants as built_in
use Rattle.cdi_base.specs.declared.uses.Use.{Use}
use Rattle.cdi_bodies.specs.declared.view.View.{View}
use Rattle.cdi_base.specs.BuiltIn.{number_of}
use Rattle.cdi_base.specs.Maps.{Map}
use Rattle.cdi_store.specs.declared.instance.Context.{Context}
use Rattle.cdi_store.specs.declared.instance.Owner.{Owner}
use Rattle.cdi_store.specs.declared.references.Reference.{Reference}
use Rattle.cdi_store.specs.declared.instance.Instance.{Instance}
use Rattle.cdi_contexts.specs.Contexts.{Active, context_at, context_of}
use Rattle.cdi_machine.specs.Words.{Name, Fields, Asked}
use Rattle.cdi_machine.specs.Tables.{Tables, Bean, Interceptor, Observer, Resolution, One, Nothing, Many}
use Rattle.cdi_machine.specs.World.{World, Change, Invocation, instance_at}

-- A running body: the instance, the member, its parameters' references, the interceptors behind it in its chain, what
-- it sees and what it has looked up, and whether it has proceeded.
pub record Running : Type 0 where
  pub instance : ℕ
  pub place : Place
  pub body : ℕ
  pub references : List Reference
  pub rest : List ℕ
  pub view : View
  pub locals : Map Reference
  pub proceeded : Bool

-- The tasks that call one another.
pub data Task : Type 0 where
  -- the contextual instance of a bean with a normal scope
  Obtain : ℕ → Task
  -- a new instance of a bean, for an owner
  Create : ℕ → Owner → Task
  -- a new instance of an interceptor, for an instance of a bean
  Intercept : ℕ → ℕ → Task
  -- the rest of the chain of the innermost invocation
  Rest : List ℕ → Task
  -- a body, and its acts from here on
  Body : Running → Task
  Acts : Running → Task
  Destroy : ℕ → Task
  -- the destruction of the dependents
  Release : ℕ → Task
  -- an event, and its delivery to the observers that are left of a group
  Fire : Name → List Use → Value → Task
  Notify : List Observer → Value → Task
  -- the destruction of the innermost temporaries
  Dismiss : Task
  -- the destruction of what a context has
  Clear : Context → Task

-- what a call gives
pub data Given : Type 0 where
  Result : Value → Given
  Number : ℕ → Given
  Empty : Given

pub data Completion (A : Type 0) : Type 0 where
  Gave : A → Completion A
  Threw : Name → Completion A

pub data Prog (A : Type 0) : Type 0 where
  ret : A → Prog A
  -- an exception
  throw : Name → Prog A
  -- the end of the command
  cut : Cause → Prog A
  -- what has to be there is missing; no run of an accepted deployment is to come here
  miss : Prog A → Prog A
  -- looks at the tables and the world
  see : (Tables → World → Prog A) → Prog A
  change : Change → Prog A → Prog A
  -- writes an entry, if the command may have one more
  tick : Entry → Prog A → Prog A
  -- the destruction of the instance passes from its end to what stands before it is gone: no entry
  mark : ℕ → Prog A → Prog A
  -- the next act of a body, at its fields and view, and its entry
  act : ℕ → Fields → View → (Act → Prog A) → Prog A
  -- one of so many candidates and two more, and its entry
  choose : ℕ → (ℕ → Prog A) → Prog A
  -- a call, whose completion is looked at
  nested : Task → (Completion Given → Prog A) → Prog A

-- how many candidates a choice has
abbrev pub candidates : ℕ → ℕ
candidates n = suc (suc n)

-- goes on with the value, or with the exception; a cut ends all
abbrev pub handle : {A B : Type 0} → Prog A → (A → Prog B) → (Name → Prog B) → Prog B
handle (ret a) f h = f a
handle (throw x) f h = h x
handle (cut c) f h = cut c
handle (miss p) f h = miss (handle p f h)
handle (see k) f h = see (λ t w. handle (k t w) f h)
handle (change g p) f h = change g (handle p f h)
handle (tick e p) f h = tick e (handle p f h)
handle (mark n p) f h = mark n (handle p f h)
handle (act b fields view k) f h = act b fields view (λ a. handle (k a) f h)
handle (choose n k) f h = choose n (λ i. handle (k i) f h)
handle (nested c k) f h = nested c (λ r. handle (k r) f h)

infixl 10 ◌>>=◌
infixl 10 ◌>>◌
abbrev pub ◌>>=◌ : {A B : Type 0} → Prog A → (A → Prog B) → Prog B
p >>= f = handle p f throw

abbrev pub ◌>>◌ : {A B : Type 0} → Prog A → Prog B → Prog B
p >> q = p >>= λ _. q

-- ---- statements

abbrev pub attempt : {A : Type 0} → Prog A → Prog (Completion A)
attempt p = handle p (λ a. ret (Gave a)) (λ x. ret (Threw x))

-- the second also if the first throws
abbrev pub finally : {A B : Type 0} → Prog A → Prog B → Prog A
finally p q = handle p (λ a. q >> ret a) (λ x. q >> throw x)

abbrev pub do_nothing : Prog (Unit {0})
do_nothing = ret tt

-- what is thrown is dropped
abbrev pub quietly : {A : Type 0} → Prog A → Prog (Unit {0})
quietly p = handle p (λ _. do_nothing) (λ _. do_nothing)

abbrev pub raise : {A : Type 0} → BuiltIn → Prog A
raise exception = throw (number_of exception)

-- what is missing is told as an exception
abbrev pub tell_missing : {A : Type 0} → Prog A
tell_missing = miss (raise built_in.IllegalStateException)

abbrev pub require_present : {A : Type 0} → Option A → Prog A
require_present None = tell_missing
require_present (Some a) = ret a

-- what is always to hold in an accepted deployment
abbrev pub expect : Bool → Prog (Unit {0})
expect true = do_nothing
expect false = tell_missing

abbrev pub complete : Completion Given → Prog Given
complete (Gave g) = ret g
complete (Threw x) = throw x

abbrev pub call : Task → Prog Given
call c = nested c complete

-- a task without a value
abbrev pub finish : Prog Given
finish = ret (Result values.Null)

-- throws it unless the condition holds
abbrev pub require : Bool → BuiltIn → Prog (Unit {0})
require true exception = do_nothing
require false exception = raise exception

abbrev pub note : Entry → Prog (Unit {0})
note e = tick e do_nothing

abbrev pub alter : Change → Prog (Unit {0})
alter g = change g do_nothing

-- each in turn; gives what the last one gave
abbrev pub each : {X : Type 0} → List X → (X → Prog Given) → Prog Given
each [] f = finish
each (x ∷ []) f = f x
each (x ∷ xs) f = f x >> each xs f

-- the index of one of the candidates: by a pick, if there are several
abbrev pub pick : {X : Type 0} → List X → Prog ℕ
pick [] = tell_missing
pick (x ∷ []) = ret 0
pick (x ∷ y ∷ xs) = choose (length xs) ret

-- ---- what a program looks at

abbrev pub world : Prog World
world = see λ t w. ret w

abbrev pub bean_at : ℕ → Prog Bean
bean_at b = see λ t w. require_present (t.bean b)

abbrev pub interceptor_at : ℕ → Prog Interceptor
interceptor_at i = see λ t w. require_present (t.interceptor i)

abbrev pub lookup_at : ℕ → ℕ → Prog Asked
lookup_at body k = see λ t w. require_present (t.lookup body k)

abbrev pub written_of : List Use → Prog (List Use)
written_of qualifiers = see λ t w. ret (t.written qualifiers)

abbrev pub groups_of : Name → List Use → Prog (List (List Observer))
groups_of class qualifiers = see λ t w. ret (t.observers class qualifiers)

abbrev pub text_of : Name → Prog (List ℕ)
text_of name = see λ t w. require_present (t.text name)

abbrev pub instance : ℕ → Prog Instance
instance n = see λ t w. require_present (instance_at w n)

-- the running invocation
abbrev pub top : {X : Type 0} → List X → Prog X
top [] = tell_missing
top (x ∷ xs) = ret x

abbrev pub invocation : Prog Invocation
invocation = see λ t w. top w.invocations

-- a context that is active, and what it has
pub record ActiveContext : Type 0 where
  pub context : Context
  pub has : Active

abbrev pub active_in : World → Option Context → Option ActiveContext
active_in w None = None
active_in w (Some c) = option_map (λ a. record { context = c; has = a }) (context_at w.contexts c)

abbrev pub active_or_raise : Option ActiveContext → Prog ActiveContext
active_or_raise None = raise built_in.ContextNotActiveException
active_or_raise (Some a) = ret a

-- the active context of a scope
abbrev pub context : Scope → Prog ActiveContext
context scope = see λ t w. active_or_raise (active_in w (context_of w.environment scope))

-- ---- limits

abbrev pub give_number : Bool → ℕ → Prog ℕ
give_number true n = ret n
give_number false n = cut causes.Numbers

-- the number of the next instance, if there is one
abbrev pub next_number : Prog ℕ
next_number = see λ t w. give_number (nat_lt w.next (2 ^ 32)) w.next

abbrev pub require_depth : Bool → Prog (Unit {0})
require_depth true = do_nothing
require_depth false = cut causes.Depth

-- one level of bodies deeper, if there is one
abbrev pub go_deeper : Prog (Unit {0})
go_deeper = see λ t w. require_depth (nat_lt (length w.bodies) w.depth)

-- ---- resolution and exceptions

abbrev pub require_one : Resolution → Prog ℕ
require_one (One b) = ret b
require_one Nothing = raise built_in.UnsatisfiedResolutionException
require_one Many = raise built_in.AmbiguousResolutionException

abbrev pub resolve : Asked → Prog ℕ
resolve asked = see λ t w. require_one (t.resolve asked)

-- a checked exception becomes another one
abbrev pub rethrow : {A : Type 0} → Name → BuiltIn → Prog A
rethrow x instead = see λ t w. elim (t.is_checked x) [ true ↦ raise instead | false ↦ throw x ]

abbrev pub require_number : Given → Prog ℕ
require_number (Number n) = ret n
require_number _ = tell_missing
