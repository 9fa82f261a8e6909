-- How destructions and creations end, and what runs in a destruction.
use Rattle.std.specs.Prelude.{ℕ, ◌+◌, ◌≡◌, ◌<◌, ◌≤◌, ◌⊎◌, List, [], ◌∷◌, map, Bool, true, false, Some, None, nat_eq}
use Rattle.cdi_base.specs.declared.act.Act.TheVariants as acts
use Rattle.cdi_base.specs.declared.entry.Entry.TheVariants as entries
use Rattle.cdi_base.specs.declared.place.Place.{Place}
use Rattle.cdi_base.specs.declared.place.Place.TheVariants as places
use Rattle.cdi_base.specs.declared.scope.Scope.{Scope}
use Rattle.cdi_base.specs.declared.scope.Scope.TheVariants as scopes
use Rattle.cdi_base.specs.Maps.{at}
use Rattle.cdi_store.specs.declared.instance.Component.{Component}
use Rattle.cdi_store.specs.declared.instance.Component.TheVariants as components
use Rattle.cdi_store.specs.declared.instance.Instance.{Instance}
use Rattle.cdi_store.specs.declared.instance.Context.{Context}
use Rattle.cdi_store.specs.declared.instance.Context.TheVariants.{Application, Session, Request}
use Rattle.cdi_store.specs.declared.instance.Owner.{Owner}
use Rattle.cdi_store.specs.declared.instance.Owner.TheVariants as owners
use Rattle.cdi_machine.specs.Tables.{Tables, Method, Managed, Kind, Bean, Interceptor}
use Rattle.cdi_machine.specs.World.{World, at_begin, instance_at}
use Rattle.cdi_machine.specs.Programs.{Given, Completion, Gave}
use Rattle.cdi_machine.specs.Commands.{Command, task}
use Rattle.cdi_machine.specs.Runs.{Legal, Outcome, Ends, Runs}
use Rattle.cdi_machine.specs.Container.{State, refusal}
use Rattle.cdi_ledger.specs.Ledger.{Item, Wrote, Between, Born, items_of, Fate, Unborn, Made, Readied, Ended, Left, Lost, Wrong, fate, InSequence}
use Rattle.cdi_ledger.specs.Stories.{Story}
use Rattle.cdi_ledger.specs.Whose.{IsIn, IsTidy, RefersToItsOwn}

-- ---- what is under way

-- its destruction has begun, and isn't over
abbrev pub IsEnding : Fate → Type 0
IsEnding Ended = Unit {0}
IsEnding Left = Unit {0}
IsEnding _ = ⊥

-- its creation or its destruction has begun, and isn't over
abbrev pub IsUnderWay : Fate → Type 0
IsUnderWay Made = Unit {0}
IsUnderWay Ended = Unit {0}
IsUnderWay Left = Unit {0}
IsUnderWay _ = ⊥

-- its destruction has begun, or it was dropped
abbrev pub IsOver : Fate → Type 0
IsOver Ended = Unit {0}
IsOver Left = Unit {0}
IsOver Lost = Unit {0}
IsOver _ = ⊥

-- ---- each of the items, at its place

-- it holds of each item and those before it
abbrev pub Each : (Item → List Item → Type 0) → List Item → Type 0
Each P [] = Unit {0}
Each P (x ∷ h) = P x h × Each P h

-- what was there when its destruction began
abbrev pub if_ended : Bool → List Item → List Item → List Item
if_ended true h k = h
if_ended false h k = k

abbrev pub before_end : ℕ → List Item → List Item
before_end n [] = []
before_end n (Wrote (entries.End m) ∷ h) = if_ended (nat_eq m n) h (before_end n h)
before_end n (_ ∷ h) = before_end n h

-- Where an instance is gone, each destruction that began since its own is over; and those that were under way when its own
-- began still are.
abbrev pub IsNestedEnd : Item → List Item → Type 0
IsNestedEnd (Wrote (entries.Gone n)) h =
    (m : ℕ) → (m ≡ n → ⊥)
    → (IsEnding (fate m h) → IsEnding (fate m (before_end n h)))
    × (IsEnding (fate m (before_end n h)) → IsEnding (fate m h))
IsNestedEnd _ h = Unit {0}

abbrev pub EndsNested : Tables → Legal → Type 0
EndsNested tables legal =
    (s : State) (h : List Item) → Story tables legal s h → Each IsNestedEnd h

-- Also if memory runs out in one more command.
abbrev pub EndsNestedIfShort : Tables → Legal → Type 0
EndsNestedIfShort tables legal =
    (s : State) (h : List Item) (c : Command) (o : Outcome) (v : World)
    → Story tables legal s h
    → refusal tables s c ≡ None
    → (r : Runs tables legal (Unit {0}) (task c) (at_begin s.world) o v)
    → Each IsNestedEnd (items_of h r)

-- ---- births

-- n is an instance of the bean, which is a managed bean of this class
pub record IsOfClass (tables : Tables) (h : List Item) (n : ℕ) (c : Managed) : Type 0 where
  pub index : ℕ
  pub owner : Owner
  pub born : IsIn (Born n (components.Bean index) owner) h
  pub bean : Bean
  pub known : tables.bean index ≡ Some bean
  pub is : bean.kind ≡ Kind.Class c

-- the place is that of the component
pub record IsNamed (tables : Tables) (component : Component) (place : Place) : Type 0 where
  pub bean : (b : ℕ) → component ≡ components.Bean b
      → (x : Bean) × (tables.bean b ≡ Some x) × (x.place ≡ place)
  pub interceptor : (i : ℕ) → component ≡ components.Interceptor i
      → (x : Interceptor) × (tables.interceptor i ≡ Some x) × (places.Class x.name ≡ place)

-- an instance is born right behind its `new`, which carries the place of its component
abbrev pub IsNew : Tables → ℕ → Component → List Item → Type 0
IsNew tables n component (Wrote (entries.New m place) ∷ h) = (m ≡ n) × IsNamed tables component place
IsNew tables n component _ = ⊥

abbrev pub IsBornAsWritten : Tables → Item → List Item → Type 0
IsBornAsWritten tables (Born n component owner) h = IsNew tables n component h
IsBornAsWritten tables _ h = Unit {0}

-- and nothing else stands behind a `new`
abbrev pub IsBirth : Item → ℕ → Type 0
IsBirth (Born m component owner) n = m ≡ n
IsBirth _ n = ⊥

abbrev pub IsBirthBehindNew : Item → List Item → Type 0
IsBirthBehindNew x (Wrote (entries.New n place) ∷ h) = IsBirth x n
IsBirthBehindNew x _ = Unit {0}

abbrev pub IsNoNew : List Item → Type 0
IsNoNew (Wrote (entries.New n place) ∷ h) = ⊥
IsNoNew _ = Unit {0}

-- ---- one instance of a bean in a context

-- another one only after the destruction of the first began, or it was dropped
abbrev pub OneAtATime : Item → List Item → Type 0
OneAtATime (Born n component (owners.Context c)) h =
    (m : ℕ) → IsIn (Born m component (owners.Context c)) h → IsOver (fate m h)
OneAtATime _ h = Unit {0}

-- whose an instance of a bean with this scope can be
abbrev pub Suits : Scope → Owner → Type 0
Suits scopes.ApplicationScoped owner = owner ≡ owners.Context Application
Suits scopes.SessionScoped owner = (s : List ℕ) × (owner ≡ owners.Context (Session s))
Suits scopes.RequestScoped owner = (r : List ℕ) × (owner ≡ owners.Context (Request r))
Suits scopes.Dependent owner = (c : Context) → owner ≡ owners.Context c → ⊥

abbrev pub SuitsItsScope : Tables → Item → List Item → Type 0
SuitsItsScope tables (Born n (components.Bean b) owner) h =
    (x : Bean) → tables.bean b ≡ Some x → Suits x.scope owner
SuitsItsScope tables (Born n (components.Interceptor i) owner) h =
    (m : ℕ) × (owner ≡ owners.Instance m)
SuitsItsScope tables _ h = Unit {0}

abbrev pub OneInAContext : Tables → Legal → Type 0
OneInAContext tables legal =
    (s : State) (h : List Item) → Story tables legal s h
    → Each OneAtATime h × Each (SuitsItsScope tables) h × Each (IsBornAsWritten tables) h
    × Each IsBirthBehindNew h × IsNoNew h

-- Also if memory runs out in one more command, but for the birth behind a `new` that is the last item.
abbrev pub OneInAContextIfShort : Tables → Legal → Type 0
OneInAContextIfShort tables legal =
    (s : State) (h : List Item) (c : Command) (o : Outcome) (v : World)
    → Story tables legal s h
    → refusal tables s c ≡ None
    → (r : Runs tables legal (Unit {0}) (task c) (at_begin s.world) o v)
    → Each OneAtATime (items_of h r) × Each (SuitsItsScope tables) (items_of h r)
    × Each (IsBornAsWritten tables) (items_of h r) × Each IsBirthBehindNew (items_of h r)

-- The same over the entries alone, where places tell beans apart from each other and from interceptors.
pub record PlacesAreApart (tables : Tables) : Type 0 where
  pub beans : (a b : ℕ) (x y : Bean) → tables.bean a ≡ Some x → tables.bean b ≡ Some y
      → x.place ≡ y.place
      → a ≡ b
  pub interceptors : (a i : ℕ) (x : Bean) (y : Interceptor) → tables.bean a ≡ Some x
      → tables.interceptor i ≡ Some y
      → x.place ≡ places.Class y.name
      → ⊥

abbrev pub OnceByPlace : Tables → Item → List Item → Type 0
OnceByPlace tables (Wrote (entries.New n place)) h =
    (b : ℕ) (bean : Bean) → tables.bean b ≡ Some bean → bean.place ≡ place
    → bean.scope ≡ scopes.ApplicationScoped
    → (m : ℕ) → IsIn (Wrote (entries.New m place)) h → IsOver (fate m h)
OnceByPlace tables _ h = Unit {0}

abbrev pub OneOfTheApplication : Tables → Legal → Type 0
OneOfTheApplication tables legal =
    PlacesAreApart tables → (s : State) (h : List Item) → Story tables legal s h
    → Each (OnceByPlace tables) h

-- ---- order

-- Numbers are given from 1 without a gap; each goes its way; of an application-scoped bean there is one instance at a time,
-- where places tell beans apart; destructions are nested.
pub record IsOrdered (tables : Tables) (h : List Item) : Type 0 where
  pub numbered : InSequence h
  pub each_way : (n : ℕ) → fate n h ≡ Wrong → ⊥
  pub one_at_a_time : PlacesAreApart tables → Each (OnceByPlace tables) h
  pub nested : Each IsNestedEnd h

abbrev pub OrdersAll : Tables → Legal → Type 0
OrdersAll tables legal =
    (s : State) (h : List Item) → Story tables legal s h → IsOrdered tables h

-- ---- bodies on an instance whose destruction has begun

-- the method was called by the body's own act, which stands right before it
abbrev pub IsOwn : Managed → Place → List Item → Type 0
IsOwn c place (Wrote (entries.Did (acts.Own name args)) ∷ h) =
    (m : Method) × (at c.methods name ≡ Some m) × (m.code.place ≡ place)
IsOwn c place _ = ⊥

-- a pre-destroy callback of the class, or a method that its own body calls
abbrev pub IsFarewell : Tables → Item → List Item → Type 0
IsFarewell tables (Wrote (entries.Run n place)) h =
    IsEnding (fate n h)
    → (c : Managed) × (IsOfClass tables h n c
    × (IsIn place (map (λ m. m.place) c.pre_destroy.callbacks) ⊎ IsOwn c place h))
IsFarewell tables _ h = Unit {0}

-- it is being made, is ready, or is being destroyed
abbrev pub IsAlive : Fate → Type 0
IsAlive Made = Unit {0}
IsAlive Readied = Unit {0}
IsAlive Ended = Unit {0}
IsAlive Left = Unit {0}
IsAlive _ = ⊥

-- a body starts only on what is alive
abbrev pub IsOnLiving : Item → List Item → Type 0
IsOnLiving (Wrote (entries.Run n place)) h = IsAlive (fate n h)
IsOnLiving _ h = Unit {0}

abbrev pub BodiesAreFarewells : Tables → Legal → Type 0
BodiesAreFarewells tables legal =
    (s : State) (h : List Item) → Story tables legal s h
    → Each IsOnLiving h × Each (IsFarewell tables) h

-- Also if memory runs out in one more command.
abbrev pub BodiesAreFarewellsIfShort : Tables → Legal → Type 0
BodiesAreFarewellsIfShort tables legal =
    (s : State) (h : List Item) (c : Command) (o : Outcome) (v : World)
    → Story tables legal s h
    → refusal tables s c ≡ None
    → (r : Runs tables legal (Unit {0}) (task c) (at_begin s.world) o v)
    → Each IsOnLiving (items_of h r) × Each (IsFarewell tables) (items_of h r)

-- ---- nothing is left under way, and what is left after a shutdown

abbrev pub IsEnd : Outcome → Type 0
IsEnd (Ends c) = Unit {0}
IsEnd (Outcome.Cut cause) = ⊥

-- What a command that isn't cut leaves: no creation and no destruction is under way, and each live instance stands with its
-- owner.
abbrev pub LeavesTidy : Tables → Legal → Type 0
LeavesTidy tables legal =
    (s : State) (h : List Item) → Story tables legal s h → s.halted ≡ false
    → ((n : ℕ) → IsUnderWay (fate n h) → ⊥) × IsTidy s.world

-- At the end of each command, cut or not, each injected field that refers to a live instance refers to a dependent of its own.
abbrev pub RefersOwn : Tables → Legal → Type 0
RefersOwn tables legal =
    (s : State) (h : List Item) → Story tables legal s h → RefersToItsOwn s.world

-- ---- marks

abbrev pub one_more_if : Bool → ℕ → ℕ
one_more_if true k = k + 1
one_more_if false k = k

-- how often the mark of n stands
abbrev pub marks : ℕ → List Item → ℕ
marks n [] = 0
marks n (Between m ∷ h) = one_more_if (nat_eq m n) (marks n h)
marks n (_ ∷ h) = marks n h

-- Each mark stands at most once, and once where the instance is gone.
abbrev pub MarksOnce : Tables → Legal → Type 0
MarksOnce tables legal =
    (s : State) (h : List Item) → Story tables legal s h
    → (n : ℕ) → (marks n h ≤ 1) × (IsIn (Wrote (entries.Gone n)) h → marks n h ≡ 1)

-- Also if memory runs out in one more command.
abbrev pub MarksOnceIfShort : Tables → Legal → Type 0
MarksOnceIfShort tables legal =
    (s : State) (h : List Item) (c : Command) (o : Outcome) (v : World)
    → Story tables legal s h
    → refusal tables s c ≡ None
    → (r : Runs tables legal (Unit {0}) (task c) (at_begin s.world) o v)
    → (n : ℕ) → (marks n (items_of h r) ≤ 1) × (IsIn (Wrote (entries.Gone n)) (items_of h r) → marks n (items_of h r) ≡ 1)

-- ---- owners

-- At the end of each command, cut or not, an owner's number is smaller than what it owns.
abbrev pub OwnersAreSmaller : Tables → Legal → Type 0
OwnersAreSmaller tables legal =
    (s : State) (h : List Item) → Story tables legal s h
    → (n m : ℕ) (o : Instance) → instance_at s.world n ≡ Some o → o.owner ≡ owners.Instance m
    → m < n

-- ---- after a shutdown

-- A shutdown that isn't cut is answered that it is done, and every number that was given is lost.
abbrev pub LeavesNothing : Tables → Legal → Type 0
LeavesNothing tables legal =
    (s : State) (h : List Item) → Story tables legal s h
    → refusal tables s Command.Shutdown ≡ None
    → (d : Completion Given) (v : World)
    → (r : Runs tables legal ⊥ (task Command.Shutdown) (at_begin s.world) (Ends d) v)
    → ((g : Given) × (d ≡ Gave g)) × (v.instances ≡ [])
    × ((n : ℕ) → (fate n (items_of h r) ≡ Unborn) ⊎ (fate n (items_of h r) ≡ Lost))
