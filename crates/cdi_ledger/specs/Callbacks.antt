-- The bodies of pre-destroy chains and callbacks: that they run in the destruction of their instance alone.
use Rattle.std.specs.Prelude.{ℕ, ◌+◌, ◌≡◌, ◌≤◌, ◌⊎◌, List, [], ◌∷◌, map, Some, None}
use Rattle.cdi_base.specs.declared.act.Act.TheVariants as acts
use Rattle.cdi_base.specs.declared.entry.Entry.TheVariants as entries
use Rattle.cdi_base.specs.declared.place.Place.{Place}
use Rattle.cdi_base.specs.declared.place.Place.TheVariants as places
use Rattle.cdi_base.specs.declared.place.InterceptorMethod.{InterceptorMethod}
use Rattle.cdi_base.specs.declared.place.InterceptorMethod.TheVariants as roles
use Rattle.cdi_base.specs.declared.uses.Use.{Use}
use Rattle.cdi_base.specs.Maps.{at}
use Rattle.cdi_store.specs.declared.instance.Component.TheVariants as components
use Rattle.cdi_store.specs.declared.instance.Owner.TheVariants as owners
use Rattle.cdi_machine.specs.Words.{Name}
use Rattle.cdi_machine.specs.Tables.{Tables, Code, Method, Member, Step, Managed, Source, Product, Kind, Bean, Interceptor, Observer}
use Rattle.cdi_machine.specs.World.{World, at_begin}
use Rattle.cdi_machine.specs.Commands.{Command, task}
use Rattle.cdi_machine.specs.Runs.{Legal, Outcome, Runs}
use Rattle.cdi_machine.specs.Container.{State, refusal}
use Rattle.cdi_ledger.specs.Whose.{IsIn}
use Rattle.cdi_ledger.specs.Ledger.{Item, Wrote, Between, Born, items_of, fate}
use Rattle.cdi_ledger.specs.Stories.{Story}
use Rattle.cdi_ledger.specs.Ends.{Each, IsEnding, IsOfClass}

-- the bodies that a step of a plan runs on the instance
abbrev pub codes_in : Step → List Code
codes_in (Step.Construct points chain) = chain.callbacks
codes_in (Step.Initialize m points) = m ∷ []
codes_in (Step.Complete chain) = chain.callbacks
codes_in _ = []

-- the place is that of a method of a bean, of a body in its plan, of a producer, a disposer or an observer
pub data IsOrdinary (tables : Tables) : Place → Type 0 where
  method : (b : ℕ) (x : Bean) (c : Managed) (name : Name) (m : Method) → tables.bean b ≡ Some x
      → x.kind ≡ Kind.Class c
      → at c.methods name ≡ Some m
      → IsOrdinary tables m.code.place
  planned : (b : ℕ) (x : Bean) (c : Managed) (s : Step) (m : Code) → tables.bean b ≡ Some x
      → x.kind ≡ Kind.Class c
      → IsIn s c.plan
      → IsIn m (codes_in s)
      → IsOrdinary tables m.place
  producer : (b : ℕ) (x : Bean) (p : Product) (m : Member) → tables.bean b ≡ Some x
      → x.kind ≡ Kind.Producer p
      → p.source ≡ Source.ProducerMethod m
      → IsOrdinary tables m.code.place
  disposer : (b : ℕ) (x : Bean) (p : Product) (m : Member) → tables.bean b ≡ Some x
      → x.kind ≡ Kind.Producer p
      → IsIn m p.disposers
      → IsOrdinary tables m.code.place
  observer : (class : Name) (qualifiers : List Use) (group : List Observer) (o : Observer)
      → IsIn group (tables.observers class qualifiers)
      → IsIn o group
      → IsOrdinary tables o.member.code.place

-- A pre-destroy callback's place is no other body's, and an interceptor's places are its own.
pub record PlacesOfBodiesAreApart (tables : Tables) : Type 0 where
  pub callbacks : (b : ℕ) (x : Bean) (c : Managed) (m : Code) → tables.bean b ≡ Some x
      → x.kind ≡ Kind.Class c
      → IsIn m c.pre_destroy.callbacks
      → IsOrdinary tables m.place
      → ⊥
  pub not_interceptors : (b : ℕ) (x : Bean) (c : Managed) (m : Code) (name : Name)
      (role : InterceptorMethod)
      → tables.bean b ≡ Some x
      → x.kind ≡ Kind.Class c
      → IsIn m c.pre_destroy.callbacks
      → m.place ≡ places.Interceptor name role
      → ⊥
  pub interceptors : (name : Name) (role : InterceptorMethod)
      → IsOrdinary tables (places.Interceptor name role)
      → ⊥

-- A body of the pre-destroy chain and callbacks of n, an instance of the class: its place, and the instance on which it runs.
pub data IsFarewellOf (tables : Tables) (h : List Item) (n : ℕ) (c : Managed) : ℕ → Place → Type 0 where
  interceptor : (m i : ℕ) (y : Interceptor) → IsIn i c.pre_destroy.chain
      → IsIn (Born m (components.Interceptor i) (owners.Instance n)) h
      → tables.interceptor i ≡ Some y
      → IsFarewellOf tables h n c m (places.Interceptor y.name roles.PreDestroy)
  callback : (m : Code) → IsIn m c.pre_destroy.callbacks → IsFarewellOf tables h n c n m.place

-- where such a body starts, the destruction of n has begun and isn't over
abbrev pub IsInDestruction : Tables → Item → List Item → Type 0
IsInDestruction tables (Wrote (entries.Run m place)) h =
    (n : ℕ) (c : Managed) → IsOfClass tables h n c → IsFarewellOf tables h n c m place
    → IsEnding (fate n h)
IsInDestruction tables _ h = Unit {0}

abbrev pub FarewellsInDestruction : Tables → Legal → Type 0
FarewellsInDestruction tables legal =
    PlacesOfBodiesAreApart tables → (s : State) (h : List Item) → Story tables legal s h
    → Each (IsInDestruction tables) h

-- Also if memory runs out in one more command.
abbrev pub FarewellsInDestructionIfShort : Tables → Legal → Type 0
FarewellsInDestructionIfShort tables legal =
    PlacesOfBodiesAreApart tables
    → (s : State) (h : List Item) (c : Command) (o : Outcome) (v : World)
    → Story tables legal s h
    → refusal tables s c ≡ None
    → (r : Runs tables legal (Unit {0}) (task c) (at_begin s.world) o v)
    → Each (IsInDestruction tables) (items_of h r)

-- ---- the first of these bodies

-- the latest item is the mark of n
abbrev pub IsMark : ℕ → List Item → Type 0
IsMark n (Between m ∷ h) = m ≡ n
IsMark n _ = ⊥

-- the latest item is that a body proceeded
abbrev pub IsProceed : List Item → Type 0
IsProceed (Wrote (entries.Did (acts.Proceed args)) ∷ h) = Unit {0}
IsProceed _ = ⊥

-- the body is the first of the pre-destroy chain and callbacks of n
abbrev pub IsFirstOf : Tables → List Item → ℕ → List ℕ → List Code → ℕ → Place → Type 0
IsFirstOf tables h n (i ∷ chain) callbacks m place =
    (y : Interceptor) × IsIn (Born m (components.Interceptor i) (owners.Instance n)) h
    × (tables.interceptor i ≡ Some y)
    × (place ≡ places.Interceptor y.name roles.PreDestroy)
IsFirstOf tables h n [] (k ∷ callbacks) m place = (m ≡ n) × (k.place ≡ place)
IsFirstOf tables h n [] [] m place = ⊥

-- Right behind the mark. A callback without an interceptor before it may also be run again, by a body that proceeds: then a
-- `did proceed` stands right before it.
abbrev pub IsBegun : ℕ → List ℕ → List Item → Type 0
IsBegun n [] h = IsMark n h ⊎ IsProceed h
IsBegun n (i ∷ chain) h = IsMark n h

-- the first body starts nowhere else
abbrev pub IsBegunOnly : Tables → Item → List Item → Type 0
IsBegunOnly tables (Wrote (entries.Run m place)) h =
    (n : ℕ) (c : Managed) → IsOfClass tables h n c
    → IsFirstOf tables h n c.pre_destroy.chain c.pre_destroy.callbacks m place
    → IsBegun n c.pre_destroy.chain h
IsBegunOnly tables _ h = Unit {0}

-- The first interceptor stands in its chain once, and the first callback's place is no further one's.
pub record FirstsStandOnce (tables : Tables) : Type 0 where
  pub interceptors : (b : ℕ) (x : Bean) (c : Managed) (i : ℕ) (chain : List ℕ)
      → tables.bean b ≡ Some x
      → x.kind ≡ Kind.Class c
      → c.pre_destroy.chain ≡ i ∷ chain
      → IsIn i chain
      → ⊥
  pub callbacks : (b : ℕ) (x : Bean) (c : Managed) (m : Code) (more : List Code)
      → tables.bean b ≡ Some x
      → x.kind ≡ Kind.Class c
      → c.pre_destroy.callbacks ≡ m ∷ more
      → IsIn m.place (map (λ k. k.place) more)
      → ⊥

abbrev pub BeginsOnlyAtMark : Tables → Legal → Type 0
BeginsOnlyAtMark tables legal =
    PlacesOfBodiesAreApart tables → FirstsStandOnce tables
    → (s : State) (h : List Item) → Story tables legal s h
    → Each (IsBegunOnly tables) h

-- Also if memory runs out in one more command.
abbrev pub BeginsOnlyAtMarkIfShort : Tables → Legal → Type 0
BeginsOnlyAtMarkIfShort tables legal =
    PlacesOfBodiesAreApart tables → FirstsStandOnce tables
    → (s : State) (h : List Item) (c : Command) (o : Outcome) (v : World)
    → Story tables legal s h
    → refusal tables s c ≡ None
    → (r : Runs tables legal (Unit {0}) (task c) (at_begin s.world) o v)
    → Each (IsBegunOnly tables) (items_of h r)

-- ---- counted

-- so often it holds of an item and those before it
pub data Holds (P : Item → List Item → Type 0) : List Item → ℕ → Type 0 where
  never : Holds P [] 0
  once_more : {x : Item} {h : List Item} {k : ℕ} → P x h → Holds P h k → Holds P (x ∷ h) (k + 1)
  passes : {x : Item} {h : List Item} {k : ℕ} → (P x h → ⊥) → Holds P h k → Holds P (x ∷ h) k

-- the first body of the pre-destroy chain and callbacks of n, an instance of the class, starts
abbrev pub StartsFarewell : Tables → ℕ → Managed → Item → List Item → Type 0
StartsFarewell tables n c (Wrote (entries.Run m place)) h =
    IsOfClass tables h n c
    × IsFirstOf tables h n c.pre_destroy.chain c.pre_destroy.callbacks m place
StartsFarewell tables n c _ h = ⊥

-- If it is an interceptor's, it starts at most once.
abbrev pub StartsAtMostOnce : Tables → Legal → Type 0
StartsAtMostOnce tables legal =
    PlacesOfBodiesAreApart tables → FirstsStandOnce tables
    → (s : State) (h : List Item) → Story tables legal s h
    → (n k i : ℕ) (c : Managed) (chain : List ℕ) → c.pre_destroy.chain ≡ i ∷ chain
    → Holds (StartsFarewell tables n c) h k
    → k ≤ 1
