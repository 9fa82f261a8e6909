-- How a destruction begins: what stands right behind its mark.
use Rattle.std.specs.Prelude.{ℕ, ◌≡◌, ◌≤◌, List, [], ◌∷◌, Some, None}
use Rattle.cdi_base.specs.declared.entry.Entry.TheVariants as entries
use Rattle.cdi_base.specs.declared.place.Place.TheVariants as places
use Rattle.cdi_base.specs.declared.place.InterceptorMethod.TheVariants as roles
use Rattle.cdi_store.specs.declared.instance.Component.{Component}
use Rattle.cdi_store.specs.declared.instance.Component.TheVariants as components
use Rattle.cdi_store.specs.declared.instance.Owner.{Owner}
use Rattle.cdi_store.specs.declared.instance.Owner.TheVariants as owners
use Rattle.cdi_machine.specs.Tables.{Tables, Code, Managed, Interceptor}
use Rattle.cdi_machine.specs.World.{World, at_begin}
use Rattle.cdi_machine.specs.Commands.{Command, task}
use Rattle.cdi_machine.specs.Runs.{Legal, Outcome, Runs}
use Rattle.cdi_machine.specs.Container.{State, refusal}
use Rattle.cdi_ledger.specs.Whose.{IsIn}
use Rattle.cdi_ledger.specs.Ledger.{Item, Wrote, Between, Born, items_of}
use Rattle.cdi_ledger.specs.Stories.{Story}
use Rattle.cdi_ledger.specs.Ends.{Each, IsOfClass, marks}
use Rattle.cdi_ledger.specs.Callbacks.{IsMark, IsFirstOf, Holds, StartsFarewell, PlacesOfBodiesAreApart, FirstsStandOnce, IsInDestruction}
use Rattle.cdi_whole.specs.Fits.{Fits}

-- The first body of a pre-destroy chain, and of the callbacks at its end, starts: that of the first interceptor, on the
-- instance's own instance of it; or that of the first callback, on the instance. If there is neither, any item will do.
abbrev pub IsFirstStart : Tables → List Item → ℕ → List ℕ → List Code → Item → Type 0
IsFirstStart tables h n (i ∷ chain) callbacks x =
    (m : ℕ) × (y : Interceptor) × IsIn (Born m (components.Interceptor i) (owners.Instance n)) h
    × (tables.interceptor i ≡ Some y)
    × (x ≡ Wrote (entries.Run m (places.Interceptor y.name roles.PreDestroy)))
IsFirstStart tables h n [] (m ∷ callbacks) x = x ≡ Wrote (entries.Run n m.place)
IsFirstStart tables h n [] [] x = Unit {0}

-- an instance got the number
abbrev pub IsBorn : ℕ → List Item → Type 0
IsBorn n h = (component : Component) × (owner : Owner) × IsIn (Born n component owner) h

-- right behind the mark of an instance the first body of its class's pre-destroy chain and callbacks starts
abbrev pub IsRightBehindMark : Tables → Item → List Item → Type 0
IsRightBehindMark tables x (Between n ∷ h) =
    IsBorn n h
    × ((c : Managed) → IsOfClass tables h n c
    → IsFirstStart tables h n c.pre_destroy.chain c.pre_destroy.callbacks x)
IsRightBehindMark tables x _ = Unit {0}

-- If the tables and the bodies fit one another, whatever stands right behind a mark is that.
abbrev pub BeginsAtMark : Tables → Legal → Type 0
BeginsAtMark tables legal =
    Fits tables legal → (s : State) (h : List Item) → Story tables legal s h
    → Each (IsRightBehindMark tables) h

-- Also if memory runs out in one more command.
abbrev pub BeginsAtMarkIfShort : Tables → Legal → Type 0
BeginsAtMarkIfShort tables legal =
    Fits tables legal → (s : State) (h : List Item) (c : Command) (o : Outcome) (v : World)
    → Story tables legal s h
    → refusal tables s c ≡ None
    → (r : Runs tables legal (Unit {0}) (task c) (at_begin s.world) o v)
    → Each (IsRightBehindMark tables) (items_of h r)

-- ---- each destruction begins its callbacks exactly once

-- the first body starts nowhere but right behind the mark
abbrev pub StartsAtMarkOnly : Tables → Item → List Item → Type 0
StartsAtMarkOnly tables (Wrote (entries.Run m place)) h =
    (n : ℕ) (c : Managed) → IsOfClass tables h n c
    → IsFirstOf tables h n c.pre_destroy.chain c.pre_destroy.callbacks m place
    → IsMark n h
StartsAtMarkOnly tables _ h = Unit {0}

-- there is a first body
abbrev pub HasFirst : List ℕ → List Code → Type 0
HasFirst [] [] = ⊥
HasFirst _ _ = Unit {0}

pub record BeginsOnce (tables : Tables) (h : List Item) : Type 0 where
  -- its mark stands at most once, and once where the instance is gone
  pub marked : (n : ℕ) → (marks n h ≤ 1) × (IsIn (Wrote (entries.Gone n)) h → marks n h ≡ 1)
  -- what stands right behind the mark is the start of the first body
  pub begins : Each (IsRightBehindMark tables) h
  -- which starts nowhere else
  pub only : Each (StartsAtMarkOnly tables) h
  -- and so at most once, and once where the instance is gone
  pub once : (n k : ℕ) (c : Managed) → Holds (StartsFarewell tables n c) h k
      → (k ≤ 1) × (IsOfClass tables h n c
      → HasFirst c.pre_destroy.chain c.pre_destroy.callbacks
      → IsIn (Wrote (entries.Gone n)) h
      → k ≡ 1)
  -- and each of the bodies only between the end of the instance and its `gone`
  pub within : Each (IsInDestruction tables) h

-- If the tables and the bodies fit one another, and the tables tell the bodies of a destruction from all others.
abbrev pub DestructionsBeginOnce : Tables → Legal → Type 0
DestructionsBeginOnce tables legal =
    Fits tables legal → PlacesOfBodiesAreApart tables → FirstsStandOnce tables
    → (s : State) (h : List Item) → Story tables legal s h
    → BeginsOnce tables h

-- Also if memory runs out in one more command.
abbrev pub DestructionsBeginOnceIfShort : Tables → Legal → Type 0
DestructionsBeginOnceIfShort tables legal =
    Fits tables legal → PlacesOfBodiesAreApart tables → FirstsStandOnce tables
    → (s : State) (h : List Item) (c : Command) (o : Outcome) (v : World)
    → Story tables legal s h
    → refusal tables s c ≡ None
    → (r : Runs tables legal (Unit {0}) (task c) (at_begin s.world) o v)
    → BeginsOnce tables (items_of h r)
