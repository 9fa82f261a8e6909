-- How the instances lie in their slots: what a contract sees of a store, and what is true of every store.
use Rattle.std.specs.Prelude.{◌≡◌, ◌≢◌, ℕ, ◌<◌, ◌≤◌, ◌^◌, List, [], ◌∷◌, Option, Some, None, IsSome, map, slice_index_or, option_map}
use Rattle.std.specs.List.{AllByRecursion}
use Rattle.slab.specs.Slab.{Slab, get, SameValues}
use Rattle.cdi_base.specs.Maps.{Map}
use Rattle.cdi_store.specs.declared.instance.Instance.{Instance}
use Rattle.cdi_store.specs.declared.key.Key.{Key}
use Rattle.cdi_store.specs.Live.{Instances, Kept}
use Rattle.cdi_store.specs.Owned.{AreOwned}

abbrev pub Slots : Type 0
Slots = List (Option Instance)

abbrev pub slot_at : Slots → ℕ → Option Instance
slot_at slots k = slice_index_or slots k None

-- the instances with one in front, if there is one
abbrev pub preceded : ℕ → Option Instance → Instances → Instances
preceded n None live = live
preceded n (Some o) live = (n, o) ∷ live

-- the instances that lie in the slots of these numbers
abbrev pub instances_in : Slots → Map ℕ → Instances
instances_in slots [] = []
instances_in slots (p ∷ more) = preceded p.0 (slot_at slots p.1) (instances_in slots more)

abbrev pub kept_in : Slots → Map ℕ → ℕ → Kept
kept_in slots numbers next =
    record { instances = instances_in slots numbers; slots = numbers; next = next }

-- each number is below the later ones
abbrev pub AreRising : Map ℕ → Type 0
AreRising [] = Unit {0}
AreRising (p ∷ more) = AllByRecursion (λ q. p.0 < q.0) more × AreRising more

-- no two numbers have one slot
abbrev pub AreApart : Map ℕ → Type 0
AreApart [] = Unit {0}
AreApart (p ∷ more) = AllByRecursion (λ q. q.1 ≢ p.1) more × AreApart more

abbrev pub AreBelow : ℕ → Map ℕ → Type 0
AreBelow next numbers = AllByRecursion (λ p. p.0 < next) numbers

abbrev pub AreFromOne : Map ℕ → Type 0
AreFromOne numbers = AllByRecursion (λ p. 0 < p.0) numbers

-- each number's slot has an instance
abbrev pub AreOccupied : Slots → Map ℕ → Type 0
AreOccupied slots numbers = AllByRecursion (λ p. IsSome (slot_at slots p.1)) numbers

pub record IsSound (slots : Slots) (numbers : Map ℕ) (next : ℕ) : Type 0 where
  pub rising : AreRising numbers
  pub below : AreBelow next numbers
  pub from_one : AreFromOne numbers
  pub apart : AreApart numbers
  pub occupied : AreOccupied slots numbers
  pub positive : 0 < next
  pub most : next ≤ 2 ^ 32

-- what is true of every store
pub record IsKept (slots : Slots) (numbers : Map ℕ) (next : ℕ) : Type 0 where
  pub sound : IsSound slots numbers next
  pub owned : AreOwned (instances_in slots numbers) next

-- The numbers of the live instances rise, each is below the next one, and no two instances have one slot.
pub record IsOrderly (kept : Kept) : Type 0 where
  pub rising : AreRising kept.slots
  pub below : AreBelow kept.next kept.slots
  pub apart : AreApart kept.slots
  pub numbers : map (λ p. p.0) kept.instances ≡ map (λ p. p.0) kept.slots

-- the instance in a slot is changed by f, and the other slots stay
pub record Changes (old new : Slab Instance) (slot : ℕ) (f : Instance → Instance) : Type 0 where
  pub changed : get new slot ≡ option_map f (get old slot)
  pub others : (other : ℕ) → other ≢ slot → get new other ≡ get old other

-- the same for the slot of a key, if there is one
abbrev pub ChangesAt : Slab Instance → Slab Instance → Option Key → (Instance → Instance) → Type 0
ChangesAt old new None f = SameValues old new
ChangesAt old new (Some key) f = Changes old new key.slot f
