-- Requests or sessions in their slots, in the order in which they came.
use Rattle.std.specs.Prelude.{◌≡◌, ℕ, Bool, true, ◌∷◌, [], List, map, Option, Some, None, is_some, option_map}
use Rattle.std.specs.Borrow.{Bor}
use Rattle.slab.specs.Slab.{Slab, get}
use Rattle.cdi_base.specs.Maps.{Map, at, adjusted, without}
use Rattle.cdi_contexts.specs.Named.{named}
use Rattle.cdi_store.specs.NameIndex.{slot_of}
use Rattle.cdi_contexts.specs.Contexts.{Active, OpenRequest, OpenSession, fresh}
use Rattle.cdi_contexts.specs.Standing.{Standing, first_open, request_at, session_at}
use Rattle.cdi_contexts.specs.declared.group.Kept.{Kept}
use Rattle.cdi_store.specs.declared.name_index.NameIndex.{NameIndex}

module _ {D : Type 0} where
  -- a request or a session at its begin
  abbrev pub at_begin : List ℕ → D → Kept D
  at_begin name detail = record { name = name; detail = detail; table = fresh }

  -- what is there by its name
  abbrev pub kept_named : Map (Kept D) → List ℕ → Option (ℕ × Kept D)
  kept_named = named (λ p. p.1.name)

  -- what a context has, changed
  abbrev pub with_table : ℕ → (Active → Active) → Map (Kept D) → Map (Kept D)
  with_table slot f = adjusted slot (λ k. record k { table = f k.table })

  abbrev pub shown : ℕ × Bor (Kept D) → ℕ × Kept D
  shown p = (p.0, p.1.now)

  -- the first that isn't being destroyed
  abbrev pub first_kept : Map (Kept D) → Option (ℕ × Kept D)
  first_kept = first_open (λ p. p.1.table)

  -- what the context in a slot has
  abbrev pub table_at : Map (Kept D) → Option ℕ → Option Active
  table_at m None = None
  table_at m (Some slot) = option_map (λ k. k.table) (at m slot)

  -- the same where there may be no slot
  abbrev pub with_table_at : Option ℕ → (Active → Active) → Map (Kept D) → Map (Kept D)
  with_table_at None f m = m
  with_table_at (Some slot) f m = with_table slot f m

  -- without what is in the slot, if there is one
  abbrev pub without_at : Option ℕ → Map (Kept D) → Map (Kept D)
  without_at None m = m
  without_at (Some slot) m = without slot m

  -- the slots with the names
  abbrev pub outline : Map (Kept D) → List (ℕ × List ℕ)
  outline m = map (λ p. (p.0, p.1.name)) m

-- no two have one slot or one name
abbrev pub AreApart : List (ℕ × List ℕ) → Type 0
AreApart [] = Unit {0}
AreApart (p ∷ more) = (at more p.0 ≡ None) × (named (λ q. q.1) more p.1 ≡ None) × AreApart more

-- each name has the slot of what has it, if there is one
abbrev pub IsIndexOf : List (ℕ × List ℕ) → NameIndex → Type 0
IsIndexOf o index =
    (name : List ℕ) → slot_of index name ≡ option_map (λ p. p.0) (named (λ q. q.1) o name)

-- a slot is taken exactly if something stands in it
abbrev pub AreTaken : {X Y : Type 0} → Slab Y → Map X → Type 0
AreTaken taken m = (slot : ℕ) → is_some (get taken slot) ≡ is_some (at m slot)

-- a request and a session
abbrev pub request_of : Kept (Option (List ℕ)) → OpenRequest
request_of k = record { name = k.name; session = k.detail; active = k.table }

abbrev pub session_of : Kept Bool → OpenSession
session_of k = record { name = k.name; is_marked = k.detail; active = k.table }

-- a request and a session that were found
abbrev pub request_found : ℕ × Bor (Kept (Option (List ℕ))) → OpenRequest
request_found p = request_of p.1.now

abbrev pub session_found : ℕ × Bor (Kept Bool) → OpenSession
session_found p = session_of p.1.now

-- what was found stands in the slot that it was found in
abbrev pub IsRequestOf : Standing → ℕ × Bor (Kept (Option (List ℕ))) → Type 0
IsRequestOf s p = request_at s p.0 ≡ Some (request_found p)

abbrev pub IsSessionOf : Standing → ℕ × Bor (Kept Bool) → Type 0
IsSessionOf s p = session_at s p.0 ≡ Some (session_found p)

abbrev pub standing : Option Active → Map (Kept (Option (List ℕ))) → Map (Kept Bool) → Standing
standing application requests sessions =
    record {
      contexts = record {
        application = application;
        requests = map (λ p. request_of p.1) requests;
        sessions = map (λ p. session_of p.1) sessions;
      };
      request_slots = map (λ p. p.0) requests;
      session_slots = map (λ p. p.0) sessions;
    }

-- a session with a mark
abbrev pub marked : Kept Bool → Kept Bool
marked k = record k { detail = true }
