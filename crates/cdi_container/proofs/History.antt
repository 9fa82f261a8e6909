-- What a container has written since its start is in order, and each destruction begins its callbacks exactly once, since so it is in
-- each story of the machine.
use Rattle.std.proofs.Common.{◌≡◌, List, length, None, refl, sym, subst}
use Rattle.cdi_whole.specs.Beginnings.{BeginsOnce}
use Rattle.cdi_ledger.specs.Ledger as ledger
use Rattle.cdi_ledger.specs.Ledger.{Item, items_of, InOrder, Ledger, KeepsOrderIfShort}
use Rattle.cdi_ledger.specs.Stories.{Story}
use Rattle.cdi_machine.specs.Commands.{Command, task}
use Rattle.cdi_machine.specs.Container.{State, idle_state, refusal}
use Rattle.cdi_machine.specs.Runs.{Legal, Outcome, Runs}
use Rattle.cdi_machine.specs.Tables.{Tables}
use Rattle.cdi_machine.specs.World.{World, at_begin}
use Rattle.cdi_machine.proofs.Refused.{refused}
use Rattle.cdi_container.specs.History.{BeginsFarewellsOnce, KeepsOrder}
use Rattle.cdi_container.proofs.Stories.{holds_throughout}

-- ---- stories

module _ (tables : Tables) (legal : Legal) (order : ledger.KeepsOrder tables legal) (short : KeepsOrderIfShort tables legal) where
  -- what a story has written is a ledger, which ends in the same world but for the trace
  record IsLedger (s : State) (h : List Item) : Type 0 where
    at : World
    ledger : Ledger tables legal at h
    alike : at_begin s.world ≡ at_begin at

  longer : (c : Command) (w v : World) (h : List Item) (o : Outcome) → Ledger tables legal w h → (u : World) → at_begin w ≡ u
      → (r : Runs tables legal ⊥ (task c) u o v) → Ledger tables legal v (items_of h r)
  longer c w v h o l u e =
      subst (λ x. (r : Runs tables legal ⊥ (task c) x o v) → Ledger tables legal v (items_of h r)) e (λ r. Ledger.goes c l r)

  shortened : (c : Command) (w v : World) (h : List Item) (o : Outcome) → Ledger tables legal w h → (u : World) → at_begin w ≡ u
      → (r : Runs tables legal (Unit {0}) (task c) u o v) → InOrder (items_of h r)
  shortened c w v h o l u e =
      subst (λ x. (r : Runs tables legal (Unit {0}) (task c) x o v) → InOrder (items_of h r)) e (λ r. short w v h c o l r)

  is_ledger : {s : State} {h : List Item} → Story tables legal s h → IsLedger s h
  is_ledger (Story.begins ticks depth) = record { at = _; ledger = Ledger.begins ticks depth; alike = refl }
  is_ledger (Story.refuses {s = s} {h = h} c r before e) =
      let l = is_ledger before in
      let busy : IsLedger (record s { shown_from = length s.world.trace }) h = record { at = l.at; ledger = l.ledger; alike = l.alike } in
      let idle : IsLedger (idle_state (at_begin s.world) s.halted) h = record { at = l.at; ledger = l.ledger; alike = l.alike } in
      refused (λ t. IsLedger t h) s busy idle
  is_ledger (Story.goes {s = s} {h = h} {o = o} {v = v} c before e r) =
      let l = is_ledger before in
      record { at = v; ledger = longer c l.at v h o l.ledger (at_begin s.world) (sym l.alike) r; alike = refl }

  story_in_order : (s : State) (h : List Item) → Story tables legal s h → InOrder h
  story_in_order s h story = let l = is_ledger story in order l.at h l.ledger

  story_if_short : (s : State) (h : List Item) (c : Command) (o : Outcome) (v : World) → Story tables legal s h → refusal tables s c ≡ None
      → (r : Runs tables legal (Unit {0}) (task c) (at_begin s.world) o v) → InOrder (items_of h r)
  story_if_short s h c o v story e =
      let l = is_ledger story in
      shortened c l.at v h o l.ledger (at_begin s.world) (sym l.alike)

  pub keeps_order : KeepsOrder tables legal
  keeps_order = holds_throughout tables legal InOrder story_in_order story_if_short

-- ---- farewells

module _ (tables : Tables) (legal : Legal) where
  pub begins_once : ((s : State) (h : List Item) → Story tables legal s h → BeginsOnce tables h)
      → ((s : State) (h : List Item) (c : Command) (o : Outcome) (v : World) → Story tables legal s h → refusal tables s c ≡ None
      → (r : Runs tables legal (Unit {0}) (task c) (at_begin s.world) o v) → BeginsOnce tables (items_of h r))
      → BeginsFarewellsOnce tables legal
  begins_once with_memory short = holds_throughout tables legal (BeginsOnce tables) with_memory short
