-- Each number is born once, and items are in order, also where memory runs out: from the laws of the ledger.
use Rattle.std.proofs.Common.{ℕ, ◌≡◌, ◌<◌, List, [], ◌∷◌, inl, inr, refl, sym, ◌∙◌, ap, subst, arith}
use Rattle.cdi_base.specs.declared.entry.Entry.TheVariants as entries
use Rattle.cdi_base.specs.declared.place.Place.{Place}
use Rattle.cdi_store.specs.declared.instance.Component.{Component}
use Rattle.cdi_store.specs.declared.instance.Owner.{Owner}
use Rattle.cdi_machine.specs.Tables.{Tables}
use Rattle.cdi_machine.specs.World.{World, at_begin, before_boot}
use Rattle.cdi_machine.specs.Commands.{Command, task}
use Rattle.cdi_machine.specs.Runs.{Legal, Outcome, Runs}
use Rattle.cdi_machine.specs.Container.{State}
use Rattle.cdi_machine.proofs.Refused.{refused}
use Rattle.cdi_ledger.specs.Whose.{IsIn}
use Rattle.cdi_ledger.specs.Ledger.{Item, Wrote, Born, items_of, numbers, Counted, InSequence, InOrder, Ledger}
use Rattle.cdi_ledger.specs.Stories.{Story}
use Rattle.cdi_ledger.specs.Ends.{Each, IsNew, IsBornAsWritten}
use Rattle.cdi_ledger.proofs.Ledgered as ledgered

module _ (tables : Tables) where
  -- a birth has its `new`
  written : (n : ℕ) (a : Component) (o : Owner) (h : List Item) → Each (IsBornAsWritten tables) h → IsIn (Born n a o) h → (place : Place) × IsIn (Wrote (entries.New n place)) h
  written n a o [] e i = absurd i
  written n a o (x ∷ h) e (inr i) = let w = written n a o h e.1 i in (w.0, inr w.1)
  written n a o (x ∷ h) e (inl q) = by h (subst (λ z. IsBornAsWritten tables z h) q e.0)
    where
      by : (h : List Item) → IsNew tables n a h → (place : Place) × IsIn (Wrote (entries.New n place)) (x ∷ h)
      by (Wrote (entries.New m place) ∷ k) w = (place, inr (inl (ap (λ z. Wrote (entries.New z place)) w.0)))
      by _ w = absurd w

  more : (x : Item) (h : List Item) (n : ℕ) → n < numbers h → n < numbers (x ∷ h)
  more (Wrote (entries.New m place)) h n l = omega arith
  more _ h n l = l

  -- its number is smaller than the next
  smaller : (n : ℕ) (place : Place) (h : List Item) → InSequence h → IsIn (Wrote (entries.New n place)) h → n < numbers h
  smaller n place [] s i = absurd i
  smaller n place (x ∷ h) s (inr i) = more x h n (smaller n place h s.1 i)
  smaller n place (x ∷ h) s (inl q) = subst (λ z. n < numbers (z ∷ h)) (sym q) (let c : n ≡ numbers h = subst (λ z. Counted z h) q s.0 in omega arith)

  not_twice : (n : ℕ) (a b : Component) (p : Owner) (h : List Item) → IsNew tables n a h → InSequence h → Each (IsBornAsWritten tables) h → IsIn (Born n b p) h → ⊥
  not_twice n a b p (Wrote (entries.New m place) ∷ h) w s e (inl q) = absurd (cc)
  not_twice n a b p (Wrote (entries.New m place) ∷ h) w s e (inr i) =
      let y = written n b p h e.1 i in
      let l = smaller n y.0 h s.1 y.1 in
      let c : m ≡ numbers h = s.0 in
      let d : m ≡ n = w.0 in
      omega arith
  not_twice n a b p _ w s e i = absurd w

  pub born_once : (h : List Item) → InSequence h → Each (IsBornAsWritten tables) h → (k : ℕ) (a b : Component) (o p : Owner) → IsIn (Born k a o) h → IsIn (Born k b p) h → (a ≡ b) × (o ≡ p)
  born_once [] s e k a b o p i j = absurd i
  born_once (x ∷ h) s e k a b o p (inl q) (inl r) = let u : Born k a o ≡ Born k b p = sym q ∙ r in (cc, cc)
  born_once (x ∷ h) s e k a b o p (inl q) (inr r) = absurd (not_twice k a b p h (subst (λ z. IsBornAsWritten tables z h) q e.0) s.1 e.1 r)
  born_once (x ∷ h) s e k a b o p (inr q) (inl r) = absurd (not_twice k b a o h (subst (λ z. IsBornAsWritten tables z h) r e.0) s.1 e.1 q)
  born_once (x ∷ h) s e k a b o p (inr q) (inr r) = born_once h s.1 e.1 k a b o p q r

module _ (tables : Tables) (legal : Legal) where
  record Led (s : State) (h : List Item) : Type 0 where
    world : World
    same : at_begin world ≡ at_begin s.world
    ledger : Ledger tables legal world h

  led : {s : State} {h : List Item} → Story tables legal s h → Led s h
  led (Story.begins ticks depth) = record { world = before_boot ticks depth; same = refl; ledger = Ledger.begins ticks depth }
  led (Story.refuses {s = s} {h = h} c r l q) = let x = led l in refused (λ t. Led t h) s (record { world = x.world; same = x.same; ledger = x.ledger }) (record { world = x.world; same = x.same; ledger = x.ledger })
  led (Story.goes {s = s} {h = h} {o = o} {v = v} c l q r) =
      let x = led l in
      record { world = v; same = refl; ledger = subst (λ z. (r : Runs tables legal ⊥ (task c) z o v) → Ledger tables legal v (items_of h r)) x.same (λ r. Ledger.goes c x.ledger r) r }

  pub story_in_order : (s : State) (h : List Item) → Story tables legal s h → InOrder h
  story_in_order s h l = let x = led l in ledgered.keeps_order tables legal x.world h x.ledger

  pub short_in_order : (s : State) (h : List Item) (c : Command) (o : Outcome) (v : World) → Story tables legal s h → (r : Runs tables legal (Unit {0}) (task c) (at_begin s.world) o v) → InOrder (items_of h r)
  short_in_order s h c o v l r = let x = led l in subst (λ z. (r : Runs tables legal (Unit {0}) (task c) z o v) → InOrder (items_of h r)) x.same (λ r. ledgered.if_short tables legal x.world v h c o x.ledger r) r
