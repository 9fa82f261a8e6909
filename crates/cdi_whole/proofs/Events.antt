-- Events and their observers miss nothing.
use Rattle.std.proofs.Common.{ℕ, ◌<◌, List, [], ◌∷◌, length, Bool, true, false, arith, zero, suc}
use Rattle.std.specs.Prelude.{slice_get, remove}
use Rattle.std.specs.List.{AllByRecursion}
use Rattle.cdi_base.specs.declared.value.Value.{Value}
use Rattle.cdi_base.specs.declared.entry.Entry.TheVariants as entries
use Rattle.cdi_base.specs.declared.built_in.BuiltIn.TheVariants as built_in
use Rattle.cdi_base.specs.declared.uses.Use.{Use}
use Rattle.cdi_store.specs.declared.instance.Owner.TheVariants as owners
use Rattle.cdi_machine.specs.Words.{Name}
use Rattle.cdi_machine.specs.Tables.{Tables, Observer}
use Rattle.cdi_machine.specs.World.{World, Change, after_change, with_entry}
use Rattle.cdi_machine.specs.Programs.{Task, Given, Completion, Prog, throw, handle, call, finish, each, require_present, rethrow}
use Rattle.cdi_machine.specs.Bodies.{invoke}
use Rattle.cdi_machine.specs.Destruction.{obtain_receiver}
use Rattle.cdi_machine.specs.Events.{fire, is_skipped, observe, deliver, notify}
use Rattle.cdi_machine.specs.Runs.{Legal}
use Rattle.cdi_whole.specs.Fits.{FitsObserver, Fits}
use Rattle.cdi_ledger.proofs.Maps.{all_get}
use Rattle.cdi_ledger.proofs.Lists.{got}
use Rattle.cdi_whole.proofs.Whole.{Good}
use Rattle.cdi_whole.proofs.Remains.{Any, Each, After, after_self, after_trans}
use Rattle.cdi_whole.proofs.Busy.{borrowing}
use Rattle.cdi_whole.proofs.Terms.{Told, Answered}
use Rattle.cdi_whole.proofs.Statements.{Goes, then, loosen, found, called, calling, rethrown}
use Rattle.cdi_whole.proofs.References.{Reaches, bean_of_managed, receiver_safe}
use Rattle.cdi_whole.proofs.Invocations.{invoke_safe, borrow_safe}
use Rattle.cdi_whole.proofs.Creation.{ready_attended}

all_removed : {X : Type 0} (P : X → Type 0) (xs : List X) (i : ℕ) → AllByRecursion P xs → AllByRecursion P (remove xs i)
all_removed P [] zero h = tt
all_removed P [] (suc i) h = tt
all_removed P (x ∷ xs) zero h = h.1
all_removed P (x ∷ xs) (suc i) h = (h.0, all_removed P xs i h.1)

module _ (t : Tables) (legal : Legal) (fits : Fits t legal) where
  abbrev Does : {A : Type 0} → Prog A → World → (Completion A → World → Type 0) → Type 0
  Does p w Q = Goes t legal fits p w Q

  abbrev Leaves : World → Completion Given → World → Type 0
  Leaves w c u = After t legal w u × Told t c

  abbrev AreObservers : List Observer → Type 0
  AreObservers os = AllByRecursion (FitsObserver t legal) os

  observe_safe : (o : Observer) (v : Value) (w : World) → Good t legal w → FitsObserver t legal o → Does (observe o v) w (λ d u. After t legal w u × Answered t d)
  observe_safe o v w g fit =
      borrow_safe t legal fits w (handle (obtain_receiver o.bean) (λ n. invoke n o.member (v ∷ []) owners.Borrower) throw) g
      (then t legal fits (obtain_receiver o.bean) (λ n. invoke n o.member (v ∷ []) owners.Borrower) throw inner (λ d u. After t legal inner u × Reaches u.instances o.bean d × Told t d) (λ d u. After t legal inner u × Answered t d)
      (receiver_safe t legal fits o.bean inner (borrowing w g) (bean_of_managed fit.observes))
      (λ n u q. loosen t legal fits (invoke n o.member (v ∷ []) owners.Borrower) u (λ d x. After t legal u x × Answered t d) (λ d x. After t legal inner x × Answered t d)
      (invoke_safe t legal fits u n o.bean fit.class o.member (v ∷ []) owners.Borrower q.0.good tt fit.observes (q.1.0, q.1.1, q.1.2) fit.member (ready_attended u n o.bean fit.class q.0.good fit.observes q.1.0 q.1.1 q.1.2 q.1.3)) (λ d x r. (after_trans q.0 r.0, r.1)))
      (λ x u q. (q.0, (tt, q.2))))
    where
      inner : World
      inner = after_change Change.Borrow w

  deliver_safe : (o : Observer) (v : Value) (w : World) → Good t legal w → FitsObserver t legal o → Does (deliver o v) w (Leaves w)
  deliver_safe o v w g fit = found t legal fits (t.bean o.bean) fit.observes.is.bean _ w _ fit.observes.is.known (by (is_skipped w o fit.observes.is.bean))
    where
      by : (c : Bool) → Does (elim c as (λ _. Prog Given) [ true ↦ finish | false ↦ handle (observe o v) (λ _. finish) (λ x. rethrow x built_in.ObserverException) ]) w (Leaves w)
      by true = (after_self t legal Any Each w g, tt)
      by false =
          then t legal fits (observe o v) (λ _. finish) (λ x. rethrow x built_in.ObserverException) w (λ d u. After t legal w u × Answered t d) (Leaves w) (observe_safe o v w g fit)
          (λ a u q. (q.0, tt))
          (λ x u q. rethrown t legal fits x built_in.ObserverException u (Leaves w) q.1.1 (λ y z. (q.0, z)))

  one_of : (os : List Observer) (i : ℕ) (v : Value) (w : World) → Good t legal w → AreObservers os → i < length os
      → Does (handle (require_present (slice_get os i)) (λ o. handle (deliver o v) (λ _. call (Task.Notify (remove os i) v)) throw) throw) w (Leaves w)
  one_of os i v w g h l =
      let o = got os i l in
      found t legal fits (slice_get os i) o.0 _ w _ o.1
      (then t legal fits (deliver o.0 v) _ throw w (Leaves w) _ (deliver_safe o.0 v w g (all_get (FitsObserver t legal) os i o.0 h o.1))
      (λ a u q. called t legal fits (Task.Notify (remove os i) v) u _ (q.0.good, all_removed (FitsObserver t legal) os i h) (λ d x r. (after_trans q.0 r.0, r.1)))
      (λ x u q. q))

  pub notify_safe : (os : List Observer) (v : Value) (w : World) → Good t legal w → AreObservers os → Does (notify os v) w (Leaves w)
  notify_safe [] v w g h = (after_self t legal Any Each w g, tt)
  notify_safe (o ∷ []) v w g h = one_of (o ∷ []) 0 v w g h (omega arith)
  notify_safe (o ∷ k ∷ os) v w g h = λ i l. one_of (o ∷ k ∷ os) i v (with_entry _ w) g h l

  groups_safe : (groups : List (List Observer)) (v : Value) (start w : World) → After t legal start w → AllByRecursion AreObservers groups → Does (each groups (λ group. call (Task.Notify group v))) w (Leaves start)
  groups_safe [] v start w a h = (a, tt)
  groups_safe (os ∷ []) v start w a h = called t legal fits (Task.Notify os v) w _ (a.good, h.0) (λ d u q. (after_trans a q.0, q.1))
  groups_safe (os ∷ next ∷ groups) v start w a h =
      calling t legal fits (Task.Notify os v) _ throw w _ (a.good, h.0)
      (λ x u q. groups_safe (next ∷ groups) v start u (after_trans a q.0) h.1) (λ x u q. (after_trans a q.0, q.1))

  pub fire_safe : (class : Name) (qualifiers : List Use) (v : Value) (w : World) → Good t legal w → Does (fire class qualifiers v) w (Leaves w)
  fire_safe class qualifiers v w g =
      then t legal fits (each (t.observers class qualifiers) (λ group. call (Task.Notify group v))) _ throw (with_entry (entries.Event class qualifiers) w) (Leaves w) (Leaves w)
      (groups_safe (t.observers class qualifiers) v w (with_entry (entries.Event class qualifiers) w) (after_self t legal Any Each w g) (fits.observed class qualifiers))
      (λ a u q. (q.0, tt)) (λ x u q. q)
