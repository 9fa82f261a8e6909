-- The steps by which events are delivered are those of the machine.
use Rattle.std.proofs.Common.{ℕ, suc, ◌≡◌, ◌<◌, ◌^◌, ◌∙◌, List, [], ◌∷◌, length, refl, sym, ap, subst, arith, Option, Some, None, Bool, true, false}
use Rattle.std.proofs.Math.Path.{fun_ext}
use Rattle.std.specs.Prelude.{map, option_map, remove, slice_get}
use Rattle.std.specs.Global.{Box}
use Rattle.std.specs.List.{AllByRecursion}
use Rattle.std.proofs.lemmas.List.{length-map}
use Rattle.std.proofs.lemmas.Option.{slice_get-map, slice_get_within}
use Rattle.cdi_base.specs.BuiltIn.{number_of}
use Rattle.cdi_base.specs.declared.built_in.BuiltIn.TheVariants as built_in
use Rattle.cdi_base.specs.declared.entry.Entry.TheVariants as entries
use Rattle.cdi_base.specs.declared.value.Value.{Value}
use Rattle.cdi_base.specs.declared.value.Value.TheVariants as values
use Rattle.cdi_machine.specs.Told.{observer_told}
use Rattle.cdi_machine.specs.declared.member.Observer.{Observer as CodeObserver}
use Rattle.cdi_machine.specs.Events.{deliver, is_skipped, notify, observe}
use Rattle.cdi_machine.specs.Programs as machine
use Rattle.cdi_machine.specs.Programs.{Completion, Gave, Given, Prog, Threw, call, complete, each, finish, handle, nested, raise, rethrow, require_present, ret, see, throw, tick, ◌>>=◌, ◌>>◌}
use Rattle.cdi_machine.specs.Runs.{Legal}
use Rattle.cdi_machine.specs.Tables.{Bean, Observer, Tables}
use Rattle.cdi_machine.specs.World.{World}
use Rattle.cdi_machine.specs.Destruction.{borrow_for}
use Rattle.cdi_steps.specs.ContainerCalls.{receive}
use Rattle.cdi_steps.specs.Known.{AreKnownObservers, KnownCallee, KnownDelivery}
use Rattle.cdi_steps.specs.Leads.{next_stop, after_steps, Comes}
use Rattle.cdi_steps.specs.Meanings.{node}
use Rattle.cdi_steps.specs.Observing.{deliver_published, notify_groups, notify_others}
use Rattle.cdi_steps.specs.Ranks.{groups_rank, notification_rank}
use Rattle.cdi_steps.specs.Steps.{Follows, Moves, Settles}
use Rattle.cdi_steps.specs.declared.task.Call.TheVariants as calls
use Rattle.cdi_steps.specs.declared.task.Completion.TheVariants as completions
use Rattle.cdi_steps.specs.declared.task.ContainerCall.{ContainerCall}
use Rattle.cdi_steps.specs.declared.task.Continuation.TheVariants as continuations
use Rattle.cdi_steps.specs.declared.task.Delivery.{Delivery}
use Rattle.cdi_steps.specs.declared.task.Event.{Event}
use Rattle.cdi_steps.specs.declared.task.Frame.TheVariants as frames
use Rattle.cdi_steps.specs.declared.task.Groups.{Groups}
use Rattle.cdi_steps.specs.declared.task.Given.TheVariants as givens
use Rattle.cdi_steps.specs.declared.task.Next.{Next}
use Rattle.cdi_steps.specs.declared.task.Next.TheVariants as nexts
use Rattle.cdi_steps.specs.declared.task.Notification.{Notification}
use Rattle.cdi_steps.specs.declared.task.Outcome.TheVariants as outcomes
use Rattle.cdi_steps.specs.declared.task.Task.TheVariants as tasks
use Rattle.cdi_steps.proofs.Changes.{same_invoked}
use Rattle.cdi_steps.proofs.Made.{leaves_alone}
use Rattle.cdi_steps.proofs.Ways.{ComesTo, MovesTo, WaitsTo}
use Rattle.cdi_events.proofs.KnownObservers.{map_remove}
use Rattle.cdi_events.proofs.Sequences.{handle_after}
use Rattle.cdi_events.specs.Events.{observer_call}

-- ---- an observer

-- it is called, or not
abbrev called_unless : Observer → Value → Bool → Prog Given
called_unless o v skipped =
    elim skipped [
      | true ↦ finish
      | false ↦ handle (observe o v) (λ _. finish) (λ x. rethrow x built_in.ObserverException)
    ]

-- the same at its bean, and then this
abbrev delivering : Observer → Value → Prog Given → Option Bean → Prog Given
delivering o v p x = (require_present x >>= λ bean. (see λ t w. ret (is_skipped w o bean)) >>= called_unless o v) >> p

-- what waits for it
abbrev behind_observer : Prog Given → Prog Given → Prog Given
behind_observer p q = handle p (λ _. q) (λ x. rethrow {A = Given} x built_in.ObserverException >> q)

module _ (t : Tables) where
  module _ (o : Observer) (v : Value) (p : Prog Given) (w : World) where
    missing_stops : t.bean o.bean ≡ None → next_stop t (deliver o v >> p) w ≡ (raise built_in.IllegalStateException, w)
    missing_stops e = ap (λ x. next_stop t (delivering o v p x) w) e

    module _ (bean : Bean) (there : t.bean o.bean ≡ Some bean) where
      skipped_stops : is_skipped w o bean ≡ true → next_stop t (deliver o v >> p) w ≡ next_stop t p w
      skipped_stops e =
          ap (λ x. next_stop t (delivering o v p x) w) there ∙ ap (λ s. next_stop t (called_unless o v s >> p) w) e

      called_goes_on : is_skipped w o bean ≡ false → after_steps 2 t (deliver o v >> p) w ≡ (behind_observer (observe o v) p, w)
      called_goes_on e =
          ap (λ x. after_steps 1 t (delivering o v p x) w) there
          ∙ ap (λ s. (called_unless o v s >> p, w)) e
          ∙ ap (λ q. (q, w)) (handle_after (observe o v) (λ _. finish) (λ x. rethrow x built_in.ObserverException) (λ _. p) throw)

  module _ (d : Box Delivery) (w : World) where
    abbrev told : Observer
    told = observer_told d.value.observer

    pub deliver_missing : t.bean d.value.observer.bean ≡ None
        → MovesTo t (tasks.Continue (continuations.Delivering d)) w (nexts.Finished (outcomes.Ends (completions.Threw (number_of built_in.IllegalStateException)))) w
    deliver_missing e = Comes.same (missing_stops told d.value.others.value (notify_others d.value.others) w e)

    module _ (bean : Bean) (there : t.bean d.value.observer.bean ≡ Some bean) (others : Box Notification) (same : others.value ≡ d.value.others) where
      pub deliver_skipped : is_skipped w told bean ≡ true
          → MovesTo t (tasks.Continue (continuations.Delivering d)) w (nexts.Goes (tasks.Start (calls.Notify others))) w
      deliver_skipped e =
          Comes.same
          (skipped_stops told d.value.others.value (notify_others d.value.others) w bean there e
          ∙ ap (λ (n : Notification). (notify_others n, w)) (sym same))

      pub deliver_calls : (c : Box ContainerCall) → c.value ≡ observer_call d.value.observer d.value.others.value → is_skipped w told bean ≡ false
          → MovesTo t (tasks.Continue (continuations.Delivering d)) w (nexts.Needs (tasks.Calling c) (frames.Observing others)) w
      deliver_calls c is e =
          Comes.looks
          (Comes.within 2
          (called_goes_on told d.value.others.value (notify_others d.value.others) w bean there e
          ∙ ap (λ (k : ContainerCall). (behind_observer (borrow_for (receive t k)) (notify_others d.value.others), w)) (sym is)
          ∙ ap (λ (n : Notification). (behind_observer (borrow_for (receive t c.value)) (notify_others n), w)) (sym same)))

      pub skips : KnownDelivery t d.value → is_skipped w told bean ≡ true → Follows t (continuations.Delivering d) w (nexts.Goes (tasks.Start (calls.Notify others))) w
      skips known e =
          let low : notification_rank others.value ≡ notification_rank d.value.others = ap notification_rank same in
          leaves_alone (deliver_skipped e) (omega (arith, low)) refl (subst (λ (n : Notification). AreKnownObservers t n.observers) (sym same) known.others) tt

      pub calls_it : KnownDelivery t d.value → (c : Box ContainerCall) → c.value ≡ observer_call d.value.observer d.value.others.value → is_skipped w told bean ≡ false
          → Follows t (continuations.Delivering d) w (nexts.Needs (tasks.Calling c) (frames.Observing others)) w
      calls_it known c is e =
          let low : notification_rank others.value ≡ notification_rank d.value.others = ap notification_rank same in
          leaves_alone (deliver_calls c is e) (omega (arith, low)) refl
          (subst (λ (k : ContainerCall). KnownCallee t k.callee) (sym is) known.observer, subst (λ (n : Notification). AreKnownObservers t n.observers) (sym same) known.others) tt

  -- ---- the observers of a group

  pub observed_leads : (others : Box Notification) (g : _) (w : World)
      → WaitsTo t (frames.Observing others) (completions.Gave g) w (nexts.Goes (tasks.Start (calls.Notify others))) w
  observed_leads others g w = Comes.same refl

  module _ (others : Box Notification) (x : ℕ) (w : World) where
    -- a checked exception becomes another one
    abbrev thrown : Bool → Prog Given
    thrown checked = (elim checked as (λ _. Prog Given) [ true ↦ raise built_in.ObserverException | false ↦ throw x ]) >> notify_others others.value

    pub observed_checked : t.is_checked x ≡ true
        → WaitsTo t (frames.Observing others) (completions.Threw x) w (nexts.Finished (outcomes.Ends (completions.Threw (number_of built_in.ObserverException)))) w
    observed_checked e = Comes.same (ap (λ s. next_stop t (thrown s) w) e)

    pub observed_threw : t.is_checked x ≡ false
        → WaitsTo t (frames.Observing others) (completions.Threw x) w (nexts.Finished (outcomes.Ends (completions.Threw x))) w
    observed_threw e = Comes.same (ap (λ s. next_stop t (thrown s) w) e)

  none_left : (os : List CodeObserver) (v : Value) (w : World) → os ≡ [] → next_stop t (notify (map observer_told os) v) w ≡ (finish, w)
  none_left os v w e = ap (λ (xs : List CodeObserver). next_stop t (notify (map observer_told xs) v) w) e

  pub notify_none : (n : Box Notification) (w : World) → n.value.observers ≡ []
      → MovesTo t (tasks.Start (calls.Notify n)) w (nexts.Finished (outcomes.Ends (completions.Gave (givens.Result values.Null)))) w
  notify_none n w e = Comes.same (none_left n.value.observers n.value.value w e)

  -- the only one is notified at once
  pub only_left : (os rest : List CodeObserver) (o : CodeObserver) (v : Value) → length os ≡ 1 → slice_get os 0 ≡ Some o → rest ≡ remove os 0
      → notify (map observer_told os) v ≡ (deliver (observer_told o) v >> call (machine.Notify (map observer_told rest) v))
  only_left [] rest o v h e r = absurd (omega arith)
  only_left (x ∷ []) rest o v h e r =
      let z : x ≡ o = cc in
      rw r (ap (λ y. deliver (observer_told y) v >> call (machine.Notify [] v)) z)
  only_left (x ∷ y ∷ os) rest o v h e r = absurd (omega arith)

  pub notifies_only : (n : Box Notification) (d : Box Delivery) {next : Next} {w : World} → length n.value.observers ≡ 1 → slice_get n.value.observers 0 ≡ Some d.value.observer
      → d.value.others ≡ record n.value { observers = remove n.value.observers 0 }
      → Follows t (continuations.Delivering d) w next w → Moves t (tasks.Start (calls.Notify n)) w next w
  notifies_only n d {next} {w} h e r s =
      let observers : d.value.others.observers ≡ remove n.value.observers 0 = ap (λ (k : Notification). k.observers) r in
      let value : d.value.others.value ≡ n.value.value = ap (λ (k : Notification). k.value) r in
      record {
        leads = rw (only_left n.value.observers d.value.others.observers d.value.observer n.value.value h e observers) (subst (λ x. ComesTo t (deliver (observer_told d.value.observer) x >> call (machine.Notify (map observer_told d.value.others.observers) x)) w next w) value s.leads);
        lowers = omega (arith, h, s.lowers, nothing_behind n.value.observers d.value.others.observers h observers);
        known = s.known;
        invoked = s.invoked;
        quiet = s.quiet;
      }
    where
      nothing_behind : (os rest : List CodeObserver) → length os ≡ 1 → rest ≡ remove os 0 → length rest ≡ 0
      nothing_behind [] rest h r = absurd (omega arith)
      nothing_behind (x ∷ []) rest h r = rw r refl
      nothing_behind (x ∷ y ∷ os) rest h r = absurd (omega arith)

  -- one of several is picked
  picked : (legal : Legal) (os : List Observer) (o : Observer) (v : Value) (i : ℕ) (w : World) → 1 < length os → slice_get os i ≡ Some o → legal.picks (length os) (length w.trace) i
      → Comes t legal (notify os v) w (tick (entries.Pick (length os) i) (deliver o v >> call (machine.Notify (remove os i) v))) w
  picked legal [] o v i w many e l = absurd (omega arith)
  picked legal (x ∷ []) o v i w many e l = absurd (omega arith)
  picked legal (x ∷ y ∷ os) o v i w many e l =
      Comes.picks i refl (slice_get_within (x ∷ y ∷ os) i o e) l
      (subst (λ q. Comes t legal (tick (entries.Pick (suc (suc (length os))) i) (require_present q >>= λ p. deliver p v >> call (machine.Notify (remove (x ∷ y ∷ os) i) v))) w (tick (entries.Pick (suc (suc (length os))) i) (deliver o v >> call (machine.Notify (remove (x ∷ y ∷ os) i) v))) w)
      (sym e) (Comes.same refl))

  pub pick_leads : (legal : Legal) (n : Box Notification) (d : Box Delivery) (count i : ℕ) (w : World) → count ≡ length n.value.observers → 1 < count
      → slice_get n.value.observers i ≡ Some d.value.observer → d.value.others ≡ record n.value { observers = remove n.value.observers i } → legal.picks count (length w.trace) i
      → Comes t legal (notify (map observer_told n.value.observers) n.value.value) w (node (nexts.Writes (entries.Pick count i) (continuations.Delivering d))) w
  pick_leads legal n d count i w c many e r l =
      let os : List Observer = map observer_told n.value.observers in
      let long : length os ≡ count = length-map n.value.observers observer_told ∙ sym c in
      let rest : remove os i ≡ map observer_told (remove n.value.observers i) = sym (map_remove observer_told n.value.observers i) in
      let at : slice_get os i ≡ Some (observer_told d.value.observer) = slice_get-map observer_told n.value.observers i ∙ ap (option_map observer_told) e in
      subst (λ (k : Notification). Comes t legal (notify os n.value.value) w (tick (entries.Pick count i) (deliver (observer_told d.value.observer) k.value >> notify_others k)) w) (sym r)
      (subst (λ q. Comes t legal (notify os n.value.value) w (tick (entries.Pick count i) (deliver (observer_told d.value.observer) n.value.value >> call (machine.Notify q n.value.value))) w) rest
      (subst (λ k. Comes t legal (notify os n.value.value) w (tick (entries.Pick k i) (deliver (observer_told d.value.observer) n.value.value >> call (machine.Notify (remove os i) n.value.value))) w) long
      (picked legal os (observer_told d.value.observer) n.value.value i w (rw long many) at (rw long l))))

  -- ---- the groups of an event

  -- behind a group come the others
  behind_group : (g : List Observer) (gs : List (List Observer)) (v : Value) (w : World)
      → next_stop t (each (g ∷ gs) (λ k. call (machine.Notify k v)) >> finish) w ≡ (nested (machine.Notify g v) (λ c. complete c >> (each gs (λ k. call (machine.Notify k v)) >> finish)), w)
  behind_group g [] v w = ap (λ k. (nested (machine.Notify g v) k, w)) (fun_ext by)
    where
      by : (c : Completion Given) → (complete c >> finish) ≡ (complete c >> (finish >> finish))
      by (Gave r) = refl
      by (Threw x) = refl
  behind_group g (h ∷ gs) v w = ap (λ k. (nested (machine.Notify g v) k, w)) (fun_ext by)
    where
      by : (c : Completion Given) → ((complete c >> each (h ∷ gs) (λ k. call (machine.Notify k v))) >> finish) ≡ (complete c >> (each (h ∷ gs) (λ k. call (machine.Notify k v)) >> finish))
      by (Gave r) = refl
      by (Threw x) = refl

  pub next_group : (before : Groups) (after : Box Groups) (n : Box Notification) (w : World) → before.left ≡ n.value.observers ∷ after.value.left → n.value.value ≡ before.value → after.value.value ≡ before.value
      → length before.left < 2 ^ 64 → AllByRecursion (AreKnownObservers t) before.left
      → Settles t (notify_groups before) (groups_rank before) w (nexts.Needs (tasks.Start (calls.Notify n)) (frames.Grouping after)) w
  next_group before after n w e v u few known =
      let all : AllByRecursion (AreKnownObservers t) (n.value.observers ∷ after.value.left) = subst (AllByRecursion (AreKnownObservers t)) e known in
      record {
        settles =
            ap (λ (gs : List (List CodeObserver)). next_stop t (each (map (map observer_told) gs) (λ k. call (machine.Notify k before.value)) >> finish) w) e
            ∙ behind_group (map observer_told n.value.observers) (map (map observer_told) after.value.left) before.value w
            ∙ ap (λ x. (nested (machine.Notify (map observer_told n.value.observers) x) (λ c. complete c >> (each (map (map observer_told) after.value.left) (λ k. call (machine.Notify k before.value)) >> finish)), w)) (sym v)
            ∙ ap (λ x. (nested (machine.Notify (map observer_told n.value.observers) n.value.value) (λ c. complete c >> (each (map (map observer_told) after.value.left) (λ k. call (machine.Notify k x)) >> finish)), w)) (sym u);
        lowers = let long : length before.left ≡ suc (length after.value.left) = ap length e in omega (arith, long, few);
        known = λ _. all;
        invoked = same_invoked refl;
        quiet = tt;
      }

  -- an event is delivered to the groups of those that hear it
  pub published_as : (e : Box Event) (g : Groups) (w : World) → map (map observer_told) g.left ≡ t.observers e.value.class e.value.qualifiers → g.value ≡ e.value.value
      → next_stop t (deliver_published e.value) w ≡ next_stop t (notify_groups g) w
  published_as e g w heard same =
      ap (λ gs. next_stop t (each gs (λ k. call (machine.Notify k e.value.value)) >> finish) w) (sym heard)
      ∙ ap (λ v. next_stop t (each (map (map observer_told) g.left) (λ k. call (machine.Notify k v)) >> finish) w) (sym same)
