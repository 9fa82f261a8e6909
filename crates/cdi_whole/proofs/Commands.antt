-- Each command misses nothing where nothing is running, if it asks for what there is.
use Rattle.std.proofs.Common.{ℕ, ◌≡◌, List, [], ◌∷◌, length, Bool, true, false, Option, Some, None}
use Rattle.cdi_base.specs.declared.value.Value.TheVariants as values
use Rattle.cdi_base.specs.declared.built_in.BuiltIn.{BuiltIn}
use Rattle.cdi_base.specs.declared.built_in.BuiltIn.TheVariants as built_in
use Rattle.cdi_base.specs.BuiltIn.{number_of}
use Rattle.cdi_store.specs.declared.instance.Component.TheVariants as components
use Rattle.cdi_store.specs.declared.instance.Context.{Context}
use Rattle.cdi_store.specs.declared.instance.Context.TheVariants.{Application, Request, Session}
use Rattle.cdi_store.specs.declared.instance.Owner.TheVariants as owners
use Rattle.cdi_contexts.specs.Contexts.{Contexts, ending_active, is_due}
use Rattle.cdi_contexts.specs.Refusals.{is_new}
use Rattle.cdi_machine.specs.Words.{Asked}
use Rattle.cdi_machine.specs.Tables.{Tables, One}
use Rattle.cdi_machine.specs.World.{World, Change, after_change, no_environment}
use Rattle.cdi_machine.specs.Programs.{Task, Given, Completion, Gave, Threw, Prog, ret, throw, handle, alter, each, finish, resolve, instance, do_nothing}
use Rattle.cdi_machine.specs.Contexts.{refer_to, reach_instance}
use Rattle.cdi_machine.specs.Bodies.{invoke_method}
use Rattle.cdi_machine.specs.Events.{qualifier, fire_context_event, fire_container_event}
use Rattle.cdi_machine.specs.Commands.{Command, task, environment_of, close, use_bean, requests_of, sessions_of, is_used, begin_session, begin, end_session, end, invalidate, read, end_alone, shut_down, boot}
use Rattle.cdi_machine.specs.Runs.{Legal}
use Rattle.cdi_whole.specs.Fits.{AnswersCalls, FitsBean, Fits}
use Rattle.cdi_whole.proofs.Contexts.{AllContexts, context_changed, context_gone, context_marked, context_requested, context_sessioned}
use Rattle.cdi_whole.proofs.Whole.{Serves, HeldBy, Whole, Good}
use Rattle.cdi_whole.proofs.Remains.{Any, Each, After, after_self, after_trans}
use Rattle.cdi_whole.proofs.Busy.{borrowing}
use Rattle.cdi_whole.proofs.Terms.{Told, Gives, Answered, IsEmptyStack}
use Rattle.cdi_whole.proofs.Statements.{Goes, then, loosen, found, called, calling}
use Rattle.cdi_whole.proofs.Moves.{Moves}
use Rattle.cdi_whole.proofs.References.{Referred, Reaches, resolving, refer_safe, reach_safe}
use Rattle.cdi_whole.proofs.Invocations.{borrow_safe}
use Rattle.cdi_whole.proofs.Acts.{managed_of, method_call_safe}
use Rattle.cdi_whole.proofs.Destruction.{empty_then}

-- what a command may ask for: the bean whose method it calls has it
abbrev pub IsAdmitted : Tables → Legal → Command → Type 0
IsAdmitted t legal (Command.Call r asked method args) = (b : ℕ) → t.resolve asked ≡ One b → FitsBean t legal b → AnswersCalls t b method (length args)
IsAdmitted t legal _ = Unit {0}

-- the value of a product
abbrev read_value : ℕ → Prog Given
read_value n = handle (instance n) (λ o. ret (Given.Result o.value)) throw

with_contexts_good : {t : Tables} {legal : Legal} (w : World) (c : Contexts) → Good t legal w → AllContexts (HeldBy w.instances) c → Whole t legal w.instances w.next c w.temporaries w.invocations w.bodies
with_contexts_good w c g h = record { below = g.below; whole = g.whole; owned = g.owned; refer = g.refer; attended = g.attended; held = h; borrowed = g.borrowed; stacked = g.stacked }

module _ (t : Tables) (legal : Legal) (fits : Fits t legal) (moves : Moves t legal) where
  abbrev Does : {A : Type 0} → Prog A → World → (Completion A → World → Type 0) → Type 0
  Does p w Q = Goes t legal fits p w Q

  -- nothing is running
  abbrev pub IsResting : World → Type 0
  IsResting w = Good t legal w × IsEmptyStack w

  abbrev Rests : {A : Type 0} → Completion A → World → Type 0
  Rests c u = Gives c (IsResting u)

  -- and what a command threw has a text
  abbrev pub Completes : Completion Given → World → Type 0
  Completes c u = IsResting u × Told t c

  rests_after : (w u : World) → IsResting w → After t legal w u → IsResting u
  rests_after w u h a = (a.good, empty_then t legal fits moves w u a h.1)

  event_safe : (what : BuiltIn) (c : Context) (w : World) → IsResting w → Does (fire_context_event what c) w Rests
  event_safe what c w h = calling t legal fits (Task.Fire (number_of built_in.Object) (qualifier what c ∷ []) values.Null) _ _ w _ h.0 (λ a u p. rests_after w u h p.0) (λ x u p. rests_after w u h p.0)

  container_event_safe : (class : BuiltIn) (w : World) → IsResting w → Does (fire_container_event class) w Rests
  container_event_safe class w h = calling t legal fits (Task.Fire (number_of class) [] values.Null) _ _ w _ h.0 (λ a u p. rests_after w u h p.0) (λ x u p. rests_after w u h p.0)

  -- ---- contexts

  finished : (w : World) (c : Context) → IsResting w → IsResting (after_change (Change.Finish c) w)
  finished w c h = (with_contexts_good w _ h.0 (context_changed (HeldBy w.instances) (HeldBy w.instances) w.contexts c ending_active (λ j b n d q. q) (λ a q. q) h.0.held), h.1)

  closed : (w : World) (c : Context) → IsResting w → IsResting (after_change (Change.Close c) w)
  closed w c h = (with_contexts_good w _ h.0 (context_gone (HeldBy w.instances) w.contexts c h.0.held), h.1)

  marked : (w : World) (s : List ℕ) → IsResting w → IsResting (after_change (Change.Mark s) w)
  marked w s h = (with_contexts_good w _ h.0 (context_marked (HeldBy w.instances) w.contexts s h.0.held), h.1)

  requested : (w : World) (r : List ℕ) (s : Option (List ℕ)) → IsResting w → IsResting (after_change (Change.BeginRequest r s) w)
  requested w r s h = (with_contexts_good w _ h.0 (context_requested (HeldBy w.instances) w.contexts r s h.0.held), h.1)

  sessioned : (w : World) (s : List ℕ) → IsResting w → IsResting (after_change (Change.BeginSession s) w)
  sessioned w s h = (with_contexts_good w _ h.0 (context_sessioned (HeldBy w.instances) w.contexts s h.0.held), h.1)

  close_safe : (c : Context) (w : World) → IsResting w → Does (close c) w Rests
  close_safe c w h =
      then t legal fits (fire_context_event built_in.BeforeDestroyed c) _ throw w Rests _ (event_safe built_in.BeforeDestroyed c w h)
      (λ _ u p. let f = finished u c p in
      calling t legal fits (Task.Clear c) _ throw (after_change (Change.Finish c) u) _ f
      (λ a v q. let k = closed v c (rests_after (after_change (Change.Finish c) u) v f q) in
      then t legal fits (fire_context_event built_in.Destroyed c) _ throw (after_change (Change.Close c) v) Rests _ (event_safe built_in.Destroyed c (after_change (Change.Close c) v) k) (λ _ x r. r) (λ x y r. absurd r))
      (λ x v q. absurd q))
      (λ x u p. absurd p)

  -- ---- begin, end, invalidate

  begun : (r : List ℕ) (w : World) → IsResting w → Does (handle (fire_context_event built_in.Initialized (Request r)) (λ _. finish) throw) w Rests
  begun r w h = then t legal fits (fire_context_event built_in.Initialized (Request r)) (λ _. finish) throw w Rests Rests (event_safe built_in.Initialized (Request r) w h) (λ _ u p. p) (λ x u p. absurd p)

  begin_safe : (r : List ℕ) (s : Option (List ℕ)) (w : World) → IsResting w → Does (begin r s) w Rests
  begin_safe r None w h = begun r (after_change (Change.Stand (environment_of (after_change (Change.BeginRequest r None) w).contexts (Some r))) (after_change (Change.BeginRequest r None) w)) (requested w r None h)
  begin_safe r (Some s) w h = by (is_new w.contexts s)
    where
      told : (b : Bool) (u : World) → IsResting u → Does (handle (elim b as (λ _. Prog (Unit {0})) [ true ↦ fire_context_event built_in.Initialized (Session s) | false ↦ do_nothing ]) (λ _. handle (fire_context_event built_in.Initialized (Request r)) (λ _. finish) throw) throw) u Rests
      told true u k = then t legal fits (fire_context_event built_in.Initialized (Session s)) _ throw u Rests Rests (event_safe built_in.Initialized (Session s) u k) (λ _ v p. begun r v p) (λ x v p. absurd p)
      told false u k = begun r u k

      opened : (b : Bool) (u : World) → IsResting u → Does (handle (alter (Change.BeginRequest r (Some s))) (λ _. handle (Rattle.cdi_machine.specs.Commands.stand_in (Some r)) (λ _.
          handle (elim b as (λ _. Prog (Unit {0})) [ true ↦ fire_context_event built_in.Initialized (Session s) | false ↦ do_nothing ]) (λ _. handle (fire_context_event built_in.Initialized (Request r)) (λ _. finish) throw) throw) throw) throw) u Rests
      opened b u k = told b (after_change (Change.Stand (environment_of (after_change (Change.BeginRequest r (Some s)) u).contexts (Some r))) (after_change (Change.BeginRequest r (Some s)) u)) (requested u r (Some s) k)

      by : (b : Bool) → Does (handle (elim b as (λ _. Prog (Unit {0})) [ true ↦ alter (Change.BeginSession s) | false ↦ do_nothing ]) (λ _. handle (alter (Change.BeginRequest r (Some s))) (λ _. handle (Rattle.cdi_machine.specs.Commands.stand_in (Some r)) (λ _.
          handle (elim b as (λ _. Prog (Unit {0})) [ true ↦ fire_context_event built_in.Initialized (Session s) | false ↦ do_nothing ]) (λ _. handle (fire_context_event built_in.Initialized (Request r)) (λ _. finish) throw) throw) throw) throw) throw) w Rests
      by true = opened true (after_change (Change.BeginSession s) w) (sessioned w s h)
      by false = opened false w h

  end_session_safe : (s : Option (List ℕ)) (u w : World) → IsResting w → Does (end_session u s) w Rests
  end_session_safe None u w h = h
  end_session_safe (Some s) u w h = by (is_due u.contexts s)
    where
      by : (b : Bool) → Does (elim b as (λ _. Prog Given) [ true ↦ close (Session s) | false ↦ finish ]) w Rests
      by true = close_safe (Session s) w h
      by false = h

  end_safe : (r : List ℕ) (w : World) → IsResting w → Does (end r) w Rests
  end_safe r w h =
      then t legal fits (close (Request r)) _ throw (after_change (Change.Stand (environment_of w.contexts (Some r))) w) Rests _ (close_safe (Request r) (after_change (Change.Stand (environment_of w.contexts (Some r))) w) h)
      (λ _ u p. end_session_safe u.environment.session u u p) (λ x u p. absurd p)

  invalidate_safe : (s : List ℕ) (w : World) → IsResting w → Does (invalidate s) w Rests
  invalidate_safe s w h = by (is_used (after_change (Change.Mark s) w).contexts s)
    where
      by : (b : Bool) → Does (elim b as (λ _. Prog Given) [ true ↦ finish | false ↦ handle (Rattle.cdi_machine.specs.Commands.stand_alone_in s) (λ _. close (Session s)) throw ]) (after_change (Change.Mark s) w) Rests
      by true = marked w s h
      by false = close_safe (Session s) (after_change (Change.Stand (record { request = None; session = Some s })) (after_change (Change.Mark s) w)) (marked w s h)

  end_alone_safe : (s : List ℕ) (w : World) → IsResting w → Does (end_alone s) w Rests
  end_alone_safe s w h = close_safe (Session s) (after_change (Change.Stand (record { request = None; session = Some s })) w) h

  each_safe : {X : Type 0} (xs : List X) (f : X → Prog Given) (w : World) → IsResting w → ((x : X) (u : World) → IsResting u → Does (f x) u Rests) → Does (each xs f) w Rests
  each_safe [] f w h k = h
  each_safe (x ∷ []) f w h k = k x w h
  each_safe (x ∷ y ∷ xs) f w h k = then t legal fits (f x) _ throw w Rests Rests (k x w h) (λ a u p. each_safe (y ∷ xs) f u p k) (λ z u p. absurd p)

  -- ---- boot and shutdown

  boot_safe : (w : World) → IsResting w → Does boot w Rests
  boot_safe w h =
      then t legal fits (fire_context_event built_in.Initialized Application) _ throw w Rests _ (event_safe built_in.Initialized Application w h)
      (λ _ u p. then t legal fits (fire_container_event built_in.Startup) _ throw u Rests _ (container_event_safe built_in.Startup u p) (λ _ v q. q) (λ x v q. absurd q))
      (λ x u p. absurd p)

  shutdown_safe : (w : World) → IsResting w → Does shut_down w Rests
  shutdown_safe w h =
      then t legal fits (each (requests_of w.contexts) end) _ throw w Rests _ (each_safe (requests_of w.contexts) end w h end_safe)
      (λ _ u p. then t legal fits (each (sessions_of u.contexts) end_alone) _ throw u Rests _ (each_safe (sessions_of u.contexts) end_alone u p end_alone_safe)
      (λ _ v q. then t legal fits (fire_container_event built_in.Shutdown) _ throw (after_change (Change.Stand no_environment) v) Rests _ (container_event_safe built_in.Shutdown (after_change (Change.Stand no_environment) v) q)
      (λ _ x r. then t legal fits (close Application) _ throw x Rests _ (close_safe Application x r) (λ _ y s. s) (λ y z s. absurd s))
      (λ x y r. absurd r))
      (λ x v q. absurd q))
      (λ x u p. absurd p)

  -- ---- call, read, fire

  use_safe : (asked : Asked) (f : ℕ → Prog Given) (w : World) → Good t legal w → ((b n : ℕ) (u : World) → t.resolve asked ≡ One b → FitsBean t legal b → Good t legal u → Serves u.instances n (components.Bean b) → Does (f n) u (λ c v. After t legal u v × Answered t c))
      → Does (use_bean asked f) w (λ c u. After t legal w u × Answered t c)
  use_safe asked f w g k =
      borrow_safe t legal fits w (handle (resolve asked) (λ b. handle (refer_to b owners.Borrower) (λ r. handle (reach_instance r) f throw) throw) throw) g
      (resolving t legal fits asked _ inner _
      (λ b e served. then t legal fits (refer_to b owners.Borrower) _ throw inner (λ c u. After t legal inner u × Referred u.instances u.next b c × Told t c) _ (refer_safe t legal fits b owners.Borrower inner (borrowing w g) served tt)
      (λ r u p. then t legal fits (reach_instance r) f throw u (λ c v. After t legal u v × Reaches v.instances b c × Told t c) _ (reach_safe t legal fits r b u p.0.good served p.1)
      (λ n v q. loosen t legal fits (f n) v (λ c x. After t legal v x × Answered t c) (λ c x. After t legal inner x × Answered t c) (k b n v e served q.0.good q.1) (λ c x z. (after_trans (after_trans p.0 q.0) z.0, z.1)))
      (λ x v q. (after_trans p.0 q.0, (tt, q.2))))
      (λ x u p. (p.0, (tt, p.2))))
      (λ x h. (after_self t legal Any Each inner (borrowing w g), (tt, h))))
    where
      inner : World
      inner = after_change Change.Borrow w

  resting : (c : Completion Given) (u : World) → Rests c u → Completes c u
  resting (Gave a) u h = (h, tt)
  resting (Threw x) u h = absurd h

  used : (w : World) → IsResting w → (c : Completion Given) (u : World) → After t legal w u × Answered t c → Completes c u
  used w h c u p = (rests_after w u h p.0, p.1.1)

  pub command_safe : (c : Command) (w : World) → IsResting w → IsAdmitted t legal c → Does (task c) w Completes
  command_safe Command.Boot w h q = loosen t legal fits boot w Rests Completes (boot_safe w h) resting
  command_safe (Command.Begin r s) w h q = loosen t legal fits (begin r s) w Rests Completes (begin_safe r s w h) resting
  command_safe (Command.End r) w h q = loosen t legal fits (end r) w Rests Completes (end_safe r w h) resting
  command_safe (Command.Invalidate s) w h q = loosen t legal fits (invalidate s) w Rests Completes (invalidate_safe s w h) resting
  command_safe (Command.Call r asked method args) w h q =
      let u = after_change (Change.Stand (environment_of w.contexts r)) w in
      loosen t legal fits (use_bean asked (λ n. invoke_method n method args)) u (λ c v. After t legal u v × Answered t c) Completes
      (use_safe asked (λ n. invoke_method n method args) u h.0
      (λ b n v e served g lives. let a = q b e served in method_call_safe t legal fits moves n b a.class method args v g (managed_of served a.is) lives a.takes)) (used u h)
  command_safe (Command.Read r asked) w h q =
      let u = after_change (Change.Stand (environment_of w.contexts r)) w in
      loosen t legal fits (use_bean asked read_value) u (λ c v. After t legal u v × Answered t c) Completes
      (use_safe asked read_value u h.0 (λ b n v e served g lives. found t legal fits (Rattle.cdi_machine.specs.World.instance_at v n) lives.0 _ v _ lives.1 (after_self t legal Any Each v g, (tt, tt)))) (used u h)
  command_safe (Command.Fire r class qualifiers v) w h q =
      let u = after_change (Change.Stand (environment_of w.contexts r)) w in
      called t legal fits (Task.Fire class (t.written qualifiers) v) u _ h.0 (λ c x p. (rests_after u x h p.0, p.1))
  command_safe Command.Live w h q = (h, tt)
  command_safe Command.Shutdown w h q = loosen t legal fits shut_down w Rests Completes (shutdown_safe w h) resting
