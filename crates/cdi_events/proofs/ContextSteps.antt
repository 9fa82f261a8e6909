-- The steps by which contexts end are those of the machine.
use Rattle.std.proofs.Common.{ℕ, ◌≡◌, ◌∙◌, List, [], ◌∷◌, refl, sym, ap, arith, Option, Some, None, Bool, true, false}
use Rattle.std.proofs.Math.Path.{fun_ext}
use Rattle.std.specs.Prelude.{if◌then◌else◌}
use Rattle.std.specs.Global.{Box}
use Rattle.cdi_base.specs.declared.value.Value.TheVariants as values
use Rattle.cdi_base.specs.declared.built_in.BuiltIn.{BuiltIn}
use Rattle.cdi_base.specs.declared.built_in.BuiltIn.TheVariants as built_in
use Rattle.cdi_base.specs.BuiltIn.{number_of}
use Rattle.cdi_store.specs.declared.instance.Context.{Context}
use Rattle.cdi_store.specs.declared.instance.Context.TheVariants.{Application, Request, Session}
use Rattle.cdi_contexts.specs.Contexts.{is_due}
use Rattle.cdi_machine.specs.Tables.{Tables}
use Rattle.cdi_machine.specs.World.{World, Change, after_change}
use Rattle.cdi_machine.specs.Programs as machine
use Rattle.cdi_machine.specs.Programs.{Given, Completion, Gave, Threw, Prog, ret, throw, see, nested, change, handle, quietly, complete, finish, each, ◌>>=◌, ◌>>◌}
use Rattle.cdi_machine.specs.Events.{qualifier, fire_container_event}
use Rattle.cdi_machine.specs.Commands.{close, end, end_alone, end_session, sessions_of, stand_in}
use Rattle.cdi_host.specs.Standing.{due_in, due_session, standing_in, standing_in_session}
use Rattle.cdi_steps.specs.Words.{qualifier_of, scope_of, task_of}
use Rattle.cdi_steps.specs.Meanings.{node, after_close, close_application, close_context, close_then, end_due_session, finish_context, shut_requests, shut_sessions}
use Rattle.cdi_steps.specs.Contexts.{BeginsToClose, empty_then, finish_then}
use Rattle.cdi_steps.specs.Leads.{next_stop}
use Rattle.cdi_steps.specs.Steps.{Settles}
use Rattle.cdi_steps.proofs.Changes.{same_invoked}
use Rattle.cdi_steps.proofs.Sequences.{after_event, after_event_within, bind_after}
use Rattle.cdi_steps.specs.declared.task.AfterClose.{AfterClose}
use Rattle.cdi_steps.specs.declared.task.AfterClose.TheVariants as afters
use Rattle.cdi_steps.specs.declared.task.Call.TheVariants as calls
use Rattle.cdi_steps.specs.declared.task.Closing.{Closing}
use Rattle.cdi_steps.specs.declared.task.ContainerEvent.TheVariants as events
use Rattle.cdi_steps.specs.declared.task.Frame.TheVariants as frames
use Rattle.cdi_steps.specs.declared.task.Next.{Next}
use Rattle.cdi_steps.specs.declared.task.Next.TheVariants as nexts
use Rattle.cdi_steps.specs.declared.task.Task.TheVariants as tasks

-- the qualifier of a context's event names its scope
same_qualifier : (what : BuiltIn) (c : Context) → qualifier what c ≡ qualifier_of what (scope_of c)
same_qualifier what Application = refl
same_qualifier what (Request r) = refl
same_qualifier what (Session s) = refl

-- ---- an end behind which nothing comes

-- what comes after the last event, as it stands in the end of a context
abbrev last : Completion Given → Prog Given
last r = handle (quietly (complete r)) (λ _. finish) throw

finish_alone : (c : Context) → finish_context c ≡ (finish_context c >> finish)
finish_alone c = ap (λ k. change (Change.Finish c) (nested (machine.Clear c) k)) (fun_ext after_clear)
  where
    after_last : (r : Completion Given) → last r ≡ handle (last r) (λ _. finish) throw
    after_last (Gave g) = refl
    after_last (Threw x) = refl

    after_clear : (r : Completion Given)
        → handle (complete r) (λ _. close_context c) throw ≡ handle (handle (complete r) (λ _. close_context c) throw) (λ _. finish) throw
    after_clear (Gave g) =
        ap (λ k. change (Change.Close c) (nested (machine.Fire (number_of built_in.Object) (qualifier built_in.Destroyed c ∷ []) values.Null) k)) (fun_ext after_last)
    after_clear (Threw x) = refl

close_alone : (c : Context) → close c ≡ close_then c afters.Nothing
close_alone c = ap (λ k. nested (machine.Fire (number_of built_in.Object) (qualifier built_in.BeforeDestroyed c ∷ []) values.Null) k) (fun_ext by)
  where
    by : (r : Completion Given)
        → handle (quietly (complete r)) (λ _. finish_context c) throw ≡ handle (handle (quietly (complete r)) (λ _. finish_context c) throw) (λ _. finish) throw
    by (Gave g) = finish_alone c
    by (Threw x) = finish_alone c

-- the end of the session, if it is due
abbrev ending : Option Context → Prog Given
ending None = finish
ending (Some c) = close c

-- and then this
abbrev ending_then : Option Context → Prog Given → Prog Given
ending_then None p = p
ending_then (Some c) p = close c >> p

module _ (t : Tables) where
  -- ---- the end of a context

  close_settled : (c : Context) (after : AfterClose) (closing : Box Closing) (w : World)
      → closing.value ≡ record { context = c; after = after }
      → next_stop t (close_then c after) w
      ≡ (node (nexts.Needs (tasks.Start (calls.Fire (events.BeforeDestroyed (scope_of c)))) (frames.Finishing closing)), w)
  close_settled c after closing w e =
      ap (λ k. (nested (machine.Fire (number_of built_in.Object) (qualifier built_in.BeforeDestroyed c ∷ []) values.Null) k, w)) (fun_ext (after_event_within (finish_context c) (after_close after)))
      ∙ ap (λ q. (nested (machine.Fire (number_of built_in.Object) (q ∷ []) values.Null) (λ _. finish_context c >> after_close after), w)) (same_qualifier built_in.BeforeDestroyed c)
      ∙ ap (λ (k : Closing). (nested (task_of (calls.Fire (events.BeforeDestroyed (scope_of c)))) (λ _. finish_then k), w)) (sym e)

  -- a program that stops where the end of a context begins
  pub begins : {c : Context} {after : AfterClose} {next : Next} {p : Prog Given} {w v : World} → BeginsToClose c after next
      → next_stop t p w ≡ next_stop t (close_then c after) v → v.invocations ≡ w.invocations → Settles t p 2 w next v
  begins {c} {after} {v = v} b e i =
      rw b.next_is
      (record { settles = e ∙ close_settled c after b.closing v b.is; lowers = omega arith; known = λ _. (tt, tt); invoked = same_invoked i; quiet = tt })

  pub begins_alone : {c : Context} {next : Next} {p : Prog Given} {w v : World} → BeginsToClose c afters.Nothing next
      → next_stop t p w ≡ next_stop t (close c) v → v.invocations ≡ w.invocations → Settles t p 2 w next v
  begins_alone {c} {v = v} b e i = begins b (e ∙ ap (λ p. next_stop t p v) (close_alone c)) i

  pub finishing_settles : (closing : Box Closing) (c : Context) (w : World) → c ≡ closing.value.context
      → Settles t (finish_then closing.value) 3 w (nexts.Needs (tasks.Start (calls.Clear c)) (frames.Emptying closing)) (after_change (Change.Finish c) w)
  finishing_settles closing c w e =
      rw e (record { settles = refl; lowers = omega arith; known = λ _. (tt, tt); invoked = same_invoked refl; quiet = tt })

  pub emptied_settles : (c : Context) (after : AfterClose) (g : Given) (w : World)
      → Settles t (empty_then (record { context = c; after = after }) (Gave g)) 2 w
      (nexts.Needs (tasks.Start (calls.Fire (events.Destroyed (scope_of c)))) (frames.Closed after)) (after_change (Change.Close c) w)
  emptied_settles c after g w = record {
    settles =
        ap (λ k. (nested (machine.Fire (number_of built_in.Object) (qualifier built_in.Destroyed c ∷ []) values.Null) k, after_change (Change.Close c) w)) (fun_ext (after_event_within finish (after_close after)))
        ∙ ap (λ q. (nested (machine.Fire (number_of built_in.Object) (q ∷ []) values.Null) (λ _. after_close after), after_change (Change.Close c) w)) (same_qualifier built_in.Destroyed c);
    lowers = omega arith;
    known = λ _. (tt, tt);
    invoked = same_invoked refl;
    quiet = tt;
  }

  -- ---- the command's session

  by_due : (x : Bool) (s : List ℕ) (p : Prog Given) (w : World)
      → next_stop t ((elim x [ true ↦ close (Session s) | false ↦ finish ]) >> p) w ≡ next_stop t (ending_then (if x then Some (Session s) else None) p) w
  by_due true s p w = refl
  by_due false s p w = refl

  pub due_then : (p : Prog Given) {x : Option Context} (w : World) → due_session w ≡ x
      → next_stop t (end_due_session >> p) w ≡ next_stop t (ending_then x p) w
  due_then p w e = by w.environment.session ∙ ap (λ x. next_stop t (ending_then x p) w) e
    where
      by : (s : Option (List ℕ)) → next_stop t (end_session w s >> p) w ≡ next_stop t (ending_then (due_in w.contexts s) p) w
      by None = refl
      by (Some s) = by_due (is_due w.contexts s) s p w

  by_due_alone : (x : Bool) (s : List ℕ) (w : World)
      → next_stop t (elim x [ true ↦ close (Session s) | false ↦ finish ]) w ≡ next_stop t (ending (if x then Some (Session s) else None)) w
  by_due_alone true s w = refl
  by_due_alone false s w = refl

  pub due_alone : {x : Option Context} (w : World) → due_session w ≡ x → next_stop t end_due_session w ≡ next_stop t (ending x) w
  due_alone w e = by w.environment.session ∙ ap (λ x. next_stop t (ending x) w) e
    where
      by : (s : Option (List ℕ)) → next_stop t (end_session w s) w ≡ next_stop t (ending (due_in w.contexts s)) w
      by None = refl
      by (Some s) = by_due_alone (is_due w.contexts s) s w

  -- ---- requests and sessions, one after the other

  -- behind the requests
  abbrev then_sessions : Prog Given
  then_sessions = (see λ t w. ret (sessions_of w.contexts)) >>= shut_sessions

  -- behind the sessions
  abbrev then_shutdown : Prog Given
  then_shutdown = stand_in None >> (fire_container_event built_in.Shutdown >> close_application)

  pub first_request : (r : List ℕ) (rs : List (List ℕ)) (w : World)
      → next_stop t (shut_requests (r ∷ rs)) w
      ≡ next_stop t (close (Request r) >> (end_due_session >> shut_requests rs)) (standing_in (Some r) w)
  first_request r [] w =
      ap (λ p. next_stop t p (standing_in (Some r) w)) (bind_after (close (Request r)) (λ _. end_due_session) (λ _. then_sessions))
  first_request r (n ∷ ns) w =
      ap (λ p. next_stop t p (standing_in (Some r) w))
      (bind_after (close (Request r) >> end_due_session) (λ _. each (n ∷ ns) end) (λ _. then_sessions)
      ∙ bind_after (close (Request r)) (λ _. end_due_session) (λ _. each (n ∷ ns) end >> then_sessions))

  pub first_session : (s : List ℕ) (ss : List (List ℕ)) (w : World)
      → next_stop t (shut_sessions (s ∷ ss)) w ≡ next_stop t (close (Session s) >> shut_sessions ss) (standing_in_session s w)
  first_session s [] w = refl
  first_session s (n ∷ ns) w =
      ap (λ p. next_stop t p (standing_in_session s w)) (bind_after (close (Session s)) (λ _. each (n ∷ ns) end_alone) (λ _. then_shutdown))

  pub no_session : (w : World)
      → Settles t (shut_sessions []) 2 w (nexts.Needs (tasks.Start (calls.Fire events.Shutdown)) frames.ShuttingDown) (standing_in None w)
  no_session w = record {
    settles = ap (λ k. (nested (task_of (calls.Fire events.Shutdown)) k, standing_in None w)) (fun_ext (after_event close_application));
    lowers = omega arith;
    known = λ _. (tt, tt);
    invoked = same_invoked refl;
    quiet = tt;
  }
