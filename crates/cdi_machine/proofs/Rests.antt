-- Between commands nothing is running.
use Rattle.std.proofs.Common.{ℕ, suc, ◌≡◌, List, length, refl, ◌∙◌, ap, Option, Some, None, Bool, true, false}
use Rattle.std.specs.Prelude.{nat_lt, ◌^◌}
use Rattle.cdi_base.specs.declared.value.Value.TheVariants as values
use Rattle.cdi_base.specs.declared.entry.Entry.TheVariants as entries
use Rattle.cdi_base.specs.declared.place.Place.{Place}
use Rattle.cdi_base.specs.declared.place.Place.TheVariants as places
use Rattle.cdi_base.specs.declared.built_in.BuiltIn.TheVariants as built_in
use Rattle.cdi_base.specs.declared.reply.Reply.{Reply}
use Rattle.cdi_store.specs.declared.instance.Component.{Component}
use Rattle.cdi_store.specs.declared.instance.Component.TheVariants as components
use Rattle.cdi_store.specs.declared.instance.Owner.{Owner}
use Rattle.cdi_store.specs.declared.instance.Owner.TheVariants as owners
use Rattle.cdi_machine.specs.Words.{Name, Fields}
use Rattle.cdi_machine.specs.Tables.{Tables}
use Rattle.cdi_machine.specs.World.{World, Change, instance_at, at_begin}
use Rattle.cdi_machine.specs.Programs.{Task, Given, Completion, Running, Prog, ret, throw, handle, quietly, require_present, call, note, alter, each, give_number, require_depth, next_number, rethrow, bean_at, interceptor_at, instance, finally}
use Rattle.cdi_machine.specs.Contexts.{obtain}
use Rattle.cdi_machine.specs.Bodies.{run_rest, run_body, carry_on}
use Rattle.cdi_machine.specs.Destruction.{clean_up, destroy, ready_instance, only_ready, release, dismiss, clear}
use Rattle.cdi_machine.specs.Creation.{discard, end_creation, create_by, begin_creation, inject, first_fields, make, create, intercept}
use Rattle.cdi_machine.specs.Events.{fire, notify}
use Rattle.cdi_machine.specs.Commands.{Command, task}
use Rattle.cdi_machine.specs.Runs.{Legal, Outcome}
use Rattle.cdi_machine.specs.Container.{State, is_cut, GivesReply, Leads}
use Rattle.cdi_machine.specs.Laws.{IsEnd, IsAtRest, Rests, RestsBetween}
use Rattle.cdi_machine.proofs.Levels.{Height, height, Steady, steady, TasksLevel, ends_at}
use Rattle.cdi_machine.proofs.Walk
use Rattle.cdi_machine.proofs.Walk.{steady_of}
use Rattle.cdi_machine.proofs.Refused.{not_halted, refused}

module _ (h : Height) where
  abbrev Level : {A : Type 0} → Prog A → Type 0
  Level p = Steady h h p

  then : {A B : Type 0} (p : Prog A) (f : A → Prog B) → Level p → ((a : A) → Level (f a)) → Level (handle p f throw)
  then p f q qf = steady h h h p f throw q qf (λ x. refl)

  caught : {A B : Type 0} (p : Prog A) (f : A → Prog B) (g : Name → Prog B) → Level p → ((a : A) → Level (f a)) → ((x : Name) → Level (g x)) → Level (handle p f g)
  caught p f g q qf qg = steady h h h p f g q qf qg

  l_present : {A : Type 0} (o : Option A) → Level (require_present o)
  l_present None = refl
  l_present (Some a) = refl

  l_call : (t : Task) → Level (call t)
  l_call t (Completion.Gave g) = refl
  l_call t (Completion.Threw x) = refl

module _ (h : Height) where
  l_body : (r : Running) → Steady h h (run_body r)
  l_body r t w = by (nat_lt (length w.bodies) w.depth)
    where
      by : (c : Bool) → Steady h h (handle (require_depth c) (λ _. handle (instance r.instance) (λ _. handle (note (entries.Run r.instance r.place)) (λ _. handle (alter (Change.Start r.instance)) (λ _. finally (call (Task.Acts r)) (alter Change.Stop)) throw) throw) throw) throw)
      by true = then h (instance r.instance) _ (λ t w. l_present h (instance_at w r.instance)) (λ _. let k : Height = record h { bodies = suc h.bodies } in steady k h k (call (Task.Acts r)) _ _ (l_call k (Task.Acts r)) (λ _. refl) (λ _. refl))
      by false = tt

  l_destroy : (n : ℕ) → Steady h h (destroy n)
  l_destroy n = then h (ready_instance n) _ (λ t w. l_present h (only_ready (instance_at w n))) λ o. then h (quietly (clean_up n o.value o.component)) _ (steady_of h h (quietly (clean_up n o.value o.component)) (Walk.l_quietly h (clean_up n o.value o.component) (Walk.l_farewell h n o.value o.component))) λ _. then h (call (Task.Release n)) _ (l_call h (Task.Release n)) (λ _. refl)

  l_discard : (n : ℕ) → Steady h h (discard n)
  l_discard n = then h (call (Task.Release n)) _ (l_call h (Task.Release n)) (λ _. refl)

  l_created : (n : ℕ) (g : Given) → Steady h h (end_creation n g)
  l_created n (Given.Result values.Null) = then h (discard n) _ (l_discard n) (λ _. refl)
  l_created n (Given.Result (values.Int i)) = refl
  l_created n (Given.Result (values.Text t)) = refl
  l_created n (Given.Number m) = refl
  l_created n Given.Empty = refl

  l_creating : (n : ℕ) (steps : Prog Given) → Steady h h steps → Steady h h (create_by n steps)
  l_creating n steps q = caught h steps _ _ q (l_created n) (λ x. then h (discard n) _ (l_discard n) (λ _. steady_of h h (rethrow {A = Given} x built_in.CreationException) (Walk.l_rethrow h Given x built_in.CreationException)))

  l_new : (place : Place) (component : Component) (owner : Owner) (fields : Fields) → Steady h h (begin_creation place component owner fields)
  l_new place component owner fields = then h next_number _ (λ t w. by (nat_lt w.next (2 ^ 32)) w.next) (λ n. refl)
    where
      by : (c : Bool) (n : ℕ) → Steady h h (give_number c n)
      by true n = refl
      by false n = tt

  l_create : (b : ℕ) (owner : Owner) → Steady h h (create b owner)
  l_create b owner = then h (bean_at b) _ (λ t w. l_present h (t.bean b)) λ bean. then h (begin_creation bean.place (components.Bean b) owner (first_fields bean.kind)) (λ n. create_by n (make n bean bean.kind)) (l_new bean.place (components.Bean b) owner (first_fields bean.kind)) (λ n. l_creating n (make n bean bean.kind) (steady_of h h (make n bean bean.kind) (Walk.l_made_by h n bean bean.kind)))

  l_intercept : (i n : ℕ) → Steady h h (intercept i n)
  l_intercept i n =
      then h (interceptor_at i) _ (λ t w. l_present h (t.interceptor i)) λ x.
      then h (begin_creation (places.Class x.name) (components.Interceptor i) (owners.Instance n) x.fields) _ (l_new (places.Class x.name) (components.Interceptor i) (owners.Instance n) x.fields) λ m.
      l_creating m (handle (each x.injected (λ p. inject m p.0 p.1)) (λ _. ret (Given.Number m)) throw) (then h (each x.injected (λ p. inject m p.0 p.1)) (λ _. ret (Given.Number m)) (steady_of h h (each x.injected (λ p. inject m p.0 p.1)) (Walk.l_each h x.injected (λ p. inject m p.0 p.1) (λ p. Walk.l_inject h m p.0 p.1))) (λ _. refl))

pub tasks_level : TasksLevel
tasks_level (Task.Obtain b) h = steady_of h h (obtain b) (Walk.l_obtain h b)
tasks_level (Task.Create b owner) h = l_create h b owner
tasks_level (Task.Intercept i n) h = l_intercept h i n
tasks_level (Task.Rest chain) h = steady_of h h (run_rest chain) (Walk.l_rest h chain)
tasks_level (Task.Body r) h = l_body h r
tasks_level (Task.Acts r) h = steady_of h h (carry_on r) (Walk.l_acts h r)
tasks_level (Task.Destroy n) h = l_destroy h n
tasks_level (Task.Release n) h = steady_of h h (release n) (Walk.l_releases h n)
tasks_level (Task.Fire class qualifiers v) h = steady_of h h (fire class qualifiers v) (Walk.l_fire h class qualifiers v)
tasks_level (Task.Notify os v) h = steady_of h h (notify os v) (Walk.l_notify h os v)
tasks_level Task.Dismiss h = steady_of h h dismiss (Walk.l_dismiss h)
tasks_level (Task.Clear c) h = steady_of h h (clear c) (Walk.l_clears h c)

module _ (tables : Tables) (legal : Legal) where
  pub rests : Rests tables legal
  rests c w v (Outcome.Ends d) r x q =
      let e : height v ≡ height w = ends_at tables legal tasks_level (height w) r (steady_of (height w) (height w) (task c) (Walk.l_task (height w) c)) in
      record {
        invocations = ap (λ (z : Height). z.invocations) e ∙ q.invocations;
        bodies = ap (λ (z : Height). z.bodies) e ∙ q.bodies;
        temporaries = ap (λ (z : Height). z.temporaries) e ∙ q.temporaries;
      }
  rests c w v (Outcome.Cut cause) r x q = absurd x

  -- ---- over lists of commands

  abbrev Resting : State → Type 0
  Resting s = s.halted ≡ false → IsAtRest s.world

  at_its_begin : (w : World) → IsAtRest w → IsAtRest (at_begin w)
  at_its_begin w q = record { invocations = q.invocations; bodies = q.bodies; temporaries = q.temporaries }

  not_cut : (o : Outcome) → is_cut o ≡ false → IsEnd o
  not_cut (Outcome.Ends c) e = tt
  not_cut (Outcome.Cut cause) e = absurd (cc)

  answered : {s t : State} {c : Command} {r : Reply} → GivesReply tables legal s c r t → Resting s → Resting t
  answered {s = s} (GivesReply.refuses r e) q h = refused Resting s q (λ k. at_its_begin s.world (q k)) h
  answered {s = s} {c = c} (GivesReply.carries_out {o = o} {v = v} e run) q h =
      rests c (at_begin s.world) v o run (not_cut o h) (at_its_begin s.world (q (not_halted tables s c e)))

  led : {s t : State} {cs : List Command} → Leads tables legal s cs t → Resting s → Resting t
  led Leads.stays q = q
  led (Leads.goes_on a l) q = led l (answered a q)

  pub rests_between : RestsBetween tables legal
  rests_between ticks depth cs s l = led l (λ _. record { invocations = refl; bodies = refl; temporaries = refl })
