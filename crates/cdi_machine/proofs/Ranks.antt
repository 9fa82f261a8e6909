-- Each task calls tasks of a lower rank alone, before its next entry.
use Rattle.std.proofs.Common.{ℕ, ◌<◌, ◌+◌, List, [], ◌∷◌, length, arith, Option, Some, None, Bool, true, false}
use Rattle.std.specs.Prelude.{nat_lt, ◌^◌}
use Rattle.cdi_base.specs.declared.value.Value.{Value}
use Rattle.cdi_base.specs.declared.entry.Entry.TheVariants as entries
use Rattle.cdi_base.specs.declared.place.Place.{Place}
use Rattle.cdi_base.specs.declared.place.Place.TheVariants as places
use Rattle.cdi_base.specs.declared.built_in.BuiltIn.{BuiltIn}
use Rattle.cdi_base.specs.declared.built_in.BuiltIn.TheVariants as built_in
use Rattle.cdi_base.specs.Maps.{at}
use Rattle.cdi_store.specs.declared.instance.Context.{Context}
use Rattle.cdi_contexts.specs.declared.context.Status.{Status}
use Rattle.cdi_contexts.specs.declared.context.Status.TheVariants.{Ending, Open}
use Rattle.cdi_contexts.specs.declared.context.Held.{Held}
use Rattle.cdi_contexts.specs.declared.context.Held.TheVariants.{Is, Making}
use Rattle.cdi_store.specs.declared.instance.Component.{Component}
use Rattle.cdi_store.specs.declared.instance.Component.TheVariants as components
use Rattle.cdi_store.specs.declared.instance.Owner.{Owner}
use Rattle.cdi_store.specs.declared.instance.Owner.TheVariants as owners
use Rattle.cdi_store.specs.declared.references.Reference.{Reference}
use Rattle.cdi_store.specs.declared.references.Reference.TheVariants.{Direct, Proxy}
use Rattle.cdi_store.specs.declared.references.Reference.TheVariants.{Empty as NoReference}
use Rattle.cdi_machine.specs.Words.{Name, Fields, Asked}
use Rattle.cdi_machine.specs.Tables.{Member, Observer, Resolution, One, Nothing, Many}
use Rattle.cdi_machine.specs.World.{World, Change, instance_at}
use Rattle.cdi_machine.specs.Programs.{ActiveContext, Task, Given, Completion, Running, Prog, ret, throw, cut, miss, see, change, tick, mark, act, choose, nested, handle, require_present, require, complete, call, each, top, active_or_raise, context, give_number, require_depth, require_one, resolve, rethrow, require_number, bean_at, instance, note, alter, finally}
use Rattle.cdi_machine.specs.Contexts.{find_or_create, obtain, is_normal, direct_reference, refer_to, resolve_point, resolve_points, stays, reach_instance}
use Rattle.cdi_machine.specs.Bodies.{invoke_by, provide, invoke, body_at_start, first_of, interceptor_of, given_by, run_rest, run_body, carry_on}
use Rattle.cdi_machine.specs.Destruction.{ready_instance, only_ready, destroy_ready, latest, dismiss_latest, give_back, borrow_for, obtain_receiver, release_from, clear_from}
use Rattle.cdi_machine.specs.Creation.{begin_creation}
use Rattle.cdi_machine.specs.Events.{observe, deliver, notify, is_skipped}
use Rattle.cdi_machine.specs.Machine.{machine}
use Rattle.cdi_machine.proofs.Total.{rank, Unless, Ranked, handle_ranked}

unless : (t : Task) {X : Completion Given → Type 0} → ((c : Completion Given) → X c) → Unless t X
unless (Task.Obtain b) f = f
unless (Task.Create b owner) f = f
unless (Task.Intercept i n) f = f
unless (Task.Rest chain) f = f
unless (Task.Body r) f = f
unless (Task.Acts r) f = f
unless (Task.Destroy n) f = λ x. f (Completion.Threw x)
unless (Task.Release n) f = f
unless (Task.Fire class qualifiers v) f = f
unless (Task.Notify observers v) f = f
unless Task.Dismiss f = f
unless (Task.Clear c) f = f

module _ (r : ℕ) where
  then : {A B : Type 0} (p : Prog A) (f : A → Prog B) → Ranked r p → ((a : A) → Ranked r (f a)) → Ranked r (handle p f throw)
  then p f q qf = handle_ranked r p f throw q qf (λ x. tt)

  r_present : {A : Type 0} (o : Option A) → Ranked r (require_present o)
  r_present None = tt
  r_present (Some a) = tt

  r_require : (b : Bool) (x : BuiltIn) → Ranked r (require b x)
  r_require true x = tt
  r_require false x = tt

  r_completed : (c : Completion Given) → Ranked r (complete c)
  r_completed (Completion.Gave g) = tt
  r_completed (Completion.Threw x) = tt

  r_call : (t : Task) → rank t < r → Ranked r (call t)
  r_call t q = (q, unless t r_completed)

  r_each : {X : Type 0} (xs : List X) (f : X → Prog Given) → ((x : X) → Ranked r (f x)) → Ranked r (each xs f)
  r_each [] f q = tt
  r_each (x ∷ []) f q = q x
  r_each (x ∷ y ∷ xs) f q = then (f x) _ (q x) (λ _. r_each (y ∷ xs) f q)

  r_top : {X : Type 0} (xs : List X) → Ranked r (top xs)
  r_top [] = tt
  r_top (x ∷ xs) = tt

  r_active : (o : Option ActiveContext) → Ranked r (active_or_raise o)
  r_active None = tt
  r_active (Some a) = tt

  r_one : (x : Resolution) → Ranked r (require_one x)
  r_one (One b) = tt
  r_one Nothing = tt
  r_one Many = tt

  r_number : (g : Given) → Ranked r (require_number g)
  r_number (Given.Number n) = tt
  r_number (Given.Result v) = tt
  r_number Given.Empty = tt

  r_rethrow : (A : Type 0) (x : Name) (b : BuiltIn) → Ranked r (rethrow {A = A} x b)
  r_rethrow A x b t w = by (t.is_checked x)
    where
      by : (c : Bool) → Ranked r (elim c as (λ _. Prog A) [ true ↦ Rattle.cdi_machine.specs.Programs.raise b | false ↦ throw x ])
      by true = tt
      by false = tt

  r_contextual : 0 < r → (b : ℕ) (c : ActiveContext) (h : Option Held) → Ranked r (find_or_create b c h)
  r_contextual q b c (Some (Is n)) = tt
  r_contextual q b c (Some Making) = tt
  r_contextual q b c None = by c.has.status
    where
      by : (s : Status) → Ranked r (elim s as (λ _. Prog Given) [ Open ↦ call (Task.Create b (owners.Context c.context)) | Ending ↦ Rattle.cdi_machine.specs.Programs.raise built_in.ContextNotActiveException ])
      by Open = r_call (Task.Create b (owners.Context c.context)) q
      by Ending = tt

  r_obtain : 0 < r → (b : ℕ) → Ranked r (obtain b)
  r_obtain q b = then (bean_at b) _ (λ t w. r_present (t.bean b)) λ bean. then (context bean.scope) _ (λ t w. r_active _) λ c. r_contextual q b c (at c.has.holds b)

  r_reference : 0 < r → (b : ℕ) (owner : Owner) → Ranked r (refer_to b owner)
  r_reference q b owner = then (bean_at b) _ (λ t w. r_present (t.bean b)) λ bean. by (is_normal bean.scope)
    where
      by : (c : Bool) → Ranked r (elim c as (λ _. Prog Reference) [ true ↦ ret (Proxy b) | false ↦ handle (call (Task.Create b owner)) (λ made. ret (direct_reference made)) throw ])
      by true = tt
      by false = then (call (Task.Create b owner)) _ (r_call (Task.Create b owner) q) (λ _. tt)

  r_use : 1 < r → (x : Reference) → Ranked r (reach_instance x)
  r_use q NoReference = tt
  r_use q (Direct n) = λ t w. then (require (stays (instance_at w n)) built_in.IllegalStateException) _ (r_require _ _) (λ _. tt)
  r_use q (Proxy b) = then (call (Task.Obtain b)) _ (r_call (Task.Obtain b) q) r_number

  r_injected : 0 < r → (points : List Asked) (owner : Owner) → Ranked r (resolve_points points owner)
  r_injected q [] owner = tt
  r_injected q (point ∷ points) owner =
      then (resolve_point point owner) _ (then (resolve point) _ (λ t w. r_one _) (λ b. r_reference q b owner)) λ x. then (resolve_points points owner) _ (r_injected q points owner) (λ _. tt)

  r_receiver : 1 < r → (b : ℕ) → Ranked r (obtain_receiver b)
  r_receiver q b = then (refer_to b owners.Borrower) _ (r_reference (omega arith) b owners.Borrower) (r_use q)

  r_give_back : 1 < r → Ranked r give_back
  r_give_back q = handle_ranked r (call Task.Dismiss) _ _ (r_call Task.Dismiss q) (λ _. tt) (λ _. tt)

  r_invoke : 1 < r → (n : ℕ) (m : Member) (args : List Value) (owner : Owner) → Ranked r (invoke n m args owner)
  r_invoke q n m args owner =
      handle_ranked r (handle (provide m.points owner) (λ _. call (Task.Rest m.chain)) throw) _ _
      (then (provide m.points owner) _ (then (resolve_points m.points owner) _ (r_injected (omega arith) m.points owner) (λ _. tt)) (λ _. r_call (Task.Rest m.chain) q))
      (λ _. tt) (λ _. tt)

  r_borrowing : 1 < r → (p : Prog Given) → Ranked r p → Ranked r (borrow_for p)
  r_borrowing q p x = handle_ranked r p _ _ x (λ _. then give_back _ (r_give_back q) (λ _. tt)) (λ _. then give_back _ (r_give_back q) (λ _. tt))

  r_observe : 1 < r → (o : Observer) (v : Value) → Ranked r (observe o v)
  r_observe q o v = r_borrowing q (handle (obtain_receiver o.bean) (λ n. invoke n o.member (v ∷ []) owners.Borrower) throw) (then (obtain_receiver o.bean) (λ n. invoke n o.member (v ∷ []) owners.Borrower) (r_receiver q o.bean) (λ n. r_invoke q n o.member (v ∷ []) owners.Borrower))

  r_deliver : 1 < r → (o : Observer) (v : Value) → Ranked r (deliver o v)
  r_deliver q o v = then (bean_at o.bean) _ (λ t w. r_present (t.bean o.bean)) λ bean t w. by (is_skipped w o bean)
    where
      by : (c : Bool) → Ranked r (elim c as (λ _. Prog Given) [ true ↦ Rattle.cdi_machine.specs.Programs.finish | false ↦ handle (observe o v) (λ _. Rattle.cdi_machine.specs.Programs.finish) (λ x. rethrow x built_in.ObserverException) ])
      by true = tt
      by false = handle_ranked r (observe o v) _ _ (r_observe q o v) (λ _. tt) (λ x. r_rethrow _ x built_in.ObserverException)

  r_first_of : (w : World) (i : ℕ) (ns : List ℕ) → Ranked r (first_of w i ns)
  r_first_of w i [] = tt
  r_first_of w i (n ∷ ns) = by (Rattle.cdi_machine.specs.Bodies.is_of i (instance_at w n)) (r_first_of w i ns)
    where
      by : (c : Bool) → Ranked r (first_of w i ns) → Ranked r (elim c as (λ _. Prog ℕ) [ true ↦ ret n | false ↦ first_of w i ns ])
      by true h = tt
      by false h = h

  r_instance : (n : ℕ) → Ranked r (instance n)
  r_instance n t w = r_present (instance_at w n)

  r_rest : 0 < r → (chain : List ℕ) → Ranked r (run_rest chain)
  r_rest q [] =
      then Rattle.cdi_machine.specs.Programs.invocation _ (λ t w. r_top w.invocations) λ v. then (each v.members _) _ (r_each v.members _ (λ m. r_call (Task.Body (body_at_start v.target m.place m.body v.parameters v.references [])) q)) (λ _. tt)
  r_rest q (i ∷ chain) =
      then Rattle.cdi_machine.specs.Programs.invocation _ (λ t w. r_top w.invocations) λ v.
      then (Rattle.cdi_machine.specs.Programs.interceptor_at i) _ (λ t w. r_present (t.interceptor i)) λ x.
      then (require_present (x.body v.role)) _ (r_present (x.body v.role)) λ b.
      then (interceptor_of v.target i) _ (then (instance v.target) _ (r_instance v.target) (λ o t w. r_first_of w i o.dependents)) λ n.
      let x = body_at_start n (places.Interceptor x.name v.role) b v.parameters [] chain in then (call (Task.Body x)) _ (r_call (Task.Body x) q) (λ _. tt)

r_release : (n : ℕ) (ns : List ℕ) → Ranked 1 (release_from n ns)
r_release n [] = tt
r_release n (d ∷ []) = (omega arith, λ x. tt)
r_release n (d ∷ e ∷ ns) = tt

r_clear : (c : Context) (o : Option ℕ) → Ranked 1 (clear_from c o)
r_clear c None = tt
r_clear c (Some n) = (omega arith, λ x. tt)

r_latest : (o : Option ℕ) → Ranked 1 (dismiss_latest o)
r_latest None = tt
r_latest (Some n) = (omega arith, λ x. tt)

r_notify : (os : List Observer) (v : Value) → Ranked (2 + length os) (notify os v)
r_notify [] v = tt
r_notify (o ∷ []) v = then 3 (deliver o v) _ (r_deliver 3 (omega arith) o v) (λ _. r_call 3 (Task.Notify [] v) (omega arith))
r_notify (o ∷ u ∷ os) v = tt

r_new : {B : Type 0} (place : Place) (component : Component) (owner : Owner) (fields : Fields) (f : ℕ → Prog B) (h : Name → Prog B) → Ranked 0 (handle (begin_creation place component owner fields) f h)
r_new {B} place component owner fields f h t w = by (nat_lt w.next (2 ^ 32))
  where
    by : (c : Bool) → Ranked 0 (handle (handle (give_number c w.next) (λ n. handle (note (entries.New n place)) (λ _. handle (alter (Change.Make component owner fields)) (λ _. ret n) throw) throw) throw) f h)
    by true = tt
    by false = tt

r_body : (r : Running) → Ranked 0 (run_body r)
r_body r t w = by (nat_lt (length w.bodies) w.depth)
  where
    by : (c : Bool) → Ranked 0 (handle (require_depth c) (λ _. handle (instance r.instance) (λ _. handle (note (entries.Run r.instance r.place)) (λ _. handle (alter (Change.Start r.instance)) (λ _. finally (call (Task.Acts r)) (alter Change.Stop)) throw) throw) throw) throw)
    by true = then 0 (instance r.instance) _ (r_instance 0 r.instance) (λ _. tt)
    by false = tt

pub machine_ranked : (t : Task) → Ranked (rank t) (machine t)
machine_ranked (Task.Obtain b) = r_obtain 1 (omega arith) b
machine_ranked (Task.Create b owner) = λ t w. then 0 (require_present (t.bean b)) _ (r_present 0 (t.bean b)) (λ bean. r_new bean.place (components.Bean b) owner _ _ _)
machine_ranked (Task.Intercept i n) = λ t w. then 0 (require_present (t.interceptor i)) _ (r_present 0 (t.interceptor i)) (λ x. r_new (places.Class x.name) (components.Interceptor i) (owners.Instance n) x.fields _ _)
machine_ranked (Task.Rest chain) = r_rest 1 (omega arith) chain
machine_ranked (Task.Body r) = r_body r
machine_ranked (Task.Acts r) = then 0 (instance r.instance) _ (r_instance 0 r.instance) (λ o. tt)
machine_ranked (Task.Destroy n) = then 0 (ready_instance n) (λ o. destroy_ready n o) (λ t w. r_present 0 (only_ready (instance_at w n))) (λ o. tt)
machine_ranked (Task.Release n) = then 1 (instance n) _ (r_instance 1 n) (λ o. r_release n o.dependents)
machine_ranked (Task.Fire class qualifiers v) = tt
machine_ranked (Task.Notify observers v) = r_notify observers v
machine_ranked Task.Dismiss = then 1 (see λ t w. top w.temporaries) _ (λ t w. r_top 1 w.temporaries) (λ ns. r_latest (latest ns))
machine_ranked (Task.Clear c) = λ t w. r_clear c _
