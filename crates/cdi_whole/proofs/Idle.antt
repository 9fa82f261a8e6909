-- Programs that give no act, and end each invocation that they begin: at which depth they call what.
use Rattle.std.proofs.Common.{sym, subst, ℕ, zero, suc, ◌≡◌, List, [], ◌∷◌, refl, Option, Some, None, Bool, true, false}
use Rattle.std.specs.Prelude.{nat_lt, ◌^◌, nat_eq, length, slice_get, remove}
use Rattle.cdi_base.specs.declared.value.Value.{Value}
use Rattle.cdi_base.specs.declared.value.Value.TheVariants as values
use Rattle.cdi_base.specs.declared.act.Act.{Act}
use Rattle.cdi_base.specs.declared.act.Act.TheVariants as acts
use Rattle.cdi_base.specs.declared.act.Via.{Via}
use Rattle.cdi_base.specs.declared.act.Via.TheVariants as vias
use Rattle.cdi_base.specs.declared.act.Answer.TheVariants as answers
use Rattle.cdi_base.specs.declared.entry.Entry.{Entry}
use Rattle.cdi_base.specs.declared.entry.Entry.TheVariants as entries
use Rattle.cdi_base.specs.declared.place.Place.TheVariants as places
use Rattle.cdi_base.specs.declared.place.InterceptorMethod.{InterceptorMethod}
use Rattle.cdi_base.specs.declared.place.InterceptorMethod.TheVariants as roles
use Rattle.cdi_base.specs.declared.scope.Scope.{Scope}
use Rattle.cdi_base.specs.declared.built_in.BuiltIn.{BuiltIn}
use Rattle.cdi_base.specs.declared.built_in.BuiltIn.TheVariants as built_in
use Rattle.cdi_base.specs.declared.uses.Use.{Use}
use Rattle.cdi_base.specs.BuiltIn.{number_of}
use Rattle.cdi_base.specs.Maps.{at}
use Rattle.cdi_store.specs.declared.instance.Context.{Context}
use Rattle.cdi_store.specs.declared.instance.Context.TheVariants.{Application, Request, Session}
use Rattle.cdi_contexts.specs.declared.context.Status.{Status}
use Rattle.cdi_contexts.specs.declared.context.Status.TheVariants.{Ending, Open}
use Rattle.cdi_contexts.specs.declared.context.Held.{Held}
use Rattle.cdi_contexts.specs.declared.context.Held.TheVariants.{Is, Making}
use Rattle.cdi_store.specs.declared.instance.Component.{Component}
use Rattle.cdi_store.specs.declared.instance.Component.TheVariants as components
use Rattle.cdi_store.specs.declared.instance.Owner.{Owner}
use Rattle.cdi_store.specs.declared.instance.Owner.TheVariants as owners
use Rattle.cdi_store.specs.declared.references.Reference.{Reference}
use Rattle.cdi_store.specs.declared.references.Reference.TheVariants.{Direct, Proxy}
use Rattle.cdi_store.specs.declared.references.Reference.TheVariants.{Empty as NoReference}
use Rattle.cdi_contexts.specs.Refusals.{is_new}
use Rattle.cdi_machine.specs.Words.{Name, Fields, Asked}
use Rattle.cdi_bodies.specs.declared.view.View.{View}
use Rattle.cdi_machine.specs.Runs.{Legal}
use Rattle.cdi_whole.specs.Fits.{class_site, FitsBody, FitsStep, FitsSteps, ready_after, FitsKind}
use Rattle.cdi_base.specs.declared.place.Place.{Place}
use Rattle.cdi_store.specs.declared.instance.Instance.{Instance}
use Rattle.cdi_machine.specs.Tables.{Tables, Code, Member, Lifecycle, Step, Source, Managed, Product, Kind, Bean, Interceptor, Observer, Resolution, One, Nothing, Many}
use Rattle.cdi_machine.specs.World.{World, Change, instance_at}
use Rattle.cdi_machine.specs.Programs.{ActiveContext, complete, note, give_number, cut, miss, change, tick, mark, act, choose, nested, Task, Given, Completion, Running, Prog, ret, throw, see, handle, quietly, attempt, require_present, require, expect, text_of, call, finish, raise, do_nothing, alter, each, top, pick, active_or_raise, context, require_one, resolve, rethrow, require_number, bean_at, lookup_at, instance, invocation}
use Rattle.cdi_machine.specs.Contexts.{find_or_create, obtain, is_normal, direct_reference, refer_to, resolve_point, resolve_points, stays, require_living, reach_instance}
use Rattle.cdi_machine.specs.DestroyAct.{is_idle, require_made, destroy_idle, destroy_held, destroy_by}
use Rattle.cdi_machine.specs.Bodies.{invoke_by, provide, invoke, call_back, body_at_start, is_of, first_of, reference_at, find_reference, method_in, bean_of, method_of, invoke_method, replace_parameters, carry_out, find, answer_of, with_answer, after_act, answer_find}
use Rattle.cdi_machine.specs.Destruction.{latest, dismiss_latest, give_back, borrow_for, destroy, destroy_ready, only_ready, obtain_receiver, dispose, clean_up_bean, clean_up, release_from, release, dismiss, clear_from, clear}
use Rattle.cdi_machine.specs.Creation.{construct, inject, take_step, call_producer, accept, produce, make, intercept, create_by, end_creation, discard, begin_creation, first_fields}
use Rattle.cdi_machine.specs.Events.{fire, observe, deliver, notify, is_skipped, fire_context_event, fire_container_event, qualifier}
use Rattle.cdi_machine.specs.Commands.{Command, task, stand_alone_in, close, begin_session, begin, end_session, end, invalidate, use_bean, end_alone, shut_down, requests_of, sessions_of, is_used}

-- a body that has the number may proceed only if this holds
abbrev pub Proceeds : Legal → ℕ → Type 0 → Type 0
Proceeds legal body X = (count : ℕ) (fields : Fields) (view : View) (args : Option (List Value)) → legal.gives body count fields view (acts.Proceed args) → X

-- what holds at the depth behind a change
abbrev pub Moves : Change → ℕ → (ℕ → Type 0) → Type 0
Moves (Change.Enter i) h X = X (suc h)
Moves Change.Exit zero X = ⊥
Moves Change.Exit (suc h) X = X h
Moves _ h X = X h

pub move_map : (g : Change) (h : ℕ) {X Y : ℕ → Type 0} → ((k : ℕ) → X k → Y k) → Moves g h X → Moves g h Y
move_map (Change.Enter i) h f x = f (suc h) x
move_map Change.Exit zero f x = absurd x
move_map Change.Exit (suc h) f x = f h x
move_map _ h f x = f h x

abbrev pub NoAct : Entry → Type 0 → Type 0
NoAct (entries.Did a) X = ⊥
NoAct _ X = X

pub act_map : (e : Entry) {X Y : Type 0} → (X → Y) → NoAct e X → NoAct e Y
act_map (entries.Did a) f x = absurd x
act_map _ f x = f x

module _ (legal : Legal) (Own : ℕ → Type 0) where
  -- A body that it calls may not proceed; acts that it calls are those of its own bodies, at the depth of its begin.
  abbrev pub Called : ℕ → Task → Type 0
  Called h (Task.Body r) = Proceeds legal r.body ⊥
  Called h (Task.Acts r) = (h ≡ 0) × (Own r.body)
  Called h _ = Unit {0}

  -- begun at the one depth it ends at the other
  abbrev pub Idle : {A : Type 0} → ℕ → ℕ → Prog A → Type 0
  Idle e h (ret a) = h ≡ e
  Idle e h (throw x) = h ≡ e
  Idle e h (cut cause) = Unit {0}
  Idle e h (miss p) = Idle e h p
  Idle e h (see k) = (t : Tables) (w : World) → Idle e h (k t w)
  Idle e h (change g p) = Moves g h (λ k. Idle e k p)
  Idle e h (tick x p) = NoAct x (Idle e h p)
  Idle e h (mark n p) = Idle e h p
  Idle e h (act b fields view k) = ⊥
  Idle e h (choose n k) = (i : ℕ) → Idle e h (k i)
  Idle e h (nested t k) = Called h t × ((c : Completion Given) → Idle e h (k c))

  pub walk : {A B : Type 0} (m e h : ℕ) (p : Prog A) (f : A → Prog B) (g : Name → Prog B) → Idle m h p → ((a : A) → Idle e m (f a)) → ((x : Name) → Idle e m (g x)) → Idle e h (handle p f g)
  walk m e h (ret a) f g q qf qg = subst (λ z. Idle e z (f a)) (sym q) (qf a)
  walk m e h (throw x) f g q qf qg = subst (λ z. Idle e z (g x)) (sym q) (qg x)
  walk m e h (cut cause) f g q qf qg = tt
  walk m e h (miss p) f g q qf qg = walk m e h p f g q qf qg
  walk m e h (see k) f g q qf qg = λ t w. walk m e h (k t w) f g (q t w) qf qg
  walk m e h (change x p) f g q qf qg = move_map x h (λ k y. walk m e k p f g y qf qg) q
  walk m e h (tick x p) f g q qf qg = act_map x (λ y. walk m e h p f g y qf qg) q
  walk m e h (mark n p) f g q qf qg = walk m e h p f g q qf qg
  walk m e h (act b fields view k) f g q qf qg = absurd q
  walk m e h (choose n k) f g q qf qg = λ i. walk m e h (k i) f g (q i) qf qg
  walk m e h (nested t k) f g q qf qg = (q.0, λ c. walk m e h (k c) f g (q.1 c) qf qg)

-- a body of a managed bean doesn't proceed
pub may_not_proceed : (tables : Tables) (legal : Legal) (c : Managed) (points : List Asked) (body : ℕ) → FitsBody tables legal (class_site c points body) → Proceeds legal body ⊥
may_not_proceed tables legal c points body f count fields view args l = let e : false ≡ true = f count fields view (acts.Proceed args) l in cc

-- a body does nothing of its invocation or its bean's methods in it
abbrev pub IsUsual : Act → Type 0
IsUsual (acts.Own name args) = ⊥
IsUsual (acts.Proceed args) = ⊥
IsUsual _ = Unit {0}

-- ---- the programs

module _ (legal : Legal) (Own : ℕ → Type 0) (h : ℕ) where
  abbrev pub Level : {A : Type 0} → Prog A → Type 0
  Level p = Idle legal Own h h p

  pub then : {A B : Type 0} (p : Prog A) (f : A → Prog B) → Level p → ((a : A) → Level (f a)) → Level (handle p f throw)
  then p f q qf = walk legal Own h h h p f throw q qf (λ x. refl)

  pub caught : {A B : Type 0} (p : Prog A) (f : A → Prog B) (g : Name → Prog B) → Level p → ((a : A) → Level (f a)) → ((x : Name) → Level (g x)) → Level (handle p f g)
  caught p f g q qf qg = walk legal Own h h h p f g q qf qg

  pub l_if : {A : Type 0} (c : Bool) (p q : Prog A) → Level p → Level q → Level (elim c as (λ _. Prog A) [ true ↦ p | false ↦ q ])
  l_if true p q a b = a
  l_if false p q a b = b

  pub l_present : {A : Type 0} (o : Option A) → Level (require_present o)
  l_present None = refl
  l_present (Some a) = refl

  pub l_expect : (b : Bool) → Level (expect b)
  l_expect true = refl
  l_expect false = refl

  pub l_require : (b : Bool) (x : BuiltIn) → Level (require b x)
  l_require true x = refl
  l_require false x = refl

  pub l_call : (t : Task) → Called legal Own h t → Level (call t)
  l_call t q = (q, λ c. by c)
    where
      by : (c : Completion Given) → Level (complete c)
      by (Completion.Gave g) = refl
      by (Completion.Threw x) = refl

  pub l_each : {X : Type 0} (xs : List X) (f : X → Prog Given) → ((x : X) → Level (f x)) → Level (each xs f)
  l_each [] f q = refl
  l_each (x ∷ []) f q = q x
  l_each (x ∷ y ∷ xs) f q = then (f x) _ (q x) (λ _. l_each (y ∷ xs) f q)

  pub l_top : {X : Type 0} (xs : List X) → Level (top xs)
  l_top [] = refl
  l_top (x ∷ xs) = refl

  pub l_active : (o : Option ActiveContext) → Level (active_or_raise o)
  l_active None = refl
  l_active (Some a) = refl

  pub l_one : (x : Resolution) → Level (require_one x)
  l_one (One b) = refl
  l_one Nothing = refl
  l_one Many = refl

  pub l_number : (g : Given) → Level (require_number g)
  l_number (Given.Number n) = refl
  l_number (Given.Result v) = refl
  l_number Given.Empty = refl

  pub l_rethrow : (A : Type 0) (x : Name) (b : BuiltIn) → Level (rethrow {A = A} x b)
  l_rethrow A x b t w = l_if (t.is_checked x) (raise b) (throw x) refl refl

  pub l_picked : {X : Type 0} (xs : List X) → Level (pick xs)
  l_picked [] = refl
  l_picked (x ∷ []) = refl
  l_picked (x ∷ y ∷ xs) = λ i. refl

  pub l_bean : (b : ℕ) → Level (bean_at b)
  l_bean b t w = l_present (t.bean b)

  pub l_instance : (n : ℕ) → Level (instance n)
  l_instance n t w = l_present (instance_at w n)

  pub l_invocation : Level invocation
  l_invocation t w = l_top w.invocations

  pub l_resolved : (asked : Asked) → Level (resolve asked)
  l_resolved asked t w = l_one (t.resolve asked)

  pub l_context : (s : Scope) → Level (context s)
  l_context s t w = l_active _

  -- ---- contexts

  pub l_contextual : (b : ℕ) (c : ActiveContext) (x : Option Held) → Level (find_or_create b c x)
  l_contextual b c (Some (Is n)) = refl
  l_contextual b c (Some Making) = refl
  l_contextual b c None = by c.has.status
    where
      by : (s : Status) → Level (elim s as (λ _. Prog Given) [ Open ↦ call (Task.Create b (owners.Context c.context)) | Ending ↦ raise built_in.ContextNotActiveException ])
      by Open = l_call (Task.Create b (owners.Context c.context)) tt
      by Ending = refl

  pub l_obtain : (b : ℕ) → Level (obtain b)
  l_obtain b = then (bean_at b) _ (l_bean b) λ bean. then (context bean.scope) _ (l_context bean.scope) λ c. l_contextual b c (at c.has.holds b)

  pub l_reference : (b : ℕ) (owner : Owner) → Level (refer_to b owner)
  l_reference b owner = then (bean_at b) _ (l_bean b) λ bean. l_if (is_normal bean.scope) (ret (Proxy b)) (handle (call (Task.Create b owner)) (λ made. ret (direct_reference made)) throw) refl (then (call (Task.Create b owner)) _ (l_call (Task.Create b owner) tt) (λ _. refl))

  pub l_injected : (point : Asked) (owner : Owner) → Level (resolve_point point owner)
  l_injected point owner = then (resolve point) _ (l_resolved point) (λ b. l_reference b owner)

  pub l_all_injected : (points : List Asked) (owner : Owner) → Level (resolve_points points owner)
  l_all_injected [] owner = refl
  l_all_injected (point ∷ points) owner = then (resolve_point point owner) _ (l_injected point owner) λ x. then (resolve_points points owner) _ (l_all_injected points owner) (λ _. refl)

  pub l_living : (n : ℕ) → Level (require_living n)
  l_living n t w = then (require (stays (instance_at w n)) built_in.IllegalStateException) _ (l_require _ _) (λ _. refl)

  pub l_use : (x : Reference) → Level (reach_instance x)
  l_use NoReference = refl
  l_use (Direct n) = l_living n
  l_use (Proxy b) = then (call (Task.Obtain b)) _ (l_call (Task.Obtain b) tt) l_number

  -- ---- the destroy act

  pub l_idle : (n : ℕ) → Level (destroy_idle n)
  l_idle n t w = then (require (is_idle w n) built_in.IllegalStateException) _ (l_require _ _) (λ _. l_call (Task.Destroy n) tt)

  pub l_held : (x : Option Held) → Level (destroy_held x)
  l_held None = refl
  l_held (Some Making) = refl
  l_held (Some (Is n)) = l_idle n

  pub l_destroy_by : (x : Reference) → Level (destroy_by x)
  l_destroy_by NoReference = refl
  l_destroy_by (Direct n) = then (require_made n) (λ _. destroy_idle n) (λ t w. l_require _ _) (λ _. l_idle n)
  l_destroy_by (Proxy b) = then (bean_at b) _ (l_bean b) λ bean. then (context bean.scope) _ (l_context bean.scope) λ c. l_held (at c.has.holds b)

  pub l_first_of : (w : World) (i : ℕ) (ns : List ℕ) → Level (first_of w i ns)
  l_first_of w i [] = refl
  l_first_of w i (n ∷ ns) = l_if (is_of i (instance_at w n)) (ret n) (first_of w i ns) refl (l_first_of w i ns)

  pub l_provide : (points : List Asked) (owner : Owner) → Level (provide points owner)
  l_provide points owner = then (resolve_points points owner) _ (l_all_injected points owner) (λ _. refl)

module _ (legal : Legal) (Own : ℕ → Type 0) (h : ℕ) where
  -- in an invocation there is one more
  pub l_invoked : (n : ℕ) (role : InterceptorMethod) (members : List Code) (args : List Value) (p : Prog Given) → ((k : ℕ) → Idle legal Own k k p) → Idle legal Own h h (invoke_by n role members args p)
  l_invoked n role members args p q =
      let k : ℕ = suc h in
      walk legal Own k h k p _ _ (q k) (λ _. refl) (λ _. refl)

  pub l_give_back : Idle legal Own h h give_back
  l_give_back =
      let k : ℕ = h in
      walk legal Own k h k (call Task.Dismiss) _ _ (l_call legal Own k Task.Dismiss tt) (λ _. refl) (λ _. refl)

  pub l_borrowing : (p : Prog Given) → ((k : ℕ) → Idle legal Own k k p) → Idle legal Own h h (borrow_for p)
  l_borrowing p q =
      let k : ℕ = h in
      walk legal Own k h k p _ _ (q k) (λ a. walk legal Own h h k give_back _ _ l_give_back (λ _. refl) (λ _. refl)) (λ x. walk legal Own h h k give_back _ _ l_give_back (λ _. refl) (λ _. refl))

  pub l_invoke : (n : ℕ) (m : Member) (args : List Value) (owner : Owner) → Idle legal Own h h (invoke n m args owner)
  l_invoke n m args owner = l_invoked n roles.AroundInvoke (m.code ∷ []) args (handle (provide m.points owner) (λ _. call (Task.Rest m.chain)) throw) (λ k. then legal Own k (provide m.points owner) (λ _. call (Task.Rest m.chain)) (l_provide legal Own k m.points owner) (λ _. l_call legal Own k (Task.Rest m.chain) tt))

  pub l_lifecycle : (n : ℕ) (role : InterceptorMethod) (callbacks : List Code) (chain : List ℕ) → Idle legal Own h h (call_back n role callbacks chain)
  l_lifecycle n role callbacks chain = l_invoked n role callbacks [] (call (Task.Rest chain)) (λ k. l_call legal Own k (Task.Rest chain) tt)

  pub l_receiver : (b : ℕ) → Idle legal Own h h (obtain_receiver b)
  l_receiver b = then legal Own h (refer_to b owners.Borrower) _ (l_reference legal Own h b owners.Borrower) (l_use legal Own h)

  -- ---- bodies

  -- ---- acts

  pub l_referred : (r : Running) (via : Via) → Idle legal Own h h (find_reference r via)
  l_referred r (vias.Field name) = then legal Own h (instance r.instance) _ (l_instance legal Own h r.instance) (λ _. refl)
  l_referred r (vias.Param k) = refl
  l_referred r (vias.Local k) = refl

  pub l_method_in : (k : Kind) (name : Name) → Idle legal Own h h (method_in k name)
  l_method_in (Kind.Class c) name = l_present legal Own h (at c.methods name)
  l_method_in (Kind.Producer p) name = refl

  pub l_bean_of : (component : Component) → Idle legal Own h h (bean_of component)
  l_bean_of (components.Bean b) = l_bean legal Own h b
  l_bean_of (components.Interceptor i) = refl

  pub l_method_of : (n : ℕ) (name : Name) → Idle legal Own h h (method_of n name)
  l_method_of n name = then legal Own h (instance n) _ (l_instance legal Own h n) λ o. then legal Own h (bean_of o.component) _ (l_bean_of o.component) λ bean. l_method_in bean.kind name

  pub l_invoke_method : (n : ℕ) (name : Name) (args : List Value) → Idle legal Own h h (invoke_method n name args)
  l_invoke_method n name args = then legal Own h (method_of n name) _ (l_method_of n name) (λ m. then legal Own h (expect (nat_eq (length args) m.count)) (λ _. invoke_by n roles.AroundInvoke (m.code ∷ []) args (call (Task.Rest m.chain))) (l_expect legal Own h _) (λ _. l_invoked n roles.AroundInvoke (m.code ∷ []) args (call (Task.Rest m.chain)) (λ k. l_call legal Own k (Task.Rest m.chain) tt)))

  pub l_replace : (args : Option (List Value)) → Idle legal Own h h (replace_parameters args)
  l_replace None = refl
  l_replace (Some args) = refl

  pub l_does : (r : Running) (a : Act) → IsUsual a → Idle legal Own h h (carry_out r a)
  l_does r (acts.Set field v) q = then legal Own h (instance r.instance) _ (l_instance legal Own h r.instance) λ o. then legal Own h (require_present (at o.fields field)) _ (l_present legal Own h (at o.fields field)) (λ _. refl)
  l_does r (acts.Call via name args) q = then legal Own h (find_reference r via) _ (l_referred r via) λ x. then legal Own h (reach_instance x) _ (l_use legal Own h x) λ n. l_invoke_method n name args
  l_does r (acts.Own name args) q = absurd q
  l_does r (acts.Read via) q = then legal Own h (find_reference r via) _ (l_referred r via) λ x. then legal Own h (reach_instance x) _ (l_use legal Own h x) λ n. then legal Own h (instance n) _ (l_instance legal Own h n) (λ _. refl)
  l_does r (acts.Write via v) q = then legal Own h (find_reference r via) _ (l_referred r via) λ x. then legal Own h (reach_instance x) _ (l_use legal Own h x) (λ n. refl)
  l_does r (acts.Fire class qualifiers v) q = l_call legal Own h (Task.Fire class qualifiers v) tt
  l_does r (acts.Proceed args) q = absurd q
  l_does r (acts.Find k) q = refl
  l_does r (acts.Keep key v) q = refl
  l_does r (acts.Peek key) q = then legal Own h invocation _ (l_invocation legal Own h) (λ _. refl)
  l_does r (acts.Destroy k) q = l_destroy_by legal Own h (reference_at (at r.locals k))
  l_does r (acts.Give v) q = refl
  l_does r (acts.Throw x) q = refl

  pub l_find : (r : Running) (k : ℕ) → Idle legal Own h h (find r k)
  l_find r k = then legal Own h (lookup_at r.body k) _ (λ t w. l_present legal Own h (t.lookup r.body k)) λ asked. then legal Own h (resolve asked) _ (l_resolved legal Own h asked) λ b. l_reference legal Own h b (owners.Instance r.instance)

  pub l_answer : (c : Completion Given) → Idle legal Own h h (answer_of c)
  l_answer (Completion.Gave (Given.Result v)) = refl
  l_answer (Completion.Gave (Given.Number n)) = refl
  l_answer (Completion.Gave Given.Empty) = refl
  l_answer (Completion.Threw x) = then legal Own h (text_of x) _ (λ t w. l_present legal Own h (t.text x)) (λ _. refl)

-- the body goes on with its next act
module _ (legal : Legal) (Own : ℕ → Type 0) where
  pub l_after : (r : Running) (c : Completion Given) → Own r.body → Idle legal Own 0 0 (handle (answer_of c) (λ answer. call (Task.Acts (with_answer r answer))) throw)
  l_after r c e = then legal Own 0 (answer_of c) (λ answer. call (Task.Acts (with_answer r answer))) (l_answer legal Own 0 c) (λ answer. l_call legal Own 0 (Task.Acts (with_answer r answer)) (refl, e))

  pub l_found : (r : Running) (k : ℕ) (c : Completion Reference) → Own r.body → Idle legal Own 0 0 (answer_find r k c)
  l_found r k (Completion.Gave x) e = l_call legal Own 0 (Task.Acts (with_answer (record r { locals = Rattle.cdi_base.specs.Maps.put k x r.locals }) (answers.Found k))) (refl, e)
  l_found r k (Completion.Threw x) e = l_after r (Completion.Threw x) e

  pub l_told : (r : Running) (a : Act) → IsUsual a → Own (after_act r a).body → Idle legal Own 0 0 (handle (attempt (carry_out r a)) (λ c. handle (answer_of c) (λ answer. call (Task.Acts (with_answer (after_act r a) answer))) throw) throw)
  l_told r a u e = then legal Own 0 (attempt (carry_out r a)) _ (caught legal Own 0 (carry_out r a) _ _ (l_does legal Own 0 r a u) (λ _. refl) (λ _. refl)) (λ c. l_after (after_act r a) c e)

  pub l_looked : (r : Running) (k : ℕ) → Own r.body → Idle legal Own 0 0 (handle (attempt (find r k)) (λ c. answer_find r k c) throw)
  l_looked r k e = then legal Own 0 (attempt (find r k)) _ (caught legal Own 0 (find r k) _ _ (l_find legal Own 0 r k) (λ _. refl) (λ _. refl)) (λ c. l_found r k c e)

module _ (legal : Legal) (Own : ℕ → Type 0) (h : ℕ) where
  -- ---- destruction

  pub l_quietly : (p : Prog Given) → Idle legal Own h h p → Idle legal Own h h (quietly p)
  l_quietly p q = caught legal Own h p _ _ q (λ _. refl) (λ _. refl)

  pub l_served : (b : ℕ) (m : Member) (args : List Value) (owner : Owner) → Idle legal Own h h (borrow_for (handle (obtain_receiver b) (λ n. invoke n m args owner) throw))
  l_served b m args owner = l_borrowing legal Own h (handle (obtain_receiver b) (λ n. invoke n m args owner) throw) (λ k. then legal Own k (obtain_receiver b) (λ n. invoke n m args owner) (l_receiver legal Own k b) (λ n. l_invoke legal Own k n m args owner))

  pub l_farewell : (n : ℕ) (v : Value) (component : Component) → Idle legal Own h h (clean_up n v component)
  l_farewell n v (components.Interceptor i) = refl
  l_farewell n v (components.Bean b) = then legal Own h (bean_at b) _ (l_bean legal Own h b) (λ bean. by bean.kind)
    where
      by : (k : Kind) → Idle legal Own h h (clean_up_bean n v k)
      by (Kind.Class c) = l_lifecycle legal Own h n roles.PreDestroy c.pre_destroy.callbacks c.pre_destroy.chain
      by (Kind.Producer p) = l_each legal Own h p.disposers (dispose p v) (λ d. l_served p.declaring d (v ∷ []) owners.Borrower)

  pub l_release : (n : ℕ) (ns : List ℕ) → Idle legal Own h h (release_from n ns)
  l_release n [] = refl
  l_release n (d ∷ ns) = then legal Own h (pick (d ∷ ns)) _ (l_picked legal Own h (d ∷ ns)) λ i. then legal Own h (require_present (slice_get (d ∷ ns) i)) _ (l_present legal Own h _) λ x. then legal Own h (call (Task.Destroy x)) (λ _. call (Task.Release n)) (l_call legal Own h (Task.Destroy x) tt) (λ _. l_call legal Own h (Task.Release n) tt)

  pub l_latest : (o : Option ℕ) → Idle legal Own h h (dismiss_latest o)
  l_latest None = refl
  l_latest (Some n) = then legal Own h (call (Task.Destroy n)) (λ _. call Task.Dismiss) (l_call legal Own h (Task.Destroy n) tt) (λ _. l_call legal Own h Task.Dismiss tt)

  pub l_clear : (c : Context) (o : Option ℕ) → Idle legal Own h h (clear_from c o)
  l_clear c None = refl
  l_clear c (Some n) = then legal Own h (call (Task.Destroy n)) (λ _. call (Task.Clear c)) (l_call legal Own h (Task.Destroy n) tt) (λ _. l_call legal Own h (Task.Clear c) tt)

  pub l_releases : (n : ℕ) → Idle legal Own h h (release n)
  l_releases n = then legal Own h (instance n) _ (l_instance legal Own h n) (λ o. l_release n o.dependents)

  pub l_dismiss : Idle legal Own h h dismiss
  l_dismiss = then legal Own h (see λ t w. top w.temporaries) _ (λ t w. l_top legal Own h w.temporaries) (λ ns. l_latest (latest ns))

  pub l_clears : (c : Context) → Idle legal Own h h (clear c)
  l_clears c t w = l_clear c _

  -- ---- creation

  pub l_construct : (n : ℕ) (points : List Asked) (chain : Lifecycle) → Idle legal Own h h (construct n points chain)
  l_construct n points chain =
      l_invoked legal Own h n roles.AroundConstruct chain.callbacks [] (handle (provide points (owners.Instance n)) (λ _. handle (call (Task.Rest chain.chain)) (λ _. handle invocation (λ v. handle (require v.completed built_in.CreationException) (λ _. finish) throw) throw) throw) throw) λ k.
      then legal Own k (provide points (owners.Instance n)) _ (l_provide legal Own k points (owners.Instance n)) λ _.
      then legal Own k (call (Task.Rest chain.chain)) _ (l_call legal Own k (Task.Rest chain.chain) tt) λ _.
      then legal Own k invocation _ (l_invocation legal Own k) λ v. then legal Own k (require v.completed built_in.CreationException) _ (l_require legal Own k _ _) (λ _. refl)

  pub l_inject : (n : ℕ) (field : Name) (point : Asked) → Idle legal Own h h (inject n field point)
  l_inject n field point = then legal Own h (resolve_point point (owners.Instance n)) _ (l_injected legal Own h point (owners.Instance n)) (λ _. refl)

  pub l_step : (tables : Tables) (c : Managed) (ready : List ℕ) (n : ℕ) (s : Step) → FitsStep tables legal c ready s → Idle legal Own h h (take_step n s)
  l_step tables c ready n (Step.Intercept i) f = l_call legal Own h (Task.Intercept i n) tt
  l_step tables c ready n (Step.Construct points chain) f = l_construct n points chain
  l_step tables c ready n (Step.Inject field point) f = l_inject n field point
  l_step tables c ready n (Step.Initialize m points) f = then legal Own h (resolve_points points (owners.Instance n)) (λ rs. call (Task.Body (body_at_start n m.place m.body [] rs []))) (l_all_injected legal Own h points (owners.Instance n)) (λ rs. l_call legal Own h (Task.Body (body_at_start n m.place m.body [] rs [])) (may_not_proceed tables legal c points m.body f))
  l_step tables c ready n (Step.Complete chain) f = l_lifecycle legal Own h n roles.PostConstruct chain.callbacks chain.chain

module _ (legal : Legal) (Own : ℕ → Type 0) (h : ℕ) where
  pub l_steps : (tables : Tables) (c : Managed) (ready : List ℕ) (n : ℕ) (steps : List Step) → FitsSteps tables legal c ready steps → Idle legal Own h h (each steps (take_step n))
  l_steps tables c ready n [] f = refl
  l_steps tables c ready n (s ∷ []) f = l_step legal Own h tables c ready n s f.0
  l_steps tables c ready n (s ∷ t ∷ more) f = then legal Own h (take_step n s) _ (l_step legal Own h tables c ready n s f.0) (λ _. l_steps tables c (ready_after s ready) n (t ∷ more) f.1)

module _ (legal : Legal) (Own : ℕ → Type 0) (h : ℕ) where
  pub l_produced : (n m : ℕ) (s : Source) → Idle legal Own h h (call_producer n m s)
  l_produced n m (Source.ProducerMethod producer) = l_invoke legal Own h m producer [] (owners.Instance n)
  l_produced n m (Source.ProducerField field) = then legal Own h (instance m) _ (l_instance legal Own h m) λ o. then legal Own h (require_present (at o.fields field)) _ (l_present legal Own h _) (λ _. refl)

  pub l_accept : (b : Bool) (n : ℕ) (g : Given) → Idle legal Own h h (accept b n g)
  l_accept true n (Given.Result values.Null) = refl
  l_accept true n (Given.Result (values.Int i)) = refl
  l_accept true n (Given.Result (values.Text t)) = refl
  l_accept true n (Given.Number m) = refl
  l_accept true n Given.Empty = refl
  l_accept false n (Given.Result v) = refl
  l_accept false n (Given.Number m) = refl
  l_accept false n Given.Empty = refl

module _ (legal : Legal) (Own : ℕ → Type 0) (h : ℕ) where
  pub l_produce : (n : ℕ) (scope : Scope) (p : Product) → Idle legal Own h h (produce n scope p)
  l_produce n scope p =
      then legal Own h (borrow_for (handle (obtain_receiver p.declaring) (λ m. call_producer n m p.source) throw)) _
      (l_borrowing legal Own h (handle (obtain_receiver p.declaring) (λ m. call_producer n m p.source) throw) (λ k. then legal Own k (obtain_receiver p.declaring) (λ m. call_producer n m p.source) (l_receiver legal Own k p.declaring) (λ m. l_produced legal Own k n m p.source)))
      (λ v. l_accept legal Own h (is_normal scope) n v)

  pub l_made_by : (tables : Tables) (n : ℕ) (bean : Bean) (k : Kind) → FitsKind tables legal k → Idle legal Own h h (make n bean k)
  l_made_by tables n bean (Kind.Class c) f = then legal Own h (each c.plan (take_step n)) _ (l_steps legal Own h tables c [] n c.plan f.steps) (λ _. refl)
  l_made_by tables n bean (Kind.Producer p) f = l_produce n bean.scope p

  -- ---- events

  pub l_fire : (class : Name) (qualifiers : List Use) (v : Value) → Idle legal Own h h (fire class qualifiers v)
  l_fire class qualifiers v t w = then legal Own h (each (t.observers class qualifiers) (λ group. call (Task.Notify group v))) _ (l_each legal Own h (t.observers class qualifiers) _ (λ group. l_call legal Own h (Task.Notify group v) tt)) (λ _. refl)

  pub l_deliver : (o : Observer) (v : Value) → Idle legal Own h h (deliver o v)
  l_deliver o v =
      then legal Own h (bean_at o.bean) _ (l_bean legal Own h o.bean) λ bean t w.
      l_if legal Own h (is_skipped w o bean) finish (handle (observe o v) (λ _. finish) (λ x. rethrow x built_in.ObserverException)) refl (caught legal Own h (observe o v) _ _ (l_served legal Own h o.bean o.member (v ∷ []) owners.Borrower) (λ _. refl) (λ x. l_rethrow legal Own h _ x built_in.ObserverException))

  pub l_notify : (os : List Observer) (v : Value) → Idle legal Own h h (notify os v)
  l_notify [] v = refl
  l_notify (o ∷ os) v =
      then legal Own h (pick (o ∷ os)) _ (l_picked legal Own h (o ∷ os)) λ i. then legal Own h (require_present (slice_get (o ∷ os) i)) _ (l_present legal Own h _) λ x.
      then legal Own h (deliver x v) (λ _. call (Task.Notify (remove (o ∷ os) i) v)) (l_deliver x v) (λ _. l_call legal Own h (Task.Notify (remove (o ∷ os) i) v) tt)

-- ---- commands

module _ (legal : Legal) (Own : ℕ → Type 0) (h : ℕ) where
  pub l_event : (what : BuiltIn) (c : Context) → Idle legal Own h h (fire_context_event what c)
  l_event what c = let t = Task.Fire (number_of built_in.Object) (qualifier what c ∷ []) values.Null in l_quietly legal Own h (call t) (l_call legal Own h t tt)

  pub l_container : (class : BuiltIn) → Idle legal Own h h (fire_container_event class)
  l_container class = let t = Task.Fire (number_of class) [] values.Null in l_quietly legal Own h (call t) (l_call legal Own h t tt)

  pub l_close : (c : Context) → Idle legal Own h h (close c)
  l_close c = then legal Own h (fire_context_event built_in.BeforeDestroyed c) _ (l_event built_in.BeforeDestroyed c) λ _. then legal Own h (call (Task.Clear c)) _ (l_call legal Own h (Task.Clear c) tt) λ _. then legal Own h (fire_context_event built_in.Destroyed c) _ (l_event built_in.Destroyed c) (λ _. refl)

  pub l_begin : (r : List ℕ) (s : Option (List ℕ)) → Idle legal Own h h (begin r s)
  l_begin r None = λ t w. then legal Own h (fire_context_event built_in.Initialized (Request r)) _ (l_event built_in.Initialized (Request r)) (λ _. refl)
  l_begin r (Some s) = λ t w.
      then legal Own h (begin_session s) _ (λ t w. l_if legal Own h (is_new w.contexts s) (alter (Change.BeginSession s)) do_nothing refl refl) λ _ t2 w2.
      then legal Own h (elim (is_new w.contexts s) as (λ _. Prog (Unit {0})) [ true ↦ fire_context_event built_in.Initialized (Session s) | false ↦ do_nothing ]) _ (l_if legal Own h (is_new w.contexts s) (fire_context_event built_in.Initialized (Session s)) do_nothing (l_event built_in.Initialized (Session s)) refl) λ _.
      then legal Own h (fire_context_event built_in.Initialized (Request r)) _ (l_event built_in.Initialized (Request r)) (λ _. refl)

  pub l_end_session : (w : World) (s : Option (List ℕ)) → Idle legal Own h h (end_session w s)
  l_end_session w None = refl
  l_end_session w (Some s) = l_if legal Own h _ (close (Session s)) finish (l_close (Session s)) refl

  pub l_end : (r : List ℕ) → Idle legal Own h h (end r)
  l_end r t w = then legal Own h (close (Request r)) _ (l_close (Request r)) (λ _ t2 w2. l_end_session w2 w2.environment.session)

  pub l_invalidate : (s : List ℕ) → Idle legal Own h h (invalidate s)
  l_invalidate s t w = l_if legal Own h (is_used w.contexts s) finish (handle (stand_alone_in s) (λ _. close (Session s)) throw) refl (l_close (Session s))

  pub l_end_alone : (s : List ℕ) → Idle legal Own h h (end_alone s)
  l_end_alone s = l_close (Session s)

module _ (legal : Legal) (Own : ℕ → Type 0) (h : ℕ) where
  pub l_used : (asked : Asked) (f : ℕ → Prog Given) → ((k : ℕ) (n : ℕ) → Idle legal Own k k (f n)) → Idle legal Own h h (use_bean asked f)
  l_used asked f q =
      l_borrowing legal Own h (handle (resolve asked) (λ b. handle (refer_to b owners.Borrower) (λ r. handle (reach_instance r) f throw) throw) throw) λ k.
      then legal Own k (resolve asked) (λ b. handle (refer_to b owners.Borrower) (λ r. handle (reach_instance r) f throw) throw) (l_resolved legal Own k asked) λ b. then legal Own k (refer_to b owners.Borrower) (λ r. handle (reach_instance r) f throw) (l_reference legal Own k b owners.Borrower) λ r. then legal Own k (reach_instance r) f (l_use legal Own k r) (q k)

  pub l_shutdown : Idle legal Own h h shut_down
  l_shutdown t w =
      then legal Own h (each (requests_of w.contexts) end) _ (l_each legal Own h (requests_of w.contexts) end (l_end legal Own h)) λ _ t2 w2.
      then legal Own h (each (sessions_of w2.contexts) end_alone) _ (l_each legal Own h (sessions_of w2.contexts) end_alone (l_end_alone legal Own h)) λ _ t3 w3.
      then legal Own h (fire_container_event built_in.Shutdown) _ (l_container legal Own h built_in.Shutdown) λ _.
      then legal Own h (close Application) _ (l_close legal Own h Application) (λ _. refl)

  pub l_task : (c : Command) → Idle legal Own h h (task c)
  l_task Command.Boot = then legal Own h (fire_context_event built_in.Initialized Application) _ (l_event legal Own h built_in.Initialized Application) λ _. then legal Own h (fire_container_event built_in.Startup) _ (l_container legal Own h built_in.Startup) (λ _. refl)
  l_task (Command.Begin r s) = l_begin legal Own h r s
  l_task (Command.End r) = l_end legal Own h r
  l_task (Command.Invalidate s) = l_invalidate legal Own h s
  l_task (Command.Call r asked method args) = λ t w. l_used asked (λ n. invoke_method n method args) (λ k n. l_invoke_method legal Own k n method args)
  l_task (Command.Read r asked) = λ t w. l_used asked (λ n. handle (instance n) (λ o. ret (Given.Result o.value)) throw) (λ k n. then legal Own k (instance n) _ (l_instance legal Own k n) (λ _. refl))
  l_task (Command.Fire r class qualifiers v) = λ t w t2 w2. l_call legal Own h (Task.Fire class (t2.written qualifiers) v) tt
  l_task Command.Live = refl
  l_task Command.Shutdown = l_shutdown

-- ---- tasks that make and destroy

module _ (legal : Legal) (Own : ℕ → Type 0) where
  l_discard : (n : ℕ) → Idle legal Own 0 0 (discard n)
  l_discard n = then legal Own 0 (call (Task.Release n)) _ (l_call legal Own 0 (Task.Release n) tt) (λ _. refl)

  l_ended : (n : ℕ) (g : Given) → Idle legal Own 0 0 (end_creation n g)
  l_ended n (Given.Result values.Null) = then legal Own 0 (discard n) _ (l_discard n) (λ _. refl)
  l_ended n (Given.Result (values.Int i)) = refl
  l_ended n (Given.Result (values.Text i)) = refl
  l_ended n (Given.Number m) = refl
  l_ended n Given.Empty = refl

  l_creating : (n : ℕ) (steps : Prog Given) → Idle legal Own 0 0 steps → Idle legal Own 0 0 (create_by n steps)
  l_creating n steps q = caught legal Own 0 steps _ _ q (l_ended n) (λ x. then legal Own 0 (discard n) _ (l_discard n) (λ _. l_rethrow legal Own 0 Given x built_in.CreationException))

  pub l_begun : (place : Place) (component : Component) (owner : Owner) (fields : Fields) (f : ℕ → Prog Given) → ((n : ℕ) → Idle legal Own 0 0 (f n)) → Idle legal Own 0 0 (handle (begin_creation place component owner fields) f throw)
  l_begun place component owner fields f q t w = by (nat_lt w.next (2 ^ 32))
    where
      by : (c : Bool) → Idle legal Own 0 0 (handle (handle (give_number c w.next) (λ m. handle (note (entries.New m place)) (λ _. handle (alter (Change.Make component owner fields)) (λ _. ret m) throw) throw) throw) f throw)
      by true = q w.next
      by false = tt

  pub l_created : (tables : Tables) (b : ℕ) (owner : Owner) (x : Bean) → FitsKind tables legal x.kind → Idle legal Own 0 0 (handle (begin_creation x.place (components.Bean b) owner (first_fields x.kind)) (λ m. create_by m (make m x x.kind)) throw)
  l_created tables b owner x f = l_begun x.place (components.Bean b) owner (first_fields x.kind) (λ m. create_by m (make m x x.kind)) (λ n. l_creating n (make n x x.kind) (l_made_by legal Own 0 tables n x x.kind f))

  pub l_intercepted : (i m : ℕ) → Idle legal Own 0 0 (intercept i m)
  l_intercepted i m t w = by (t.interceptor i)
    where
      by : (o : Option Interceptor) → Idle legal Own 0 0 (handle (require_present o) (λ x. handle (begin_creation (places.Class x.name) (components.Interceptor i) (owners.Instance m) x.fields) (λ n. create_by n (handle (each x.injected (λ p. inject n p.0 p.1)) (λ _. ret (Given.Number n)) throw)) throw) throw)
      by None = refl
      by (Some x) = l_begun (places.Class x.name) (components.Interceptor i) (owners.Instance m) x.fields (λ n. create_by n (handle (each x.injected (λ p. inject n p.0 p.1)) (λ _. ret (Given.Number n)) throw))
          (λ n. l_creating n (handle (each x.injected (λ p. inject n p.0 p.1)) (λ _. ret (Given.Number n)) throw) (then legal Own 0 (each x.injected (λ p. inject n p.0 p.1)) _ (l_each legal Own 0 x.injected (λ p. inject n p.0 p.1) (λ p. l_inject legal Own 0 n p.0 p.1)) (λ _. refl)))

  l_cleaned : (n : ℕ) (o : Instance) → Idle legal Own 0 0 (destroy_ready n o)
  l_cleaned n o = then legal Own 0 (quietly (clean_up n o.value o.component)) _ (l_quietly legal Own 0 (clean_up n o.value o.component) (l_farewell legal Own 0 n o.value o.component)) (λ _. l_behind)
    where
      l_behind : Idle legal Own 0 0 (handle (call (Task.Release n)) (λ _. handle (note (entries.Gone n)) (λ _. handle (alter (Change.Remove n)) (λ _. finish) throw) throw) throw)
      l_behind = then legal Own 0 (call (Task.Release n)) _ (l_call legal Own 0 (Task.Release n) tt) (λ _. refl)

  pub l_destroy : (n : ℕ) → Idle legal Own 0 0 (destroy n)
  l_destroy n t w = by (only_ready (instance_at w n))
    where
      by : (o : Option Instance) → Idle legal Own 0 0 (handle (require_present o) (λ o. destroy_ready n o) throw)
      by None = refl
      by (Some o) = l_cleaned n o
