-- One walk through the programs for laws of several kinds: what each does by itself to the heights of the stacks, and that it
-- is plain, but for those that make, begin, run on and destroy an instance.
use Rattle.std.proofs.Common.{sym, subst, ℕ, suc, ◌≡◌, List, [], ◌∷◌, refl, Option, Some, None, Bool, true, false}
use Rattle.std.specs.Prelude.{nat_eq, length, ◌||◌, not, slice_get, remove}
use Rattle.cdi_base.specs.declared.value.Value.{Value}
use Rattle.cdi_base.specs.declared.value.Value.TheVariants as values
use Rattle.cdi_base.specs.declared.act.Act.{Act}
use Rattle.cdi_base.specs.declared.act.Act.TheVariants as acts
use Rattle.cdi_base.specs.declared.act.Via.{Via}
use Rattle.cdi_base.specs.declared.act.Via.TheVariants as vias
use Rattle.cdi_base.specs.declared.act.Answer.TheVariants as answers
use Rattle.cdi_base.specs.declared.entry.Entry.{Entry}
use Rattle.cdi_base.specs.declared.entry.Entry.TheVariants as entries
use Rattle.cdi_base.specs.declared.place.Place.TheVariants as places
use Rattle.cdi_base.specs.declared.place.InterceptorMethod.{InterceptorMethod}
use Rattle.cdi_base.specs.declared.place.InterceptorMethod.TheVariants as roles
use Rattle.cdi_base.specs.declared.scope.Scope.{Scope}
use Rattle.cdi_base.specs.declared.built_in.BuiltIn.{BuiltIn}
use Rattle.cdi_base.specs.declared.built_in.BuiltIn.TheVariants as built_in
use Rattle.cdi_base.specs.declared.uses.Use.{Use}
use Rattle.cdi_base.specs.BuiltIn.{number_of}
use Rattle.cdi_base.specs.Maps.{at}
use Rattle.cdi_store.specs.declared.instance.Context.{Context}
use Rattle.cdi_store.specs.declared.instance.Context.TheVariants.{Application, Request, Session}
use Rattle.cdi_contexts.specs.declared.context.Status.{Status}
use Rattle.cdi_contexts.specs.declared.context.Status.TheVariants.{Ending, Open}
use Rattle.cdi_contexts.specs.declared.context.Held.{Held}
use Rattle.cdi_contexts.specs.declared.context.Held.TheVariants.{Is, Making}
use Rattle.cdi_store.specs.declared.instance.Component.{Component}
use Rattle.cdi_store.specs.declared.instance.Component.TheVariants as components
use Rattle.cdi_store.specs.declared.instance.Owner.{Owner}
use Rattle.cdi_store.specs.declared.instance.Owner.TheVariants as owners
use Rattle.cdi_store.specs.declared.references.Reference.{Reference}
use Rattle.cdi_store.specs.declared.references.Reference.TheVariants.{Direct, Proxy}
use Rattle.cdi_store.specs.declared.references.Reference.TheVariants.{Empty as NoReference}
use Rattle.cdi_contexts.specs.Refusals.{is_new}
use Rattle.cdi_machine.specs.Words.{Name, Asked}
use Rattle.cdi_machine.specs.Tables.{Tables, Code, Member, Lifecycle, Step, Source, Product, Kind, Bean, Observer, Resolution, One, Nothing, Many}
use Rattle.cdi_machine.specs.World.{World, Change, instance_at}
use Rattle.cdi_machine.specs.Programs.{ActiveContext, cut, miss, change, tick, mark, act, choose, nested, Task, Given, Completion, Running, Prog, ret, throw, see, handle, quietly, attempt, require_present, require, expect, text_of, call, finish, raise, do_nothing, alter, each, top, pick, active_or_raise, context, require_one, resolve, rethrow, require_number, bean_at, interceptor_at, lookup_at, instance, invocation}
use Rattle.cdi_machine.specs.Contexts.{find_or_create, obtain, is_normal, direct_reference, refer_to, resolve_point, resolve_points, stays, require_living, reach_instance}
use Rattle.cdi_machine.specs.DestroyAct.{is_idle, require_made, destroy_idle, destroy_held, destroy_by}
use Rattle.cdi_machine.specs.Bodies.{invoke_by, provide, invoke, call_back, body_at_start, is_of, first_of, interceptor_of, run_rest, reference_at, find_reference, method_in, bean_of, method_of, invoke_method, fits, replace_parameters, repeats, proceed, carry_out, find, answer_of, with_answer, after_act, answer_find, perform, carry_on}
use Rattle.cdi_machine.specs.Destruction.{latest, dismiss_latest, give_back, borrow_for, obtain_receiver, dispose, clean_up_bean, clean_up, release_from, release, dismiss, clear_from, clear}
use Rattle.cdi_machine.specs.Creation.{construct, inject, take_step, call_producer, accept, produce, make}
use Rattle.cdi_machine.specs.Events.{fire, observe, deliver, notify, is_skipped, fire_context_event, fire_container_event, qualifier}
use Rattle.cdi_machine.specs.Commands.{Command, task, stand_alone_in, close, begin_session, begin, end_session, end, invalidate, use_bean, end_alone, shut_down, requests_of, sessions_of, is_used}
use Rattle.cdi_machine.proofs.Levels.{Height, shift, Steady}

-- ---- what doesn't begin or end an instance

abbrev pub PlainChange : Change → Type 0 → Type 0
PlainChange (Change.Make component owner fields) X = ⊥
PlainChange (Change.Settle n) X = ⊥
PlainChange (Change.Discard n) X = ⊥
PlainChange (Change.Leave n) X = ⊥
PlainChange (Change.Remove n) X = ⊥
PlainChange _ X = X

abbrev pub PlainEntry : Entry → Type 0 → Type 0
PlainEntry (entries.Event class qualifiers) X = X
PlainEntry (entries.Did a) X = X
PlainEntry (entries.Pick c i) X = X
PlainEntry _ X = ⊥

abbrev pub Plain : {A : Type 0} → Prog A → Type 0
Plain (ret a) = Unit {0}
Plain (throw x) = Unit {0}
Plain (cut cause) = Unit {0}
Plain (miss p) = Plain p
Plain (see k) = (t : Tables) (w : World) → Plain (k t w)
Plain (change g p) = PlainChange g (Plain p)
Plain (tick e p) = PlainEntry e (Plain p)
Plain (mark n p) = ⊥
Plain (act b fields view k) = (a : Act) → Plain (k a)
Plain (choose n k) = (i : ℕ) → Plain (k i)
Plain (nested t k) = (c : Completion Given) → Plain (k c)

pub map_change : {X Y : Type 0} (g : Change) → (X → Y) → PlainChange g X → PlainChange g Y
map_change (Change.Make component owner fields) f x = x
map_change (Change.Settle n) f x = x
map_change (Change.Discard n) f x = x
map_change (Change.Leave n) f x = x
map_change (Change.Remove n) f x = x
map_change _ f x = f x

pub map_entry : {X Y : Type 0} (e : Entry) → (X → Y) → PlainEntry e X → PlainEntry e Y
map_entry (entries.Event class qualifiers) f x = f x
map_entry (entries.Did a) f x = f x
map_entry (entries.Pick c i) f x = f x
map_entry _ f x = x

-- ---- the walk: a plain program that begins at the one height ends at the other

abbrev pub Walks : {A : Type 0} → Height → Height → Prog A → Type 0
Walks e h (ret a) = h ≡ e
Walks e h (throw x) = h ≡ e
Walks e h (cut cause) = Unit {0}
Walks e h (miss p) = Walks e h p
Walks e h (see k) = (t : Tables) (w : World) → Walks e h (k t w)
Walks e h (change g p) = PlainChange g (Walks e (shift g h) p)
Walks e h (tick x p) = PlainEntry x (Walks e h p)
Walks e h (mark n p) = ⊥
Walks e h (act b fields view k) = (a : Act) → Walks e h (k a)
Walks e h (choose n k) = (i : ℕ) → Walks e h (k i)
Walks e h (nested t k) = (c : Completion Given) → Walks e h (k c)

pub walk : {A B : Type 0} (m e h : Height) (p : Prog A) (f : A → Prog B) (g : Name → Prog B) → Walks m h p → ((a : A) → Walks e m (f a)) → ((x : Name) → Walks e m (g x)) → Walks e h (handle p f g)
walk m e h (ret a) f g q qf qg = subst (λ z. Walks e z (f a)) (sym q) (qf a)
walk m e h (throw x) f g q qf qg = subst (λ z. Walks e z (g x)) (sym q) (qg x)
walk m e h (cut cause) f g q qf qg = tt
walk m e h (miss p) f g q qf qg = walk m e h p f g q qf qg
walk m e h (see k) f g q qf qg = λ t w. walk m e h (k t w) f g (q t w) qf qg
walk m e h (change x p) f g q qf qg = map_change x (λ y. walk m e (shift x h) p f g y qf qg) q
walk m e h (tick x p) f g q qf qg = map_entry x (λ y. walk m e h p f g y qf qg) q
walk m e h (mark n p) f g q qf qg = q
walk m e h (act b fields view k) f g q qf qg = λ a. walk m e h (k a) f g (q a) qf qg
walk m e h (choose n k) f g q qf qg = λ i. walk m e h (k i) f g (q i) qf qg
walk m e h (nested t k) f g q qf qg = λ c. walk m e h (k c) f g (q c) qf qg

of_change : {X : Type 0} (g : Change) → PlainChange g X → X
of_change (Change.Make component owner fields) x = absurd x
of_change (Change.Settle n) x = absurd x
of_change (Change.Discard n) x = absurd x
of_change (Change.Leave n) x = absurd x
of_change (Change.Remove n) x = absurd x
of_change _ x = x

of_entry : {X : Type 0} (e : Entry) → PlainEntry e X → X
of_entry (entries.Event class qualifiers) x = x
of_entry (entries.Did a) x = x
of_entry (entries.Pick c i) x = x
of_entry _ x = absurd x

-- it is steady
pub steady_of : {A : Type 0} (e h : Height) (p : Prog A) → Walks e h p → Steady e h p
steady_of e h (ret a) q = q
steady_of e h (throw x) q = q
steady_of e h (cut cause) q = tt
steady_of e h (miss p) q = steady_of e h p q
steady_of e h (see k) q = λ t w. steady_of e h (k t w) (q t w)
steady_of e h (change g p) q = steady_of e (shift g h) p (of_change g q)
steady_of e h (tick x p) q = steady_of e h p (of_entry x q)
steady_of e h (mark n p) q = absurd q
steady_of e h (act b fields view k) q = λ a. steady_of e h (k a) (q a)
steady_of e h (choose n k) q = λ i. steady_of e h (k i) (q i)
steady_of e h (nested t k) q = λ c. steady_of e h (k c) (q c)

-- it is plain
pub plain_of : {A : Type 0} (e h : Height) (p : Prog A) → Walks e h p → Plain p
plain_of e h (ret a) q = tt
plain_of e h (throw x) q = tt
plain_of e h (cut cause) q = tt
plain_of e h (miss p) q = plain_of e h p q
plain_of e h (see k) q = λ t w. plain_of e h (k t w) (q t w)
plain_of e h (change g p) q = map_change g (λ y. plain_of e (shift g h) p y) q
plain_of e h (tick x p) q = map_entry x (λ y. plain_of e h p y) q
plain_of e h (mark n p) q = q
plain_of e h (act b fields view k) q = λ a. plain_of e h (k a) (q a)
plain_of e h (choose n k) q = λ i. plain_of e h (k i) (q i)
plain_of e h (nested t k) q = λ c. plain_of e h (k c) (q c)

-- ---- the programs

module _ (h : Height) where
  abbrev pub Level : {A : Type 0} → Prog A → Type 0
  Level p = Walks h h p

  pub then : {A B : Type 0} (p : Prog A) (f : A → Prog B) → Level p → ((a : A) → Level (f a)) → Level (handle p f throw)
  then p f q qf = walk h h h p f throw q qf (λ x. refl)

  pub caught : {A B : Type 0} (p : Prog A) (f : A → Prog B) (g : Name → Prog B) → Level p → ((a : A) → Level (f a)) → ((x : Name) → Level (g x)) → Level (handle p f g)
  caught p f g q qf qg = walk h h h p f g q qf qg

  pub l_if : {A : Type 0} (c : Bool) (p q : Prog A) → Level p → Level q → Level (elim c as (λ _. Prog A) [ true ↦ p | false ↦ q ])
  l_if true p q a b = a
  l_if false p q a b = b

  pub l_present : {A : Type 0} (o : Option A) → Level (require_present o)
  l_present None = refl
  l_present (Some a) = refl

  pub l_expect : (b : Bool) → Level (expect b)
  l_expect true = refl
  l_expect false = refl

  pub l_require : (b : Bool) (x : BuiltIn) → Level (require b x)
  l_require true x = refl
  l_require false x = refl

  pub l_call : (t : Task) → Level (call t)
  l_call t (Completion.Gave g) = refl
  l_call t (Completion.Threw x) = refl

  pub l_each : {X : Type 0} (xs : List X) (f : X → Prog Given) → ((x : X) → Level (f x)) → Level (each xs f)
  l_each [] f q = refl
  l_each (x ∷ []) f q = q x
  l_each (x ∷ y ∷ xs) f q = then (f x) _ (q x) (λ _. l_each (y ∷ xs) f q)

  pub l_top : {X : Type 0} (xs : List X) → Level (top xs)
  l_top [] = refl
  l_top (x ∷ xs) = refl

  pub l_active : (o : Option ActiveContext) → Level (active_or_raise o)
  l_active None = refl
  l_active (Some a) = refl

  pub l_one : (x : Resolution) → Level (require_one x)
  l_one (One b) = refl
  l_one Nothing = refl
  l_one Many = refl

  pub l_number : (g : Given) → Level (require_number g)
  l_number (Given.Number n) = refl
  l_number (Given.Result v) = refl
  l_number Given.Empty = refl

  pub l_rethrow : (A : Type 0) (x : Name) (b : BuiltIn) → Level (rethrow {A = A} x b)
  l_rethrow A x b t w = l_if (t.is_checked x) (raise b) (throw x) refl refl

  pub l_picked : {X : Type 0} (xs : List X) → Level (pick xs)
  l_picked [] = refl
  l_picked (x ∷ []) = refl
  l_picked (x ∷ y ∷ xs) = λ i. refl

  pub l_bean : (b : ℕ) → Level (bean_at b)
  l_bean b t w = l_present (t.bean b)

  pub l_instance : (n : ℕ) → Level (instance n)
  l_instance n t w = l_present (instance_at w n)

  pub l_invocation : Level invocation
  l_invocation t w = l_top w.invocations

  pub l_resolved : (asked : Asked) → Level (resolve asked)
  l_resolved asked t w = l_one (t.resolve asked)

  pub l_context : (s : Scope) → Level (context s)
  l_context s t w = l_active _

  -- ---- contexts

  pub l_contextual : (b : ℕ) (c : ActiveContext) (x : Option Held) → Level (find_or_create b c x)
  l_contextual b c (Some (Is n)) = refl
  l_contextual b c (Some Making) = refl
  l_contextual b c None = by c.has.status
    where
      by : (s : Status) → Level (elim s as (λ _. Prog Given) [ Open ↦ call (Task.Create b (owners.Context c.context)) | Ending ↦ raise built_in.ContextNotActiveException ])
      by Open = l_call (Task.Create b (owners.Context c.context))
      by Ending = refl

  pub l_obtain : (b : ℕ) → Level (obtain b)
  l_obtain b = then (bean_at b) _ (l_bean b) λ bean. then (context bean.scope) _ (l_context bean.scope) λ c. l_contextual b c (at c.has.holds b)

  pub l_reference : (b : ℕ) (owner : Owner) → Level (refer_to b owner)
  l_reference b owner = then (bean_at b) _ (l_bean b) λ bean. l_if (is_normal bean.scope) (ret (Proxy b)) (handle (call (Task.Create b owner)) (λ made. ret (direct_reference made)) throw) refl (then (call (Task.Create b owner)) _ (l_call (Task.Create b owner)) (λ _. refl))

  pub l_injected : (point : Asked) (owner : Owner) → Level (resolve_point point owner)
  l_injected point owner = then (resolve point) _ (l_resolved point) (λ b. l_reference b owner)

  pub l_all_injected : (points : List Asked) (owner : Owner) → Level (resolve_points points owner)
  l_all_injected [] owner = refl
  l_all_injected (point ∷ points) owner = then (resolve_point point owner) _ (l_injected point owner) λ x. then (resolve_points points owner) _ (l_all_injected points owner) (λ _. refl)

  pub l_living : (n : ℕ) → Level (require_living n)
  l_living n t w = then (require (stays (instance_at w n)) built_in.IllegalStateException) _ (l_require _ _) (λ _. refl)

  pub l_use : (x : Reference) → Level (reach_instance x)
  l_use NoReference = refl
  l_use (Direct n) = l_living n
  l_use (Proxy b) = then (call (Task.Obtain b)) _ (l_call (Task.Obtain b)) l_number

  -- ---- the destroy act

  pub l_idle : (n : ℕ) → Level (destroy_idle n)
  l_idle n t w = then (require (is_idle w n) built_in.IllegalStateException) _ (l_require _ _) (λ _. l_call (Task.Destroy n))

  pub l_held : (x : Option Held) → Level (destroy_held x)
  l_held None = refl
  l_held (Some Making) = refl
  l_held (Some (Is n)) = l_idle n

  pub l_destroy_by : (x : Reference) → Level (destroy_by x)
  l_destroy_by NoReference = refl
  l_destroy_by (Direct n) = then (require_made n) (λ _. destroy_idle n) (λ t w. l_require _ _) (λ _. l_idle n)
  l_destroy_by (Proxy b) = then (bean_at b) _ (l_bean b) λ bean. then (context bean.scope) _ (l_context bean.scope) λ c. l_held (at c.has.holds b)

  pub l_first_of : (w : World) (i : ℕ) (ns : List ℕ) → Level (first_of w i ns)
  l_first_of w i [] = refl
  l_first_of w i (n ∷ ns) = l_if (is_of i (instance_at w n)) (ret n) (first_of w i ns) refl (l_first_of w i ns)

  pub l_provide : (points : List Asked) (owner : Owner) → Level (provide points owner)
  l_provide points owner = then (resolve_points points owner) _ (l_all_injected points owner) (λ _. refl)

module _ (h : Height) where
  -- in an invocation there is one more
  pub l_invoked : (n : ℕ) (role : InterceptorMethod) (members : List Code) (args : List Value) (p : Prog Given) → ((k : Height) → Walks k k p) → Walks h h (invoke_by n role members args p)
  l_invoked n role members args p q =
      let k : Height = record h { invocations = suc h.invocations } in
      walk k h k p _ _ (q k) (λ _. refl) (λ _. refl)

  pub l_give_back : Walks h (record h { temporaries = suc h.temporaries }) give_back
  l_give_back =
      let k : Height = record h { temporaries = suc h.temporaries } in
      walk k h k (call Task.Dismiss) _ _ (l_call k Task.Dismiss) (λ _. refl) (λ _. refl)

  pub l_borrowing : (p : Prog Given) → ((k : Height) → Walks k k p) → Walks h h (borrow_for p)
  l_borrowing p q =
      let k : Height = record h { temporaries = suc h.temporaries } in
      walk k h k p _ _ (q k) (λ a. walk h h k give_back _ _ l_give_back (λ _. refl) (λ _. refl)) (λ x. walk h h k give_back _ _ l_give_back (λ _. refl) (λ _. refl))

  pub l_invoke : (n : ℕ) (m : Member) (args : List Value) (owner : Owner) → Walks h h (invoke n m args owner)
  l_invoke n m args owner = l_invoked n roles.AroundInvoke (m.code ∷ []) args (handle (provide m.points owner) (λ _. call (Task.Rest m.chain)) throw) (λ k. then k (provide m.points owner) (λ _. call (Task.Rest m.chain)) (l_provide k m.points owner) (λ _. l_call k (Task.Rest m.chain)))

  pub l_lifecycle : (n : ℕ) (role : InterceptorMethod) (callbacks : List Code) (chain : List ℕ) → Walks h h (call_back n role callbacks chain)
  l_lifecycle n role callbacks chain = l_invoked n role callbacks [] (call (Task.Rest chain)) (λ k. l_call k (Task.Rest chain))

  pub l_receiver : (b : ℕ) → Walks h h (obtain_receiver b)
  l_receiver b = then h (refer_to b owners.Borrower) _ (l_reference h b owners.Borrower) (l_use h)

  -- ---- bodies

  pub l_rest : (chain : List ℕ) → Walks h h (run_rest chain)
  l_rest [] =
      then h invocation _ (l_invocation h) λ v. then h (each v.members _) _ (l_each h v.members _ (λ m. l_call h (Task.Body (body_at_start v.target m.place m.body v.parameters v.references [])))) (λ _. refl)
  l_rest (i ∷ chain) =
      then h invocation _ (l_invocation h) λ v.
      then h (interceptor_at i) _ (λ t w. l_present h (t.interceptor i)) λ x.
      then h (require_present (x.body v.role)) _ (l_present h (x.body v.role)) λ b.
      then h (interceptor_of v.target i) _ (then h (instance v.target) _ (l_instance h v.target) (λ o t w. l_first_of h w i o.dependents)) λ n.
      let y = body_at_start n (places.Interceptor x.name v.role) b v.parameters [] chain in
      then h (call (Task.Body y)) _ (l_call h (Task.Body y)) (λ _. refl)

  -- ---- acts

  pub l_referred : (r : Running) (via : Via) → Walks h h (find_reference r via)
  l_referred r (vias.Field name) = then h (instance r.instance) _ (l_instance h r.instance) (λ _. refl)
  l_referred r (vias.Param k) = refl
  l_referred r (vias.Local k) = refl

  pub l_method_in : (k : Kind) (name : Name) → Walks h h (method_in k name)
  l_method_in (Kind.Class c) name = l_present h (at c.methods name)
  l_method_in (Kind.Producer p) name = refl

  pub l_bean_of : (component : Component) → Walks h h (bean_of component)
  l_bean_of (components.Bean b) = l_bean h b
  l_bean_of (components.Interceptor i) = refl

  pub l_method_of : (n : ℕ) (name : Name) → Walks h h (method_of n name)
  l_method_of n name = then h (instance n) _ (l_instance h n) λ o. then h (bean_of o.component) _ (l_bean_of o.component) λ bean. l_method_in bean.kind name

  pub l_invoke_method : (n : ℕ) (name : Name) (args : List Value) → Walks h h (invoke_method n name args)
  l_invoke_method n name args = then h (method_of n name) _ (l_method_of n name) (λ m. then h (expect (nat_eq (length args) m.count)) (λ _. invoke_by n roles.AroundInvoke (m.code ∷ []) args (call (Task.Rest m.chain))) (l_expect h _) (λ _. l_invoked n roles.AroundInvoke (m.code ∷ []) args (call (Task.Rest m.chain)) (λ k. l_call k (Task.Rest m.chain))))

  pub l_replace : (args : Option (List Value)) → Walks h h (replace_parameters args)
  l_replace None = refl
  l_replace (Some args) = refl

  pub l_proceed : (r : Running) (args : Option (List Value)) → Walks h h (proceed r args)
  l_proceed r args =
      then h invocation _ (l_invocation h) λ v.
      then h (require (fits v.parameters args) built_in.IllegalArgumentException) _ (l_require h _ _) λ _.
      then h (require (repeats v.role || not r.proceeded) built_in.IllegalStateException) _ (l_require h _ _) λ _.
      then h (replace_parameters args) (λ _. call (Task.Rest r.rest)) (l_replace args) (λ _. l_call h (Task.Rest r.rest))

  pub l_does : (r : Running) (a : Act) → Walks h h (carry_out r a)
  l_does r (acts.Set field v) = then h (instance r.instance) _ (l_instance h r.instance) λ o. then h (require_present (at o.fields field)) _ (l_present h (at o.fields field)) (λ _. refl)
  l_does r (acts.Call via name args) = then h (find_reference r via) _ (l_referred r via) λ x. then h (reach_instance x) _ (l_use h x) λ n. l_invoke_method n name args
  l_does r (acts.Own name args) = then h (method_of r.instance name) _ (l_method_of r.instance name) (λ m. then h (expect (nat_eq (length args) m.count)) (λ _. call (Task.Body (body_at_start r.instance m.code.place m.code.body args [] []))) (l_expect h _) (λ _. l_call h (Task.Body (body_at_start r.instance m.code.place m.code.body args [] []))))
  l_does r (acts.Read via) = then h (find_reference r via) _ (l_referred r via) λ x. then h (reach_instance x) _ (l_use h x) λ n. then h (instance n) _ (l_instance h n) (λ _. refl)
  l_does r (acts.Write via v) = then h (find_reference r via) _ (l_referred r via) λ x. then h (reach_instance x) _ (l_use h x) (λ n. refl)
  l_does r (acts.Fire class qualifiers v) = l_call h (Task.Fire class qualifiers v)
  l_does r (acts.Proceed args) = l_proceed r args
  l_does r (acts.Find k) = refl
  l_does r (acts.Keep key v) = refl
  l_does r (acts.Peek key) = then h invocation _ (l_invocation h) (λ _. refl)
  l_does r (acts.Destroy k) = l_destroy_by h (reference_at (at r.locals k))
  l_does r (acts.Give v) = refl
  l_does r (acts.Throw x) = refl

  pub l_find : (r : Running) (k : ℕ) → Walks h h (find r k)
  l_find r k = then h (lookup_at r.body k) _ (λ t w. l_present h (t.lookup r.body k)) λ asked. then h (resolve asked) _ (l_resolved h asked) λ b. l_reference h b (owners.Instance r.instance)

  pub l_answer : (c : Completion Given) → Walks h h (answer_of c)
  l_answer (Completion.Gave (Given.Result v)) = refl
  l_answer (Completion.Gave (Given.Number n)) = refl
  l_answer (Completion.Gave Given.Empty) = refl
  l_answer (Completion.Threw x) = then h (text_of x) _ (λ t w. l_present h (t.text x)) (λ _. refl)

  pub l_found : (r : Running) (k : ℕ) (c : Completion Reference) → Walks h h (answer_find r k c)
  l_found r k (Completion.Gave x) = l_call h (Task.Acts (with_answer (record r { locals = Rattle.cdi_base.specs.Maps.put k x r.locals }) (answers.Found k)))
  l_found r k (Completion.Threw x) = then h (answer_of (Completion.Threw x)) (λ answer. call (Task.Acts (with_answer r answer))) (l_answer (Completion.Threw x)) (λ answer. l_call h (Task.Acts (with_answer r answer)))

  pub l_told : (r : Running) (a : Act) → Walks h h (handle (attempt (carry_out r a)) (λ c. handle (answer_of c) (λ answer. call (Task.Acts (with_answer (after_act r a) answer))) throw) throw)
  l_told r a = then h (attempt (carry_out r a)) _ (caught h (carry_out r a) _ _ (l_does r a) (λ _. refl) (λ _. refl)) λ c. then h (answer_of c) (λ answer. call (Task.Acts (with_answer (after_act r a) answer))) (l_answer c) (λ answer. l_call h (Task.Acts (with_answer (after_act r a) answer)))

  pub l_perform : (r : Running) (a : Act) → Walks h h (perform r a)
  l_perform r (acts.Give v) = refl
  l_perform r (acts.Throw x) = refl
  l_perform r (acts.Find k) = then h (attempt (find r k)) _ (caught h (find r k) _ _ (l_find r k) (λ _. refl) (λ _. refl)) (l_found r k)
  l_perform r (acts.Set field v) = l_told r (acts.Set field v)
  l_perform r (acts.Call via name args) = l_told r (acts.Call via name args)
  l_perform r (acts.Own name args) = l_told r (acts.Own name args)
  l_perform r (acts.Read via) = l_told r (acts.Read via)
  l_perform r (acts.Write via v) = l_told r (acts.Write via v)
  l_perform r (acts.Fire class qualifiers v) = l_told r (acts.Fire class qualifiers v)
  l_perform r (acts.Proceed args) = l_told r (acts.Proceed args)
  l_perform r (acts.Keep key v) = l_told r (acts.Keep key v)
  l_perform r (acts.Peek key) = l_told r (acts.Peek key)
  l_perform r (acts.Destroy k) = l_told r (acts.Destroy k)

  pub l_acts : (r : Running) → Walks h h (carry_on r)
  l_acts r = then h (instance r.instance) _ (l_instance h r.instance) (λ o a. l_perform r a)

module _ (h : Height) where
  -- ---- destruction

  pub l_quietly : (p : Prog Given) → Walks h h p → Walks h h (quietly p)
  l_quietly p q = caught h p _ _ q (λ _. refl) (λ _. refl)

  pub l_served : (b : ℕ) (m : Member) (args : List Value) (owner : Owner) → Walks h h (borrow_for (handle (obtain_receiver b) (λ n. invoke n m args owner) throw))
  l_served b m args owner = l_borrowing h (handle (obtain_receiver b) (λ n. invoke n m args owner) throw) (λ k. then k (obtain_receiver b) (λ n. invoke n m args owner) (l_receiver k b) (λ n. l_invoke k n m args owner))

  pub l_farewell : (n : ℕ) (v : Value) (component : Component) → Walks h h (clean_up n v component)
  l_farewell n v (components.Interceptor i) = refl
  l_farewell n v (components.Bean b) = then h (bean_at b) _ (l_bean h b) (λ bean. by bean.kind)
    where
      by : (k : Kind) → Walks h h (clean_up_bean n v k)
      by (Kind.Class c) = l_lifecycle h n roles.PreDestroy c.pre_destroy.callbacks c.pre_destroy.chain
      by (Kind.Producer p) = l_each h p.disposers (dispose p v) (λ d. l_served p.declaring d (v ∷ []) owners.Borrower)

  pub l_release : (n : ℕ) (ns : List ℕ) → Walks h h (release_from n ns)
  l_release n [] = refl
  l_release n (d ∷ ns) = then h (pick (d ∷ ns)) _ (l_picked h (d ∷ ns)) λ i. then h (require_present (slice_get (d ∷ ns) i)) _ (l_present h _) λ x. then h (call (Task.Destroy x)) (λ _. call (Task.Release n)) (l_call h (Task.Destroy x)) (λ _. l_call h (Task.Release n))

  pub l_latest : (o : Option ℕ) → Walks h h (dismiss_latest o)
  l_latest None = refl
  l_latest (Some n) = then h (call (Task.Destroy n)) (λ _. call Task.Dismiss) (l_call h (Task.Destroy n)) (λ _. l_call h Task.Dismiss)

  pub l_clear : (c : Context) (o : Option ℕ) → Walks h h (clear_from c o)
  l_clear c None = refl
  l_clear c (Some n) = then h (call (Task.Destroy n)) (λ _. call (Task.Clear c)) (l_call h (Task.Destroy n)) (λ _. l_call h (Task.Clear c))

  pub l_releases : (n : ℕ) → Walks h h (release n)
  l_releases n = then h (instance n) _ (l_instance h n) (λ o. l_release n o.dependents)

  pub l_dismiss : Walks h h dismiss
  l_dismiss = then h (see λ t w. top w.temporaries) _ (λ t w. l_top h w.temporaries) (λ ns. l_latest (latest ns))

  pub l_clears : (c : Context) → Walks h h (clear c)
  l_clears c t w = l_clear c _

  -- ---- creation

  pub l_construct : (n : ℕ) (points : List Asked) (chain : Lifecycle) → Walks h h (construct n points chain)
  l_construct n points chain =
      l_invoked h n roles.AroundConstruct chain.callbacks [] (handle (provide points (owners.Instance n)) (λ _. handle (call (Task.Rest chain.chain)) (λ _. handle invocation (λ v. handle (require v.completed built_in.CreationException) (λ _. finish) throw) throw) throw) throw) λ k.
      then k (provide points (owners.Instance n)) _ (l_provide k points (owners.Instance n)) λ _.
      then k (call (Task.Rest chain.chain)) _ (l_call k (Task.Rest chain.chain)) λ _.
      then k invocation _ (l_invocation k) λ v. then k (require v.completed built_in.CreationException) _ (l_require k _ _) (λ _. refl)

  pub l_inject : (n : ℕ) (field : Name) (point : Asked) → Walks h h (inject n field point)
  l_inject n field point = then h (resolve_point point (owners.Instance n)) _ (l_injected h point (owners.Instance n)) (λ _. refl)

  pub l_step : (n : ℕ) (s : Step) → Walks h h (take_step n s)
  l_step n (Step.Intercept i) = l_call h (Task.Intercept i n)
  l_step n (Step.Construct points chain) = l_construct n points chain
  l_step n (Step.Inject field point) = l_inject n field point
  l_step n (Step.Initialize m points) = then h (resolve_points points (owners.Instance n)) (λ rs. call (Task.Body (body_at_start n m.place m.body [] rs []))) (l_all_injected h points (owners.Instance n)) (λ rs. l_call h (Task.Body (body_at_start n m.place m.body [] rs [])))
  l_step n (Step.Complete chain) = l_lifecycle h n roles.PostConstruct chain.callbacks chain.chain

module _ (h : Height) where
  pub l_produced : (n m : ℕ) (s : Source) → Walks h h (call_producer n m s)
  l_produced n m (Source.ProducerMethod producer) = l_invoke h m producer [] (owners.Instance n)
  l_produced n m (Source.ProducerField field) = then h (instance m) _ (l_instance h m) λ o. then h (require_present (at o.fields field)) _ (l_present h _) (λ _. refl)

  pub l_accept : (b : Bool) (n : ℕ) (g : Given) → Walks h h (accept b n g)
  l_accept true n (Given.Result values.Null) = refl
  l_accept true n (Given.Result (values.Int i)) = refl
  l_accept true n (Given.Result (values.Text t)) = refl
  l_accept true n (Given.Number m) = refl
  l_accept true n Given.Empty = refl
  l_accept false n (Given.Result v) = refl
  l_accept false n (Given.Number m) = refl
  l_accept false n Given.Empty = refl

module _ (h : Height) where
  pub l_produce : (n : ℕ) (scope : Scope) (p : Product) → Walks h h (produce n scope p)
  l_produce n scope p =
      then h (borrow_for (handle (obtain_receiver p.declaring) (λ m. call_producer n m p.source) throw)) _
      (l_borrowing h (handle (obtain_receiver p.declaring) (λ m. call_producer n m p.source) throw) (λ k. then k (obtain_receiver p.declaring) (λ m. call_producer n m p.source) (l_receiver k p.declaring) (λ m. l_produced k n m p.source)))
      (λ v. l_accept h (is_normal scope) n v)

  pub l_made_by : (n : ℕ) (bean : Bean) (k : Kind) → Walks h h (make n bean k)
  l_made_by n bean (Kind.Class c) = then h (each c.plan (take_step n)) _ (l_each h c.plan (take_step n) (l_step h n)) (λ _. refl)
  l_made_by n bean (Kind.Producer p) = l_produce n bean.scope p

  -- ---- events

  pub l_fire : (class : Name) (qualifiers : List Use) (v : Value) → Walks h h (fire class qualifiers v)
  l_fire class qualifiers v t w = then h (each (t.observers class qualifiers) (λ group. call (Task.Notify group v))) _ (l_each h (t.observers class qualifiers) _ (λ group. l_call h (Task.Notify group v))) (λ _. refl)

  pub l_deliver : (o : Observer) (v : Value) → Walks h h (deliver o v)
  l_deliver o v =
      then h (bean_at o.bean) _ (l_bean h o.bean) λ bean t w.
      l_if h (is_skipped w o bean) finish (handle (observe o v) (λ _. finish) (λ x. rethrow x built_in.ObserverException)) refl (caught h (observe o v) _ _ (l_served h o.bean o.member (v ∷ []) owners.Borrower) (λ _. refl) (λ x. l_rethrow h _ x built_in.ObserverException))

  pub l_notify : (os : List Observer) (v : Value) → Walks h h (notify os v)
  l_notify [] v = refl
  l_notify (o ∷ os) v =
      then h (pick (o ∷ os)) _ (l_picked h (o ∷ os)) λ i. then h (require_present (slice_get (o ∷ os) i)) _ (l_present h _) λ x.
      then h (deliver x v) (λ _. call (Task.Notify (remove (o ∷ os) i) v)) (l_deliver x v) (λ _. l_call h (Task.Notify (remove (o ∷ os) i) v))

-- ---- commands

module _ (h : Height) where
  pub l_event : (what : BuiltIn) (c : Context) → Walks h h (fire_context_event what c)
  l_event what c = let t = Task.Fire (number_of built_in.Object) (qualifier what c ∷ []) values.Null in l_quietly h (call t) (l_call h t)

  pub l_container : (class : BuiltIn) → Walks h h (fire_container_event class)
  l_container class = let t = Task.Fire (number_of class) [] values.Null in l_quietly h (call t) (l_call h t)

  pub l_close : (c : Context) → Walks h h (close c)
  l_close c = then h (fire_context_event built_in.BeforeDestroyed c) _ (l_event built_in.BeforeDestroyed c) λ _. then h (call (Task.Clear c)) _ (l_call h (Task.Clear c)) λ _. then h (fire_context_event built_in.Destroyed c) _ (l_event built_in.Destroyed c) (λ _. refl)

  pub l_begin : (r : List ℕ) (s : Option (List ℕ)) → Walks h h (begin r s)
  l_begin r None = λ t w. then h (fire_context_event built_in.Initialized (Request r)) _ (l_event built_in.Initialized (Request r)) (λ _. refl)
  l_begin r (Some s) = λ t w.
      then h (begin_session s) _ (λ t w. l_if h (is_new w.contexts s) (alter (Change.BeginSession s)) do_nothing refl refl) λ _ t2 w2.
      then h (elim (is_new w.contexts s) as (λ _. Prog (Unit {0})) [ true ↦ fire_context_event built_in.Initialized (Session s) | false ↦ do_nothing ]) _ (l_if h (is_new w.contexts s) (fire_context_event built_in.Initialized (Session s)) do_nothing (l_event built_in.Initialized (Session s)) refl) λ _.
      then h (fire_context_event built_in.Initialized (Request r)) _ (l_event built_in.Initialized (Request r)) (λ _. refl)

  pub l_end_session : (w : World) (s : Option (List ℕ)) → Walks h h (end_session w s)
  l_end_session w None = refl
  l_end_session w (Some s) = l_if h _ (close (Session s)) finish (l_close (Session s)) refl

  pub l_end : (r : List ℕ) → Walks h h (end r)
  l_end r t w = then h (close (Request r)) _ (l_close (Request r)) (λ _ t2 w2. l_end_session w2 w2.environment.session)

  pub l_invalidate : (s : List ℕ) → Walks h h (invalidate s)
  l_invalidate s t w = l_if h (is_used w.contexts s) finish (handle (stand_alone_in s) (λ _. close (Session s)) throw) refl (l_close (Session s))

  pub l_end_alone : (s : List ℕ) → Walks h h (end_alone s)
  l_end_alone s = l_close (Session s)

module _ (h : Height) where
  pub l_used : (asked : Asked) (f : ℕ → Prog Given) → ((k : Height) (n : ℕ) → Walks k k (f n)) → Walks h h (use_bean asked f)
  l_used asked f q =
      l_borrowing h (handle (resolve asked) (λ b. handle (refer_to b owners.Borrower) (λ r. handle (reach_instance r) f throw) throw) throw) λ k.
      then k (resolve asked) (λ b. handle (refer_to b owners.Borrower) (λ r. handle (reach_instance r) f throw) throw) (l_resolved k asked) λ b. then k (refer_to b owners.Borrower) (λ r. handle (reach_instance r) f throw) (l_reference k b owners.Borrower) λ r. then k (reach_instance r) f (l_use k r) (q k)

  pub l_shutdown : Walks h h shut_down
  l_shutdown t w =
      then h (each (requests_of w.contexts) end) _ (l_each h (requests_of w.contexts) end (l_end h)) λ _ t2 w2.
      then h (each (sessions_of w2.contexts) end_alone) _ (l_each h (sessions_of w2.contexts) end_alone (l_end_alone h)) λ _ t3 w3.
      then h (fire_container_event built_in.Shutdown) _ (l_container h built_in.Shutdown) λ _.
      then h (close Application) _ (l_close h Application) (λ _. refl)

  pub l_task : (c : Command) → Walks h h (task c)
  l_task Command.Boot = then h (fire_context_event built_in.Initialized Application) _ (l_event h built_in.Initialized Application) λ _. then h (fire_container_event built_in.Startup) _ (l_container h built_in.Startup) (λ _. refl)
  l_task (Command.Begin r s) = l_begin h r s
  l_task (Command.End r) = l_end h r
  l_task (Command.Invalidate s) = l_invalidate h s
  l_task (Command.Call r asked method args) = λ t w. l_used asked (λ n. invoke_method n method args) (λ k n. l_invoke_method k n method args)
  l_task (Command.Read r asked) = λ t w. l_used asked (λ n. handle (instance n) (λ o. ret (Given.Result o.value)) throw) (λ k n. then k (instance n) _ (l_instance k n) (λ _. refl))
  l_task (Command.Fire r class qualifiers v) = λ t w t2 w2. l_call h (Task.Fire class (t2.written qualifiers) v)
  l_task Command.Live = refl
  l_task Command.Shutdown = l_shutdown
