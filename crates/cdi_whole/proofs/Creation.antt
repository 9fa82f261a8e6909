-- Creation misses nothing.
use Rattle.std.proofs.Common.{ℕ, ◌≡◌, ◌≢◌, ◌⊎◌, inl, inr, List, [], ◌∷◌, Bool, true, false, Some, refl, sym, ap, ◌∙◌, subst, arith, cond, nat_eq}
use Rattle.std.specs.Prelude.{◌^◌, ◌||◌, nat_lt}
use Rattle.cdi_base.specs.declared.value.Value.{Value}
use Rattle.cdi_base.specs.declared.value.Value.TheVariants as values
use Rattle.cdi_base.specs.declared.entry.Entry.TheVariants as entries
use Rattle.cdi_base.specs.declared.place.Place.{Place}
use Rattle.cdi_base.specs.declared.place.Place.TheVariants as places
use Rattle.cdi_base.specs.declared.place.InterceptorMethod.TheVariants as roles
use Rattle.cdi_base.specs.declared.built_in.BuiltIn.TheVariants as built_in
use Rattle.cdi_base.specs.Fields.{has}
use Rattle.cdi_base.specs.Maps.{at}
use Rattle.cdi_store.specs.declared.instance.Component.{Component}
use Rattle.cdi_store.specs.declared.instance.Component.TheVariants as components
use Rattle.cdi_store.specs.declared.instance.Owner.{Owner}
use Rattle.cdi_store.specs.declared.instance.Owner.TheVariants as owners
use Rattle.cdi_store.specs.declared.instance.Phase.TheVariants as phases
use Rattle.cdi_store.specs.declared.instance.Instance.{Instance}
use Rattle.cdi_machine.specs.Words.{Name, Fields, Asked}
use Rattle.cdi_machine.specs.Tables.{Tables, Lifecycle, Step, Source, Product, Kind, Bean, Managed, Interceptor}
use Rattle.cdi_machine.specs.World.{World, Change, Invocation, after_change, with_entry, instance_at}
use Rattle.cdi_machine.specs.Programs.{Task, Given, Completion, Gave, Threw, Prog, ret, throw, handle, call, finish, each, invocation, require, rethrow}
use Rattle.cdi_machine.specs.Contexts.{is_normal, resolve_point, resolve_points}
use Rattle.cdi_machine.specs.Bodies.{invocation_at_start, body_at_start, provide, call_back}
use Rattle.cdi_machine.specs.Destruction.{obtain_receiver, borrow_for}
use Rattle.cdi_machine.specs.Creation.{make_ready, discard, end_creation, create_by, construct, inject, take_step, call_producer, accept, produce, first_fields, make, create, intercept}
use Rattle.cdi_machine.specs.Runs.{Legal}
use Rattle.cdi_ledger.specs.Whose.{IsIn}
use Rattle.cdi_whole.specs.Fits.{HasText, injected_by, intercepted_by, class_site, FitsLifecycle, FitsStep, FitsSteps, ready_after, IsThereInterceptor, FitsManaged, FitsSource, FitsProduct, FitsKind, FitsBean, Fits}
use Rattle.cdi_whole.proofs.Whole.{by_bean, by_interceptor, Serves, injected_of, intercepted_of, fields_in, injected_in, intercepted_in, Declared, Stands, IsOlder, Attends, Good}
use Rattle.cdi_whole.proofs.Remains.{Any, Alike, Other, Each, AfterAt, After, after_self, after_on, after_trans, after_less, stack_back, stands_then, idle_then}
use Rattle.cdi_whole.proofs.Busy.{under_below, borrowing}
use Rattle.cdi_whole.proofs.Terms.{Stood, Home, Told, Gives, Gets, IsLoose, Intercepts, IdleIn, IsBegun, Answered, CanRest, Post}
use Rattle.cdi_whole.proofs.Statements.{Goes, then, loosen, found, numbered, called, calling, rethrown, topped}
use Rattle.cdi_whole.proofs.Moves.{Moves}
use Rattle.cdi_whole.proofs.References.{Pointed, AllPointed, bean_of_managed, Reaches, point_safe, points_safe, receiver_safe}
use Rattle.cdi_whole.proofs.Invocations.{Exits, exits_then, invoking, providing, invoke_safe, call_safe, borrow_safe}

-- ---- fields

pub has_at : (fields : Fields) (name : Name) → has fields name ≡ true → (v : Value) × (at fields name ≡ Some v)
has_at [] name e = absurd (cc)
has_at (p ∷ fields) name e = by (nat_eq name p.0) (has_at fields name) e
  where
    by : (b : Bool) → (has fields name ≡ true → (v : Value) × (at fields name ≡ Some v)) → (b || has fields name) ≡ true → (v : Value) × (cond b (Some p.1) (at fields name) ≡ Some v)
    by true tail q = (p.1, refl)
    by false tail q = tail q

pub class_fields : {t : Tables} {legal : Legal} {b : ℕ} {c : Managed} → FitsManaged t legal b c → fields_in t (components.Bean b) ≡ c.fields
class_fields m = ap (by_bean [] first_fields) m.is.known ∙ ap first_fields m.is.is

pub class_injected : {t : Tables} {legal : Legal} {b : ℕ} {c : Managed} → FitsManaged t legal b c → injected_in t (components.Bean b) ≡ injected_by c.plan
class_injected m = ap (by_bean [] injected_of) m.is.known ∙ ap injected_of m.is.is

pub class_intercepted : {t : Tables} {legal : Legal} {b : ℕ} {c : Managed} → FitsManaged t legal b c → intercepted_in t (components.Bean b) ≡ intercepted_by c.plan
class_intercepted m = ap (by_bean [] intercepted_of) m.is.known ∙ ap intercepted_of m.is.is

-- what is ready has the interceptors of its class
pub ready_attended : {t : Tables} {legal : Legal} (w : World) (n b : ℕ) (c : Managed) → Good t legal w → FitsManaged t legal b c → (o : Instance) → at w.instances n ≡ Some o → o.component ≡ components.Bean b → o.phase ≡ phases.Ready
    → (i : ℕ) → IsIn i (intercepted_by c.plan) → Attends w.instances n i
ready_attended {t} w n b c g m o e of p i h =
    (o, e, g.attended n o i e p (subst (λ z. IsIn i (intercepted_in t z)) (sym of) (subst (IsIn i) (sym (class_intercepted m)) h)))

-- an injection of the plan is one of its fields
pub injection_in : (plan : List Step) (field : Name) (point : Asked) → IsIn (Step.Inject field point) plan → IsIn (field, point) (injected_by plan)
injection_in [] field point h = absurd h
injection_in (Step.Inject f p ∷ more) field point (inl e) = inl (let q : f ≡ field = cc in let r : p ≡ point = cc in cc)
injection_in (Step.Inject f p ∷ more) field point (inr h) = inr (injection_in more field point h)
injection_in (Step.Intercept i ∷ more) field point (inl e) = absurd (cc)
injection_in (Step.Intercept i ∷ more) field point (inr h) = injection_in more field point h
injection_in (Step.Construct ps l ∷ more) field point (inl e) = absurd (cc)
injection_in (Step.Construct ps l ∷ more) field point (inr h) = injection_in more field point h
injection_in (Step.Initialize m ps ∷ more) field point (inl e) = absurd (cc)
injection_in (Step.Initialize m ps ∷ more) field point (inr h) = injection_in more field point h
injection_in (Step.Complete l ∷ more) field point (inl e) = absurd (cc)
injection_in (Step.Complete l ∷ more) field point (inr h) = injection_in more field point h

not_ready : phases.New ≡ phases.Ready → ⊥
not_ready e = cc

-- what a world leaves that isn't there yet
pub fresh_less : (t : Tables) (legal : Legal) (w u : World) → Good t legal w → AfterAt t legal (Other w.next) Each w u → After t legal w u
fresh_less t legal w u g a = record {
  good = a.good;
  keeps = λ n o p e h. a.keeps n o (old n o e) e h;
  attends = λ n o d i p e h s k l. a.attends n o d i (old n o e) e h s k l;
  born = a.born;
  grows = a.grows;
  stack = a.stack;
  running = a.running;
  level = a.level;
  under = a.under;
  back = a.back;
}
  where
    old : (n : ℕ) (o : Instance) → at w.instances n ≡ Some o → n ≢ w.next
    old n o e q = let l = g.below n o e in omega arith

module _ (t : Tables) (legal : Legal) (fits : Fits t legal) (moves : Moves t legal) where
  abbrev Does : {A : Type 0} → Prog A → World → (Completion A → World → Type 0) → Type 0
  Does p w Q = Goes t legal fits p w Q

  abbrev Leaves : {A : Type 0} → World → Completion A → World → Type 0
  Leaves w c u = After t legal w u × Told t c

  -- what is being made stays so
  still_new : (w u : World) (n : ℕ) (c : Component) (o : Owner) → After t legal w u → Stands w.instances n c o phases.New → Stands u.instances n c o phases.New
  still_new w u n c o a s = stands_then a n c o phases.New tt s (inr not_ready)

  attends_new : (w u : World) (n i : ℕ) (c : Component) (o : Owner) → After t legal w u → Stands w.instances n c o phases.New → Attends w.instances n i → Attends u.instances n i
  attends_new w u n i c o a s q =
      let same : Some q.0 ≡ Some s.instance = sym q.1 ∙ s.there in
      let is : q.0 ≡ s.instance = cc in
      let x = a.attends n q.0 q.2.0 i tt q.1 (inr (λ r. not_ready (sym s.phase_is ∙ (ap (λ (y : Instance). y.phase) (sym is) ∙ r)))) tt q.2.1 q.2.2 in
      (x.0, x.1, (q.2.0, x.2, x.3))

  -- ---- injected fields

  inject_safe : (n : ℕ) (component : Component) (owner : Owner) (field : Name) (point : Asked) (w : World) → Good t legal w → Stands w.instances n component owner phases.New → IsIn (field, point) (injected_in t component)
      → Does (inject n field point) w (Leaves w)
  inject_safe n component owner field point w g s q =
      then t legal fits (resolve_point point (owners.Instance n)) _ throw w (λ c u. After t legal w u × Pointed t u.instances u.next point c × Told t c) _ (point_safe t legal fits point (owners.Instance n) w g (g.below n s.instance s.there))
      (λ r u p. let k = still_new w u n component owner p.0 s in
      (after_trans p.0 (moves.refers u n field r point k.instance p.0.good k.there (subst (λ z. IsIn (field, point) (injected_in t z)) (sym k.of) q) p.1), tt))
      (λ x u p. (p.0, p.2))

  -- ---- the steps of a plan

  -- What the steps of a creation give: the number of the instance, or the value of a product, and its interceptors are there. Null is
  -- given only where it may be.
  abbrev AllAttend : ℕ → Component → World → Type 0
  AllAttend n component u = (i : ℕ) → IsIn i (intercepted_in t component) → Attends u.instances n i

  abbrev MadeBy : Type 0 → ℕ → Component → Completion Given → World → Type 0
  MadeBy N n component (Gave (Given.Number k)) u = (k ≡ n) × AllAttend n component u
  MadeBy N n component (Gave (Given.Result v)) u = (v ≡ values.Null → N) × AllAttend n component u
  MadeBy N n component (Gave Given.Empty) u = ⊥
  MadeBy N n component (Threw x) u = HasText t x

  module _ (n b : ℕ) (c : Managed) (served : FitsManaged t legal b c) (owner : Owner) where
    abbrev IsNew : World → Type 0
    IsNew w = Stands w.instances n (components.Bean b) owner phases.New

    abbrev HasReady : World → List ℕ → Type 0
    HasReady w ready = (i : ℕ) → IsIn i ready → Attends w.instances n i

    abbrev Steps : World → List ℕ → Completion Given → World → Type 0
    Steps w ready (Gave a) u = After t legal w u × HasReady u ready
    Steps w ready (Threw x) u = After t legal w u × HasText t x

    ready_then : (w u : World) (ready : List ℕ) → After t legal w u → IsNew w → HasReady w ready → HasReady u ready
    ready_then w u ready a s h = λ i q. attends_new w u n i (components.Bean b) owner a s (h i q)

    stepped : (w : World) (ready : List ℕ) → IsNew w → HasReady w ready → (d : Completion Given) (u : World) → Leaves w d u → Steps w ready d u
    stepped w ready s h (Gave a) u p = (p.0, ready_then w u ready p.0 s h)
    stepped w ready s h (Threw x) u p = p

    answered : (w : World) (ready : List ℕ) → IsNew w → HasReady w ready → (d : Completion Given) (u : World) → After t legal w u × Answered t d → Steps w ready d u
    answered w ready s h d u p = stepped w ready s h d u (p.0, p.1.1)

    abbrev HasTopped : World → Type 0
    HasTopped v = v.invocations ≡ [] → ⊥

    abbrev constructed : List ℕ → Prog Given
    constructed chain = handle (call (Task.Rest chain)) (λ _. handle invocation (λ v. handle (require v.completed built_in.CreationException) (λ _. finish) throw) throw) throw

    topped_then : (u v : World) (chain : List ℕ) → CanRest t legal u.instances u.next u.invocations chain → After t legal u v → HasTopped v
    topped_then u v chain r a = by u.invocations v.invocations r a.stack
      where
        by : (us vs : List Invocation) → CanRest t legal u.instances u.next us chain → Alike us vs → vs ≡ [] → ⊥
        by [] vs r s e = absurd r
        by (x ∷ us) [] r s e = absurd s
        by (x ∷ us) (y ∷ vs) r s e = cc

    completed : (w v : World) (done : Bool) → Exits t legal w v → Does (handle (require done built_in.CreationException) (λ _. finish) throw) v (λ d v. Exits t legal w v × Answered t d)
    completed w v true e = (e, (tt, tt))
    completed w v false e = (e, (tt, fits.texts built_in.CreationException))

    construct_safe : (points : List Asked) (l : Lifecycle) (ready : List ℕ) (w : World) → Good t legal w → IsNew w → HasReady w ready → FitsLifecycle t legal c points roles.AroundConstruct ready l
        → Does (construct n points l) w (λ d u. After t legal w u × Answered t d)
    construct_safe points l ready w g s h fit =
        invoking t legal fits w n roles.AroundConstruct l.callbacks [] (handle (provide points (owners.Instance n)) (λ _. constructed l.chain) throw)
        (providing t legal fits w (invocation_at_start n roles.AroundConstruct l.callbacks []) b c points (owners.Instance n) ready l.chain (constructed l.chain) g (g.below n s.instance s.there) served (s.instance, s.there, s.of) fit.callbacks fit.chain h
        (λ u k r e. then t legal fits (call (Task.Rest l.chain)) _ throw u (λ d v. Exits t legal w v × HasTopped v × Answered t d) (λ d v. Exits t legal w v × Answered t d)
        (called t legal fits (Task.Rest l.chain) u (λ d v. Exits t legal w v × HasTopped v × Answered t d) (k, r) (λ d v p. (exits_then t legal w u v e p.0, topped_then u v l.chain r p.0, p.1)))
        (λ a v p. topped t legal fits v.invocations _ v _ p.1 (λ x more q. completed w v x.completed p.0))
        (λ x v p. (p.0, p.2))))

    -- an instance of an interceptor attends it now
    with_one : (w u : World) (ready : List ℕ) (i : ℕ) → After t legal w u → IsNew w → HasReady w ready → Attends u.instances n i → HasReady u (i ∷ ready)
    with_one w u ready i a s h q j (inl e) = subst (Attends u.instances n) e q
    with_one w u ready i a s h q j (inr k) = ready_then w u ready a s h j k

    step_safe : (st : Step) (ready : List ℕ) (w : World) → Good t legal w → IsNew w → HasReady w ready → FitsStep t legal c ready st → IsIn st c.plan → Does (take_step n st) w (Steps w (ready_after st ready))
    step_safe (Step.Intercept i) ready w g s h fit q =
        called t legal fits (Task.Intercept i n) w _ (g, fit, record { component = components.Bean b; owner = owner; stands = s }) (λ d u p. by d u p.0 p.1 p.2)
      where
        by : (d : Completion Given) (u : World) → After t legal w u → Intercepts u.instances n i d → Told t d → Steps w (i ∷ ready) d u
        by (Gave a) u p x y = (p, with_one w u ready i p s h x)
        by (Threw x) u p y z = (p, z)
    step_safe (Step.Construct points l) ready w g s h fit q = loosen t legal fits (construct n points l) w (λ d u. After t legal w u × Answered t d) (Steps w ready) (construct_safe points l ready w g s h fit) (answered w ready s h)
    step_safe (Step.Inject field point) ready w g s h fit q =
        loosen t legal fits (inject n field point) w (Leaves w) (Steps w ready) (inject_safe n (components.Bean b) owner field point w g s (subst (IsIn (field, point)) (sym (class_injected served)) (injection_in c.plan field point q))) (stepped w ready s h)
    step_safe (Step.Initialize m points) ready w g s h fit q =
        then t legal fits (resolve_points points (owners.Instance n)) _ throw w (λ d u. After t legal w u × AllPointed t u.instances u.next points d × Told t d) _ (points_safe t legal fits points (owners.Instance n) w g (g.below n s.instance s.there))
        (λ rs u p. let k = still_new w u n (components.Bean b) owner p.0 s in
        called t legal fits (Task.Body (body_at_start n m.place m.body [] rs [])) u _ (
          p.0.good,
          record {
            chained = false;
            stood = record { site = class_site c points m.body; is = refl; chains = refl; fits = fit; home = Home.on_bean b c points m.body served (k.instance, k.there, k.of) refl; points = p.1 };
            rest = λ e. absurd (cc);
            locals = record { found = λ k r e. absurd (cc) };
            told = tt;
          },
        ) (λ d v r. answered w ready s h d v (after_trans p.0 r.0, r.1)))
        (λ x u p. (p.0, p.2))
    step_safe (Step.Complete l) ready w g s h fit q =
        loosen t legal fits (call_back n roles.PostConstruct l.callbacks l.chain) w (λ d u. After t legal w u × Answered t d) (Steps w ready)
        (call_safe t legal fits w n b c roles.PostConstruct l.callbacks [] ready l.chain g served (s.instance, s.there, s.of) fit.callbacks fit.chain h) (answered w ready s h)

    -- the interceptors of the steps that are left are made by them
    abbrev HasAll : World → List ℕ → List Step → Type 0
    HasAll w ready steps = (i : ℕ) → IsIn i ready ⊎ IsIn i (intercepted_by steps) → Attends w.instances n i

    abbrev AllSteps : World → List ℕ → List Step → Completion Given → World → Type 0
    AllSteps w ready steps (Gave a) u = After t legal w u × HasAll u ready steps
    AllSteps w ready steps (Threw x) u = After t legal w u × HasText t x

    none_left : (u : World) (ready : List ℕ) → HasReady u ready → HasAll u ready []
    none_left u ready h i (inl q) = h i q
    none_left u ready h i (inr q) = absurd q

    one_more : (u : World) (ready : List ℕ) (st : Step) (more : List Step) → HasAll u (ready_after st ready) more → HasAll u ready (st ∷ more)
    one_more u ready (Step.Intercept j) more h i (inl q) = h i (inl (inr q))
    one_more u ready (Step.Intercept j) more h i (inr (inl e)) = h i (inl (inl e))
    one_more u ready (Step.Intercept j) more h i (inr (inr q)) = h i (inr q)
    one_more u ready (Step.Construct ps l) more h i q = h i q
    one_more u ready (Step.Inject f p) more h i q = h i q
    one_more u ready (Step.Initialize m ps) more h i q = h i q
    one_more u ready (Step.Complete l) more h i q = h i q

    last_one : (w u : World) (ready : List ℕ) (st : Step) → (d : Completion Given) → Steps w (ready_after st ready) d u → AllSteps w ready (st ∷ []) d u
    last_one w u ready st (Gave a) p = (p.0, one_more u ready st [] (none_left u (ready_after st ready) p.1))
    last_one w u ready st (Threw x) p = p

    rest_of : (w u v : World) (ready : List ℕ) (st : Step) (more : List Step) → After t legal w u → (d : Completion Given) → AllSteps u (ready_after st ready) more d v → AllSteps w ready (st ∷ more) d v
    rest_of w u v ready st more a (Gave g) p = (after_trans a p.0, one_more v ready st more p.1)
    rest_of w u v ready st more a (Threw x) p = (after_trans a p.0, p.1)

    steps_safe : (steps : List Step) (ready : List ℕ) (w : World) → Good t legal w → IsNew w → HasReady w ready → FitsSteps t legal c ready steps → ((st : Step) → IsIn st steps → IsIn st c.plan) → Does (each steps (take_step n)) w (AllSteps w ready steps)
    steps_safe [] ready w g s h fit q = (after_self t legal Any Each w g, none_left w ready h)
    steps_safe (st ∷ []) ready w g s h fit q = loosen t legal fits (take_step n st) w (Steps w (ready_after st ready)) (AllSteps w ready (st ∷ [])) (step_safe st ready w g s h fit.0 (q st (inl refl))) (λ d u p. last_one w u ready st d p)
    steps_safe (st ∷ next ∷ more) ready w g s h fit q =
        then t legal fits (take_step n st) _ throw w (Steps w (ready_after st ready)) _ (step_safe st ready w g s h fit.0 (q st (inl refl)))
        (λ a u p. loosen t legal fits (each (next ∷ more) (take_step n)) u (AllSteps u (ready_after st ready) (next ∷ more)) _ (steps_safe (next ∷ more) (ready_after st ready) u p.0.good (still_new w u n (components.Bean b) owner p.0 s) p.1 fit.1 (λ x i. q x (inr i))) (λ d v r. rest_of w u v ready st (next ∷ more) p.0 d r))
        (λ x u p. p)

    -- a managed bean is made
    class_safe : (w : World) → Good t legal w → IsNew w → Does (handle (each c.plan (take_step n)) (λ _. ret (Given.Number n)) throw) w
        (λ d u. After t legal w u × MadeBy (IsLoose t b) n (components.Bean b) d u)
    class_safe w g s =
        then t legal fits (each c.plan (take_step n)) _ throw w (AllSteps w [] c.plan) _ (steps_safe c.plan [] w g s (λ i q. absurd q) served.fits.steps (λ st i. i))
        (λ a u p. (p.0, (refl, λ i q. p.1 i (inr (subst (IsIn i) (class_intercepted served) q)))))
        (λ x u p. p)

  -- ---- products

  -- what is given for a product
  abbrev Given-by : ℕ → ℕ → World → Completion Given → World → Type 0
  Given-by n b w d u = After t legal w u × MadeBy (IsLoose t b) n (components.Bean b) d u

  product_safe : (n b : ℕ) (bean : Bean) (p : Product) (owner : Owner) (w : World) → Good t legal w → t.bean b ≡ Some bean → bean.kind ≡ Kind.Producer p → FitsProduct t legal p → Stands w.instances n (components.Bean b) owner phases.New
      → Does (produce n bean.scope p) w (Given-by n b w)
  product_safe n b bean p owner w g known is fit s =
      then t legal fits (borrow_for body) (accept (is_normal bean.scope) n) throw w (λ d u. After t legal w u × Answered t d) (Given-by n b w)
      (borrow_safe t legal fits w body g
      (then t legal fits (obtain_receiver p.declaring) (λ m. call_producer n m p.source) throw inner (λ d u. After t legal inner u × Reaches u.instances p.declaring d × Told t d) (λ d u. After t legal inner u × Answered t d)
      (receiver_safe t legal fits p.declaring inner good (bean_of_managed fit.declares))
      (λ m u q. by_source p.source fit.source m u q.0 q.1)
      (λ x u q. (q.0, (tt, q.2)))))
      (λ a u q. accepted a u q.0 q.1.0 (is_normal bean.scope) refl)
      (λ x u q. (q.0, q.1.1))
    where
      inner : World
      inner = after_change Change.Borrow w

      good : Good t legal inner
      good = borrowing w g

      body : Prog Given
      body = handle (obtain_receiver p.declaring) (λ m. call_producer n m p.source) throw

      by_source : (source : Source) → FitsSource t legal fit.class source → (m : ℕ) (u : World) → After t legal inner u → Serves u.instances m (components.Bean p.declaring) → Does (call_producer n m source) u (λ d v. After t legal inner v × Answered t d)
      by_source (Source.ProducerMethod producer) h m u a q =
          loosen t legal fits (call_producer n m (Source.ProducerMethod producer)) u (λ d v. After t legal u v × Answered t d) (λ d v. After t legal inner v × Answered t d)
          (invoke_safe t legal fits u m p.declaring fit.class producer [] (owners.Instance n) a.good (let k = still_new inner u n (components.Bean b) owner a s in a.good.below n k.instance k.there) fit.declares (q.0, q.1, q.2) h
          (ready_attended u m p.declaring fit.class a.good fit.declares q.0 q.1 q.2 q.3)) (λ d v r. (after_trans a r.0, r.1))
      by_source (Source.ProducerField field) h m u a q =
          let v = has_at q.0.fields field ((a.good.whole m q.0 q.1).fields field ∙ (ap (λ z. has (fields_in t z) field) q.2 ∙ (ap (λ z. has z field) (class_fields fit.declares) ∙ h))) in
          found t legal fits (instance_at u m) q.0 _ u _ q.1 (found t legal fits (at q.0.fields field) v.0 _ u _ v.1 (a, (tt, tt)))

      -- a product has no interceptors
      none : (i : ℕ) → IsIn i (intercepted_in t (components.Bean b)) → ⊥
      none i h = subst (IsIn i) (ap (by_bean [] intercepted_of) known ∙ ap intercepted_of is) h

      loose : is_normal bean.scope ≡ false → IsLoose t b
      loose f other e = let q : Some other ≡ Some bean = sym e ∙ known in let r : other ≡ bean = cc in ap (λ (x : Bean). is_normal x.scope) r ∙ f

      kept : (v : Value) (u : World) → After t legal w u → (v ≡ values.Null → IsLoose t b) → Given-by n b w (Gave (Given.Result v)) (after_change (Change.Hold n v) u)
      kept v u a f = (after_trans a (moves.holds u n v a.good), (f, λ i h. absurd (none i h)))

      accepted : (a : Given) (u : World) → After t legal w u → Rattle.cdi_whole.proofs.Terms.IsValue (Gave a) → (normal : Bool) → is_normal bean.scope ≡ normal → Does (accept normal n a) u (Given-by n b w)
      accepted (Given.Result values.Null) u a q true e = (a, fits.texts built_in.IllegalProductException)
      accepted (Given.Result values.Null) u a q false e = kept values.Null u a (λ _. loose e)
      accepted (Given.Result (values.Int i)) u a q true e = kept (values.Int i) u a (λ f. absurd (cc))
      accepted (Given.Result (values.Int i)) u a q false e = kept (values.Int i) u a (λ f. absurd (cc))
      accepted (Given.Result (values.Text x)) u a q true e = kept (values.Text x) u a (λ f. absurd (cc))
      accepted (Given.Result (values.Text x)) u a q false e = kept (values.Text x) u a (λ f. absurd (cc))
      accepted (Given.Number k) u a q normal e = absurd q
      accepted Given.Empty u a q normal e = absurd q

  -- ---- an instance

  module _ (place : Place) (w : World) (component : Component) (owner : Owner) (fields : Fields) (g : Good t legal w) (declared : Declared t legal component) (older : IsOlder w.next owner) (same : (name : Name) → has fields name ≡ has (fields_in t component) name) (N : Type 0) where
    abbrev made : World
    made = after_change (Change.Make component owner fields) (with_entry (entries.New w.next place) w)

    begun : After t legal w made × Stands made.instances w.next component owner phases.New
    begun = moves.makes (with_entry (entries.New w.next place) w) component owner fields g declared older same

    -- what is created is ready, and its owner has it if that is being made; or nothing was made
    abbrev Creates : Completion Given → World → Type 0
    Creates (Gave (Given.Number k)) u = (k ≡ w.next) × Stands u.instances w.next component owner phases.Ready × ((m : ℕ) → owner ≡ owners.Instance m → IsBegun w.instances m → (x : Instance) × (at u.instances m ≡ Some x) × IsIn w.next x.dependents)
    Creates (Gave (Given.Result v)) u = ⊥
    Creates (Gave Given.Empty) u = N
    Creates (Threw x) u = HasText t x

    abbrev Done : Completion Given → World → Type 0
    Done d u = After t legal w u × Creates d u

    succeeds : (u : World) → After t legal made u → AllAttend w.next component u → Does (make_ready w.next) u Done
    succeeds u a h =
        let s = moves.settles (with_entry (entries.Ready w.next) u) w.next component owner a.good (still_new made u w.next component owner a begun.1) h in (
          fresh_less t legal w (after_change (Change.Settle w.next) (with_entry (entries.Ready w.next) u)) g (after_on (omega arith) (after_less (Other w.next) Each (λ n q. tt) (λ n d q r. tt) (after_trans begun.0 a)) s.0),
          (refl, s.1, λ m e q. s.2 m e (let k = still_new w u m q.component q.owner (after_trans begun.0 a) q.stands in (k.instance, k.there))),
        )

    idle : (u : World) → After t legal made u → IdleIn u w.next
    idle u a = idle_then a w.next (λ b. let s = g.stacked b.root (stack_back begun.0 b.root b.on) in let l = g.below b.root s.0 s.1 in let r = under_below begun.0.good b.under in absurd (omega arith))

    discard_safe : (u : World) → After t legal made u → Does (discard w.next) u (λ d v. Gives d (After t legal w v))
    discard_safe u a =
        let s = still_new made u w.next component owner a begun.1 in
        calling t legal fits (Task.Release w.next) _ throw u _ (a.good, record { component = component; owner = owner; phase = phases.New; stands = s; unready = not_ready }, idle u a)
        (λ r v p. fresh_less t legal w (after_change (Change.Discard w.next) (with_entry (entries.Drop w.next) v)) g
        (after_trans (after_less (Other w.next) Each (λ n q. tt) (λ n d q r. tt) (after_trans begun.0 a))
        (after_trans (after_less (Other w.next) Each (λ n q. tt) (λ n d q r. q) p)
        (moves.discards (with_entry (entries.Drop w.next) v) w.next component owner p.good (stands_then p w.next component owner phases.New tt s (inr not_ready)) (idle_then p w.next (idle u a))))))
        (λ x v p. absurd p)

    fails : (x : Name) (u : World) → After t legal made u → HasText t x → Does {A = Given} (handle (discard w.next) (λ _. rethrow x built_in.CreationException) throw) u Done
    fails x u a h =
        then t legal fits (discard w.next) (λ _. rethrow x built_in.CreationException) throw u (λ d v. Gives d (After t legal w v)) Done (discard_safe u a)
        (λ _ v p. rethrown t legal fits x built_in.CreationException v Done h (λ y q. (p, q)))
        (λ y v p. absurd p)

    ending : (a : Given) (u : World) → After t legal made u → MadeBy N w.next component (Gave a) u → Does (end_creation w.next a) u Done
    ending (Given.Result values.Null) u a h =
        then t legal fits (discard w.next) (λ _. ret Given.Empty) throw u (λ d v. Gives d (After t legal w v)) Done (discard_safe u a) (λ _ v p. (p, h.0 refl)) (λ y v p. absurd p)
    ending (Given.Result (values.Int i)) u a h = succeeds u a h.1
    ending (Given.Result (values.Text x)) u a h = succeeds u a h.1
    ending (Given.Number k) u a h = succeeds u a h.1
    ending Given.Empty u a h = absurd h

    pub created : (steps : Prog Given) → Does steps made (λ d u. After t legal made u × MadeBy N w.next component d u) → Does (create_by w.next steps) made Done
    created steps d = then t legal fits steps (end_creation w.next) _ made (λ d u. After t legal made u × MadeBy N w.next component d u) Done d (λ a u p. ending a u p.0 p.1) (λ x u p. fails x u p.0 p.1)

  -- ---- the tasks

  pub create_safe : (b : ℕ) (owner : Owner) (w : World) → Good t legal w → FitsBean t legal b → IsOlder w.next owner → Does (create b owner) w (Post t legal (Task.Create b owner) w)
  create_safe b owner w g served older =
      found t legal fits (t.bean b) bean _ w _ served.known
      (numbered t legal fits (nat_lt w.next (2 ^ 32)) w.next _ _ w _
      (loosen t legal fits (create_by w.next (make w.next bean bean.kind)) start Finished _
      (created bean.place w (components.Bean b) owner (first_fields bean.kind) g served older same (IsLoose t b) (make w.next bean bean.kind) (by_kind bean.kind refl served.kind))
      (λ d u p. gets d u p.0 p.1)))
    where
      bean : Bean
      bean = served.bean

      same : (name : Name) → has (first_fields served.bean.kind) name ≡ has (fields_in t (components.Bean b)) name
      same name = ap (λ x. has x name) (sym (ap (by_bean [] first_fields) served.known))

      start : World
      start = made bean.place w (components.Bean b) owner (first_fields bean.kind) g served older same (IsLoose t b)

      Finished : Completion Given → World → Type 0
      Finished = Done bean.place w (components.Bean b) owner (first_fields bean.kind) g served older same (IsLoose t b)

      stood : After t legal w start × Stands start.instances w.next (components.Bean b) owner phases.New
      stood = begun bean.place w (components.Bean b) owner (first_fields bean.kind) g served older same (IsLoose t b)

      by_kind : (kind : Kind) → served.bean.kind ≡ kind → FitsKind t legal kind → Does (make w.next served.bean kind) start (Given-by w.next b start)
      by_kind (Kind.Class c) e h = class_safe w.next b c (record { is = record { bean = served.bean; known = served.known; is = e }; fits = h }) owner start stood.0.good stood.1
      by_kind (Kind.Producer p) e h = product_safe w.next b served.bean p owner start stood.0.good served.known e h stood.1

      gets : (d : Completion Given) (u : World) → After t legal w u → Creates bean.place w (components.Bean b) owner (first_fields bean.kind) g served older same (IsLoose t b) d u → Post t legal (Task.Create b owner) w d u
      gets (Gave (Given.Number k)) u a h = (a, subst (λ z. Serves u.instances z (components.Bean b)) (sym h.0) (h.1.instance, h.1.there, h.1.of, h.1.phase_is), tt)
      gets (Gave (Given.Result v)) u a h = absurd h
      gets (Gave Given.Empty) u a h = (a, h, tt)
      gets (Threw x) u a h = (a, tt, h)

  injections_safe : (n i : ℕ) (owner : Owner) (points : List (Name × Asked)) (start w : World) → After t legal start w → Stands w.instances n (components.Interceptor i) owner phases.New → ((p : Name × Asked) → IsIn p points → IsIn (p.0, p.1) (injected_in t (components.Interceptor i)))
      → Does (each points (λ p. inject n p.0 p.1)) w (Leaves start)
  injections_safe n i owner [] start w a s q = (a, tt)
  injections_safe n i owner (p ∷ []) start w a s q =
      loosen t legal fits (inject n p.0 p.1) w (Leaves w) (Leaves start) (inject_safe n (components.Interceptor i) owner p.0 p.1 w a.good s (q p (inl refl))) (λ d u r. (after_trans a r.0, r.1))
  injections_safe n i owner (p ∷ x ∷ more) start w a s q =
      then t legal fits (inject n p.0 p.1) _ throw w (Leaves w) _ (inject_safe n (components.Interceptor i) owner p.0 p.1 w a.good s (q p (inl refl)))
      (λ g u r. injections_safe n i owner (x ∷ more) start u (after_trans a r.0) (still_new w u n (components.Interceptor i) owner r.0 s) (λ y h. q y (inr h)))
      (λ y u r. (after_trans a r.0, r.1))

  pub intercept_safe : (i n : ℕ) (w : World) → Good t legal w → IsThereInterceptor t i → IsBegun w.instances n → Does (intercept i n) w (Post t legal (Task.Intercept i n) w)
  intercept_safe i n w g there owner =
      found t legal fits (t.interceptor i) there.0 _ w _ there.1
      (numbered t legal fits (nat_lt w.next (2 ^ 32)) w.next _ _ w _
      (loosen t legal fits (create_by w.next steps) start (Done (places.Class there.0.name) w (components.Interceptor i) (owners.Instance n) there.0.fields g there older same ⊥) _
      (created (places.Class there.0.name) w (components.Interceptor i) (owners.Instance n) there.0.fields g there older same ⊥ steps
      (then t legal fits (each there.0.injected (λ p. inject w.next p.0 p.1)) _ throw start (Leaves start) _
      (injections_safe w.next i (owners.Instance n) there.0.injected start start (after_self t legal Any Each start stood.0.good) stood.1 (λ p h. subst (IsIn (p.0, p.1)) (sym (ap (by_interceptor [] (λ (k : Interceptor). k.injected)) there.1)) h))
      (λ a u p. (p.0, (refl, λ j h. absurd h))) (λ x u p. p)))
      (λ d u p. gets d u p.0 p.1)))
    where
      steps : Prog Given
      steps = handle (each there.0.injected (λ p. inject w.next p.0 p.1)) (λ _. ret (Given.Number w.next)) throw

      older : IsOlder w.next (owners.Instance n)
      older = g.below n owner.stands.instance owner.stands.there

      same : (name : Name) → has there.0.fields name ≡ has (fields_in t (components.Interceptor i)) name
      same name = ap (λ x. has x name) (sym (ap (by_interceptor [] (λ (k : Interceptor). k.fields)) there.1))

      start : World
      start = made (places.Class there.0.name) w (components.Interceptor i) (owners.Instance n) there.0.fields g there older same ⊥

      stood : After t legal w start × Stands start.instances w.next (components.Interceptor i) (owners.Instance n) phases.New
      stood = begun (places.Class there.0.name) w (components.Interceptor i) (owners.Instance n) there.0.fields g there older same ⊥

      gets : (d : Completion Given) (u : World) → After t legal w u → Creates (places.Class there.0.name) w (components.Interceptor i) (owners.Instance n) there.0.fields g there older same ⊥ d u → Post t legal (Task.Intercept i n) w d u
      gets (Gave (Given.Number k)) u a h = (a, (let x = h.2 n refl owner in (x.0, x.1, (w.next, x.2, (h.1.instance, h.1.there, h.1.of)))), tt)
      gets (Gave (Given.Result v)) u a h = absurd h
      gets (Gave Given.Empty) u a h = absurd h
      gets (Threw x) u a h = (a, tt, h)
