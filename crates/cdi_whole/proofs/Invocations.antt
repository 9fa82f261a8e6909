-- Invocations, from the begin of one to its end, and what is borrowed.
use Rattle.std.proofs.Common.{ℕ, ◌≡◌, ◌≤◌, ◌⊎◌, inl, inr, List, [], ◌∷◌, false, refl, sym, subst, arith}
use Rattle.std.specs.List.{AllByRecursion}
use Rattle.cdi_base.specs.declared.value.Value.{Value}
use Rattle.cdi_base.specs.declared.place.InterceptorMethod.{InterceptorMethod}
use Rattle.cdi_base.specs.declared.place.InterceptorMethod.TheVariants as roles
use Rattle.cdi_store.specs.declared.instance.Component.TheVariants as components
use Rattle.cdi_store.specs.declared.instance.Owner.{Owner}
use Rattle.cdi_store.specs.declared.references.Reference.{Reference}
use Rattle.cdi_store.specs.Live.{Instances}
use Rattle.cdi_contexts.specs.Contexts.{Contexts}
use Rattle.cdi_machine.specs.Words.{Asked}
use Rattle.cdi_machine.specs.Tables.{Tables, Code, Member, Managed}
use Rattle.cdi_machine.specs.World.{World, Change, Invocation, after_change, on_top, below}
use Rattle.cdi_machine.specs.Programs.{Task, Given, Completion, Gave, Threw, Prog, ret, throw, handle, call, alter}
use Rattle.cdi_machine.specs.Contexts.{resolve_points}
use Rattle.cdi_machine.specs.Bodies.{invocation_at_start, invoke_by, provide, invoke}
use Rattle.cdi_machine.specs.Destruction.{borrow_for, give_back}
use Rattle.cdi_machine.specs.Runs.{Legal}
use Rattle.cdi_ledger.specs.Whose.{IsIn}
use Rattle.cdi_whole.specs.Fits.{class_site, FitsBody, FitsRole, FitsChain, FitsMember, FitsManaged, Fits, intercepted_by}
use Rattle.cdi_whole.proofs.Whole.{Lives, IsOlder, AreFor, Attends, OnStack, Busy, Whole, Good}
use Rattle.cdi_whole.proofs.Remains.{Any, Each, Alike, Levels, AfterOf, After, after_self, after_trans, idle_then, lives_then, attends_then}
use Rattle.cdi_whole.proofs.Busy.{on_top as busy_top, busy_below, entered, borrowing, exited, returned}
use Rattle.cdi_whole.proofs.Terms.{Home, Stood, CanRest, Told, Gives, Answered, AllIdle, IdleIn}
use Rattle.cdi_whole.proofs.Statements.{Goes, then, called, calling}
use Rattle.cdi_whole.proofs.References.{AllPointed, points_safe}

-- from the world to one where the innermost invocation has ended
abbrev pub Exits : Tables → Legal → World → World → Type 0
Exits t legal w u = After t legal w (after_change Change.Exit u)

-- ---- lists of invocations

exits_on : {t : Tables} {legal : Legal} {i0 i1 i2 : Instances} {n0 n1 n2 : ℕ} {t0 t1 t2 : List (List ℕ)} {c1 c2 : Contexts} {v0 : List Invocation} {b0 b1 b2 : List ℕ} (v1 v2 : List Invocation)
    → AfterOf t legal Any Each i0 n0 t0 v0 b0 i1 n1 c1 t1 (below v1) b1 → AfterOf t legal Any Each i1 n1 t1 v1 b1 i2 n2 c2 t2 v2 b2 → AfterOf t legal Any Each i0 n0 t0 v0 b0 i2 n2 c2 t2 (below v2) b2
exits_on [] [] a b = after_trans a b
exits_on [] (y ∷ v2) a b = absurd b.stack
exits_on (x ∷ v1) v2 a b = after_trans a (exited x v1 v2 b)

-- after more
pub exits_then : (t : Tables) (legal : Legal) (w u v : World) → Exits t legal w u → After t legal u v → Exits t legal w v
exits_then t legal w u v a b = exits_on u.invocations v.invocations a b

pub exits_from : (t : Tables) (legal : Legal) (w : World) (v : Invocation) (u : World) → After t legal (after_change (Change.Enter v) w) u → Exits t legal w u
exits_from t legal w v u a = exited v w.invocations u.invocations a

-- ---- what stands round the target

-- the members at the end of a chain, with what their parameters ask for
abbrev pub AreMembers : Tables → Legal → Managed → List Asked → List Code → Type 0
AreMembers t legal c points members = AllByRecursion (λ m. FitsBody t legal (class_site c points m.body)) members

abbrev pub AreRoles : Tables → Legal → InterceptorMethod → List ℕ → Type 0
AreRoles t legal role chain = AllByRecursion (λ i. FitsRole t legal i role) chain

module _ (t : Tables) (legal : Legal) where
  stood : (instances : Instances) (next n b : ℕ) (c : Managed) (points : List Asked) (rs : List Reference) → FitsManaged t legal b c → Lives instances n (components.Bean b) → AreFor t instances next points rs
      → (members : List Code) → AreMembers t legal c points members → AllByRecursion (λ m. Stood t legal instances next n m.body rs false) members
  stood instances next n b c points rs served lives for [] h = tt
  stood instances next n b c points rs served lives for (m ∷ ms) h =
      (record { site = class_site c points m.body; is = refl; chains = refl; fits = h.0; home = Home.on_bean b c points m.body served lives refl; points = for }, stood instances next n b c points rs served lives for ms h.1)

  attended : (instances : Instances) (n : ℕ) (role : InterceptorMethod) (chain : List ℕ) (ready : List ℕ) → FitsChain t legal role ready chain → ((i : ℕ) → IsIn i ready → Attends instances n i)
      → AllByRecursion (λ i. FitsRole t legal i role × Attends instances n i) chain
  attended instances n role [] ready h f = tt
  attended instances n role (i ∷ chain) ready h f = ((h.0.0, f i h.0.1), attended instances n role chain ready h.1 f)

  -- the chain of an invocation that has begun
  pub can_rest : (instances : Instances) (next n b : ℕ) (c : Managed) (points : List Asked) (rs : List Reference) (role : InterceptorMethod) (ready chain : List ℕ) (members : List Code) (v : Invocation) (vs : List Invocation)
      → FitsManaged t legal b c → Lives instances n (components.Bean b) → AreFor t instances next points rs → AreMembers t legal c points members → FitsChain t legal role ready chain → ((i : ℕ) → IsIn i ready → Attends instances n i)
      → v.target ≡ n → v.role ≡ role → v.members ≡ members → v.references ≡ rs → CanRest t legal instances next (v ∷ vs) chain
  can_rest instances next n b c points rs role ready chain members v vs served lives for ms cs f e1 e2 e3 e4 = (
    subst (λ x. AllByRecursion (λ i. FitsRole t legal i x × Attends instances v.target i) chain) (sym e2)
        (subst (λ x. AllByRecursion (λ i. FitsRole t legal i role × Attends instances x i) chain) (sym e1) (attended instances n role chain ready cs f)),
    subst (λ x. AllByRecursion (λ m. Stood t legal instances next v.target m.body v.references false) x) (sym e3)
        (subst (λ x. AllByRecursion (λ m. Stood t legal instances next v.target m.body x false) members) (sym e4)
        (subst (λ x. AllByRecursion (λ m. Stood t legal instances next x m.body rs false) members) (sym e1) (stood instances next n b c points rs served lives for members ms))),
  )

  -- ---- parameters

  provided_good : {i : Instances} {n : ℕ} {c : Contexts} {ts : List (List ℕ)} {bs : List ℕ} (rs : List Reference) (vs : List Invocation) → Whole t legal i n c ts vs bs → Whole t legal i n c ts (on_top (λ x. record x { references = rs }) vs) bs
  provided_good rs [] g = g
  provided_good {bs = bs} rs (v ∷ vs) g = record {
    below = g.below;
    whole = g.whole;
    owned = g.owned;
    refer = g.refer;
    attended = g.attended;
    held = g.held;
    borrowed = g.borrowed;
    stacked = λ s o. g.stacked s (by s o);
  }
    where
      by : (s : ℕ) → OnStack ((record v { references = rs }) ∷ vs) bs s → OnStack (v ∷ vs) bs s
      by s (inl (inl e)) = inl (inl e)
      by s (inl (inr h)) = inl (inr h)
      by s (inr h) = inr h

  below_top : {X : Type 0} (f : X → X) (xs : List X) → below (on_top f xs) ≡ below xs
  below_top f [] = refl
  below_top f (x ∷ xs) = refl

  -- the innermost invocation has its references
  pub provided : (w u : World) (v : Invocation) (rs : List Reference) (b : ℕ) (c : Managed) (points : List Asked) (ready chain : List ℕ)
      → After t legal (after_change (Change.Enter v) w) u → AreFor t u.instances u.next points rs
      → FitsManaged t legal b c → Lives u.instances v.target (components.Bean b) → AreMembers t legal c points v.members → FitsChain t legal v.role ready chain → ((i : ℕ) → IsIn i ready → Attends u.instances v.target i)
      → Good t legal (after_change (Change.Provide rs) u) × CanRest t legal u.instances u.next (on_top (λ x. record x { references = rs }) u.invocations) chain × Exits t legal w (after_change (Change.Provide rs) u)
  provided w u v rs b c points ready chain a for served lives ms cs f =
      (provided_good rs u.invocations a.good, by u.invocations a.stack, subst (λ z. AfterOf t legal Any Each w.instances w.next w.temporaries w.invocations w.bodies u.instances u.next u.contexts u.temporaries z u.bodies) (sym (below_top (λ (x : Invocation). record x { references = rs }) u.invocations)) (exits_from t legal w v u a))
    where
      by : (vs : List Invocation) → Alike (v ∷ w.invocations) vs → CanRest t legal u.instances u.next (on_top (λ x. record x { references = rs }) vs) chain
      by [] s = absurd s
      by (x ∷ xs) s = can_rest u.instances u.next v.target b c points rs v.role ready chain v.members (record x { references = rs }) xs served lives for ms cs f s.0.target s.0.role s.0.members refl

module _ (t : Tables) (legal : Legal) (fits : Fits t legal) where
  abbrev Does : {A : Type 0} → Prog A → World → (Completion A → World → Type 0) → Type 0
  Does p w Q = Goes t legal fits p w Q

  -- what an invocation leaves at its end
  abbrev pub Leaves : World → Completion Given → World → Type 0
  Leaves w c u = After t legal w u × Answered t c

  -- an invocation, by what is done in it
  pub invoking : (w : World) (n : ℕ) (role : InterceptorMethod) (members : List Code) (args : List Value) (p : Prog Given)
      → Does p (after_change (Change.Enter (invocation_at_start n role members args)) w) (λ c u. Exits t legal w u × Answered t c) → Does (invoke_by n role members args p) w (Leaves w)
  invoking w n role members args p d =
      then t legal fits p (λ a. handle (alter Change.Exit) (λ _. ret a) throw) (λ x. handle (alter Change.Exit) (λ _. throw x) throw) (after_change (Change.Enter (invocation_at_start n role members args)) w) (λ c u. Exits t legal w u × Answered t c) (Leaves w) d
      (λ a u q. q) (λ x u q. q)

  -- the rest of a chain, up to the end of the invocation
  pub resting : (w u : World) (chain : List ℕ) → Good t legal u → CanRest t legal u.instances u.next u.invocations chain → Exits t legal w u → Does (call (Task.Rest chain)) u (λ c v. Exits t legal w v × Answered t c)
  resting w u chain g h e = called t legal fits (Task.Rest chain) u _ (g, h) (λ c v p. (exits_then t legal w u v e p.0, p.1))

  -- the parameters, and what follows
  pub providing : (w : World) (v : Invocation) (b : ℕ) (c : Managed) (points : List Asked) (owner : Owner) (ready chain : List ℕ) (p : Prog Given)
      → Good t legal w → IsOlder w.next owner → FitsManaged t legal b c → Lives w.instances v.target (components.Bean b) → AreMembers t legal c points v.members → FitsChain t legal v.role ready chain → ((i : ℕ) → IsIn i ready → Attends w.instances v.target i)
      → ((u : World) → Good t legal u → CanRest t legal u.instances u.next u.invocations chain → Exits t legal w u → Does p u (λ c u. Exits t legal w u × Answered t c))
      → Does (handle (provide points owner) (λ _. p) throw) (after_change (Change.Enter v) w) (λ c u. Exits t legal w u × Answered t c)
  providing w v b c points owner ready chain p g older served lives ms cs f k =
      then t legal fits (provide points owner) (λ _. p) throw inner R _
      (then t legal fits (resolve_points points owner) (λ rs. alter (Change.Provide rs)) throw inner (λ d u. After t legal inner u × AllPointed t u.instances u.next points d × Told t d) R (points_safe t legal fits points owner inner good older)
      (λ rs u q. provided t legal w u v rs b c points ready chain q.0 q.1 served (lives_then q.0 v.target (components.Bean b) tt lives busy) ms cs (λ i h. attends_then q.0 v.target i tt (λ d. tt) busy (f i h)))
      (λ x u q. (exits_from t legal w v u q.0, (tt, q.2))))
      (λ _ u q. k u q.0 q.1 q.2) (λ x u q. q)
    where
      inner : World
      inner = after_change (Change.Enter v) w

      good : Good t legal inner
      good = entered w v g (lives.0, lives.1)

      busy : Busy inner.instances inner.invocations inner.bodies v.target
      busy = busy_top (inl (inl refl))

      R : Completion (Unit {0}) → World → Type 0
      R (Gave a) u = Good t legal u × CanRest t legal u.instances u.next u.invocations chain × Exits t legal w u
      R (Threw x) u = Exits t legal w u × Answered t (Threw x)

  -- a member through its chain
  pub invoke_safe : (w : World) (n b : ℕ) (c : Managed) (m : Member) (args : List Value) (owner : Owner) → Good t legal w → IsOlder w.next owner → FitsManaged t legal b c → Lives w.instances n (components.Bean b) → FitsMember t legal c m → ((i : ℕ) → IsIn i (intercepted_by c.plan) → Attends w.instances n i)
      → Does (invoke n m args owner) w (Leaves w)
  invoke_safe w n b c m args owner g older served lives fit f =
      invoking w n roles.AroundInvoke (m.code ∷ []) args (handle (provide m.points owner) (λ _. call (Task.Rest m.chain)) throw)
      (providing w (invocation_at_start n roles.AroundInvoke (m.code ∷ []) args) b c m.points owner (intercepted_by c.plan) m.chain (call (Task.Rest m.chain)) g older served lives (fit.body, tt) fit.chain f
      (λ u k r e. resting w u m.chain k r e))

  -- callbacks, or a method, through their chain
  pub call_safe : (w : World) (n b : ℕ) (c : Managed) (role : InterceptorMethod) (members : List Code) (args : List Value) (ready chain : List ℕ) → Good t legal w → FitsManaged t legal b c → Lives w.instances n (components.Bean b)
      → AreMembers t legal c [] members → FitsChain t legal role ready chain → ((i : ℕ) → IsIn i ready → Attends w.instances n i) → Does (invoke_by n role members args (call (Task.Rest chain))) w (Leaves w)
  call_safe w n b c role members args ready chain g served lives ms cs f =
      invoking w n role members args (call (Task.Rest chain))
      (resting w (after_change (Change.Enter v) w) chain (entered w v g (lives.0, lives.1))
      (can_rest t legal w.instances w.next n b c [] [] role ready chain members v w.invocations served lives tt ms cs f refl refl refl refl)
      (exits_from t legal w v (after_change (Change.Enter v) w) (after_self t legal Any Each (after_change (Change.Enter v) w) (entered w v g (lives.0, lives.1)))))
    where
      v : Invocation
      v = invocation_at_start n role members args

  -- ---- what is borrowed

  borrowed_idle : (w u : World) → Good t legal w → After t legal (after_change Change.Borrow w) u → (ts : List (List ℕ)) → Levels w.next ([] ∷ w.temporaries) ts → AllIdle u ts
  borrowed_idle w u g a [] l = absurd l
  borrowed_idle w u g a (ns ∷ ts) l = λ n h. by n (l.0 n h)
    where
      by : (n : ℕ) → IsIn n [] ⊎ (w.next ≤ n) → IdleIn u n
      by n (inl h) = absurd h
      by n (inr q) = idle_then a n (λ b. let r = busy_below (borrowing w g) n b in absurd (omega arith))

  pub borrow_safe : (w : World) (p : Prog Given) → Good t legal w → Does p (after_change Change.Borrow w) (λ c u. After t legal (after_change Change.Borrow w) u × Answered t c) → Does (borrow_for p) w (λ c u. After t legal w u × Answered t c)
  borrow_safe w p g d =
      then t legal fits p _ _ (after_change Change.Borrow w) (λ c u. After t legal (after_change Change.Borrow w) u × Answered t c) _ d
      (λ a u q. then t legal fits give_back _ throw u (λ c v. Gives c (After t legal w v)) _ (back u q.0) (λ _ v r. (r, q.1)) (λ x v r. absurd r))
      (λ x u q. then t legal fits give_back _ throw u (λ c v. Gives c (After t legal w v)) _ (back u q.0) (λ _ v r. (r, q.1)) (λ y v r. absurd r))
    where
      back : (u : World) → After t legal (after_change Change.Borrow w) u → Does give_back u (λ c v. Gives c (After t legal w v))
      back u q =
          calling t legal fits Task.Dismiss _ _ u _ (q.good, borrowed_idle w u g q u.temporaries q.level)
          (λ a v r. returned [] w.temporaries v.temporaries (after_trans q r)) (λ x v r. absurd r)
