-- Destruction misses nothing.
use Rattle.std.proofs.Common.{ℕ, ◌≡◌, ◌<◌, ◌≤◌, ◌⊎◌, inl, inr, List, [], ◌∷◌, length, Bool, true, false, Option, Some, None, refl, sym, ap, ◌∙◌, subst, arith}
use Rattle.std.specs.Prelude.{max, nat_lt, slice_get}
use Rattle.std.specs.List.{AllByRecursion}
use Rattle.cdi_base.specs.declared.value.Value.{Value}
use Rattle.cdi_base.specs.declared.entry.Entry.TheVariants as entries
use Rattle.cdi_base.specs.declared.place.InterceptorMethod.TheVariants as roles
use Rattle.cdi_base.specs.Maps.{Map, at}
use Rattle.cdi_store.specs.declared.instance.Component.{Component}
use Rattle.cdi_store.specs.declared.instance.Component.TheVariants as components
use Rattle.cdi_store.specs.declared.instance.Context.{Context}
use Rattle.cdi_store.specs.declared.instance.Owner.{Owner}
use Rattle.cdi_store.specs.declared.instance.Owner.TheVariants as owners
use Rattle.cdi_store.specs.declared.instance.Phase.{Phase}
use Rattle.cdi_store.specs.declared.instance.Phase.TheVariants as phases
use Rattle.cdi_store.specs.declared.instance.Instance.{Instance}
use Rattle.cdi_contexts.specs.declared.context.Held.{Held}
use Rattle.cdi_contexts.specs.declared.context.Held.TheVariants.{Making, Is}
use Rattle.cdi_contexts.specs.Contexts.{Active, greatest, greater, context_at}
use Rattle.cdi_machine.specs.Tables.{Tables, Managed, Member, Kind, Product}
use Rattle.cdi_machine.specs.World.{World, Change, Invocation, after_change, with_entry, instance_at}
use Rattle.cdi_machine.specs.Programs.{Task, Given, Completion, Gave, Threw, Prog, throw, handle, quietly, require_present, call, each}
use Rattle.cdi_machine.specs.Bodies.{invoke, call_back}
use Rattle.cdi_machine.specs.Destruction.{latest, dismiss_latest, dismiss, obtain_receiver, dispose, clean_up_bean, clean_up, only_ready, destroy, release_from, release, greatest_in, clear_from, clear}
use Rattle.cdi_machine.specs.Runs.{Legal}
use Rattle.cdi_ledger.specs.Whose.{IsIn}
use Rattle.cdi_whole.specs.Fits.{intercepted_by, FitsKind, FitsManaged, FitsMember, Fits}
use Rattle.cdi_ledger.proofs.Maps.{all_weaker}
use Rattle.cdi_ledger.proofs.Lists.{in_got, got, IsAmong}
use Rattle.cdi_ledger.proofs.Holdings.{AllHeld, EachHeld}
use Rattle.cdi_whole.proofs.Contexts.{held_at}
use Rattle.cdi_whole.proofs.Whole.{intercepted_in, Declared, IsReady, Stands, IsOwned, HeldBy, Attends, Targets, OnStack, Busy, IsFree, Good}
use Rattle.cdi_whole.proofs.Remains.{Any, Other, Each, But, Of, Alike, Levels, AfterAt, After, after_self, after_trans, after_less, stands_then, idle_then}
use Rattle.cdi_whole.proofs.Busy.{busy_below, owner_busy, borrowing}
use Rattle.cdi_whole.proofs.Terms.{Told, Gives, IdleIn, AllIdle, IsUnready, IsEmptyStack, Answered}
use Rattle.cdi_whole.proofs.Statements.{Goes, then, loosen, found, called, calling, topped}
use Rattle.cdi_whole.proofs.Moves.{Moves}
use Rattle.cdi_whole.proofs.References.{Reaches, bean_of_managed, receiver_safe}
use Rattle.cdi_whole.proofs.Invocations.{invoke_safe, call_safe, borrow_safe}
use Rattle.cdi_whole.proofs.Creation.{class_intercepted, ready_attended}
use Rattle.cdi_whole.proofs.Acts.{bean_free, bean_gone}

-- ---- numbers

max_is : (k m : ℕ) → (max k m ≡ k) ⊎ (max k m ≡ m)
max_is k m = by (nat_lt k m) refl
  where
    by : (b : Bool) → nat_lt k m ≡ b → (max k m ≡ k) ⊎ (max k m ≡ m)
    by true e = inr (grind arith)
    by false e = inl (grind arith)

-- the greatest number that is held is held
greatest_is : (P : ℕ → Type 0) (most : Option ℕ) (holds : Map Held) (n : ℕ) → ((m : ℕ) → most ≡ Some m → P m) → AllByRecursion (λ p. (m : ℕ) → p.1 ≡ Is m → P m) holds → greatest most holds ≡ Some n → P n
greatest_is P most [] n f h e = f n e
greatest_is P most (p ∷ holds) n f h e = greatest_is P (greater most p.1) holds n (by most p.1 f h.0) h.1 e
  where
    by : (most : Option ℕ) (held : Held) → ((m : ℕ) → most ≡ Some m → P m) → ((m : ℕ) → held ≡ Is m → P m) → (m : ℕ) → greater most held ≡ Some m → P m
    by None Making f g m q = absurd (cc)
    by None (Is k) f g m q = let r : k ≡ m = cc in g m (ap Is r)
    by (Some j) Making f g m q = f m q
    by (Some j) (Is k) f g m q = elim (max_is j k) [
      | inl r ↦ let s : max j k ≡ m = cc in f m (ap Some (sym r ∙ s))
      | inr r ↦ let s : max j k ≡ m = cc in g m (ap Is (sym r ∙ s))
    ]

latest_in : (ns : List ℕ) (n : ℕ) → latest ns ≡ Some n → IsIn n ns
latest_in [] n e = absurd (cc)
latest_in (m ∷ []) n e = inl cc
latest_in (m ∷ k ∷ ns) n e = inr (latest_in (k ∷ ns) n e)

leaving_ready : phases.Leaving ≡ phases.Ready → ⊥
leaving_ready e = cc

-- ---- what a destruction leaves

module _ (t : Tables) (legal : Legal) (w u : World) (n : ℕ) where
  -- it was ready and idle, so it needn't stay
  -- if its owner isn't ready, it is free
  owned_free : (owner : Owner) → Good t legal w → IsOwned w.instances n owner → ((m : ℕ) (o : Instance) → owner ≡ owners.Instance m → at w.instances m ≡ Some o → o.phase ≡ phases.Ready → ⊥) → IsFree w.instances n
  owned_free owner g s f i m o l e h r =
      let x = g.owned m o n e h in
      let y : Some x.1.instance ≡ Some s.1.instance = sym x.1.there ∙ s.1.there in
      let z : x.1.instance ≡ s.1.instance = cc in
      f m o (sym s.1.owned ∙ (ap (λ (v : Instance). v.owner) (sym z) ∙ x.1.owned)) e r

  idle_gone : IsReady w.instances n → IdleIn w n → AfterAt t legal (Other n) (But n) w u → AfterAt t legal Any (But n) w u
  idle_gone r f a = record {
    good = a.good;
    keeps = λ m o p e h. a.keeps m o (apart m o e h) e h;
    attends = λ m o d i p e h. a.attends m o d i (apart m o e h) e h;
    born = a.born;
    grows = a.grows;
    stack = a.stack;
    running = a.running;
    level = a.level;
    under = a.under;
    back = a.back;
  }
    where
      apart : (m : ℕ) (o : Instance) → at w.instances m ≡ Some o → Busy w.instances w.invocations w.bodies m ⊎ (o.phase ≡ phases.Ready → ⊥) → m ≡ n → ⊥
      apart m o e (inl b) q = f (subst (Busy w.instances w.invocations w.bodies) q b)
      apart m o e (inr d) q =
          let x : at w.instances n ≡ Some o = subst (λ z. at w.instances z ≡ Some o) q e in
          let y : Some o ≡ Some r.0 = sym x ∙ r.1 in
          let z : o ≡ r.0 = cc in
          d (ap (λ (v : Instance). v.phase) z ∙ r.2)

  -- a number that stands for one of an owner isn't among the dependents of another
  other_owner : (owner : Owner) → Good t legal w → IsOwned w.instances n owner → (m : ℕ) → (owner ≡ owners.Instance m → ⊥) → (o : Instance) (d : ℕ) → at w.instances m ≡ Some o → IsIn d o.dependents → d ≡ n → ⊥
  other_owner owner g s m f o d e h q =
      let x = g.owned m o n e (subst (λ z. IsIn z o.dependents) q h) in
      let y : Some x.1.instance ≡ Some s.1.instance = sym x.1.there ∙ s.1.there in
      let z : x.1.instance ≡ s.1.instance = cc in
      f (sym s.1.owned ∙ (ap (λ (v : Instance). v.owner) (sym z) ∙ x.1.owned))

  owned_gone : (owner : Owner) (S : ℕ → ℕ → Type 0) → Good t legal w → IsOwned w.instances n owner → ((m d : ℕ) → S m d → owner ≡ owners.Instance m → ⊥) → AfterAt t legal Any (But n) w u → AfterAt t legal Any S w u
  owned_gone owner S g s f a = record {
    good = a.good;
    keeps = a.keeps;
    attends = λ m o d i p e h q k l. a.attends m o d i p e h (other_owner owner g s m (f m d q) o d e k) k l;
    born = a.born;
    grows = a.grows;
    stack = a.stack;
    running = a.running;
    level = a.level;
    under = a.under;
    back = a.back;
  }

module _ (t : Tables) (legal : Legal) (fits : Fits t legal) (moves : Moves t legal) where
  abbrev Does : {A : Type 0} → Prog A → World → (Completion A → World → Type 0) → Type 0
  Does p w Q = Goes t legal fits p w Q

  -- ---- dependents

  abbrev Released : ℕ → World → Completion Given → World → Type 0
  Released n w c u = Gives c (AfterAt t legal Any (Of n) w u)

  released_then : (n : ℕ) (w u : World) → AfterAt t legal Any (Of n) w u → (c : Completion Given) (v : World) → Released n u c v → Released n w c v
  released_then n w u a (Gave g) v p = after_trans a p
  released_then n w u a (Threw x) v p = absurd p

  unready_then : (n : ℕ) (w u : World) → AfterAt t legal Any (Of n) w u → IsUnready w.instances n → IsUnready u.instances n
  unready_then n w u a s = record { component = s.component; owner = s.owner; phase = s.phase; stands = stands_then a n s.component s.owner s.phase tt s.stands (inr s.unready); unready = s.unready }

  unready_owner : (n : ℕ) (w : World) → IsUnready w.instances n → (m : ℕ) (o : Instance) → owners.Instance n ≡ owners.Instance m → at w.instances m ≡ Some o → o.phase ≡ phases.Ready → ⊥
  unready_owner n w s m o e h r =
      let z : n ≡ m = cc in
      let x : at w.instances n ≡ Some o = subst (λ i. at w.instances i ≡ Some o) (sym z) h in
      let y : Some s.stands.instance ≡ Some o = sym s.stands.there ∙ x in
      let v : s.stands.instance ≡ o = cc in
      s.unready (sym s.stands.phase_is ∙ (ap (λ (i : Instance). i.phase) v ∙ r))

  -- a dependent is destroyed, and then the others
  next_one : (n d : ℕ) (w : World) → Good t legal w → IsUnready w.instances n → IdleIn w n → IsOwned w.instances d (owners.Instance n) → Does (handle (call (Task.Destroy d)) (λ _. call (Task.Release n)) throw) w (Released n w)
  next_one n d w g s f owned =
      calling t legal fits (Task.Destroy d) _ throw w _ (g, (owned.1.instance, owned.1.there, owned.1.phase_is), (λ b. f (owner_busy owned.1 (λ e. (let q : phases.Ready ≡ phases.Leaving = e in cc)) b)), owned_free t legal w w d (owners.Instance n) g owned (unready_owner n w s))
      (λ a u p. let q = owned_gone t legal w u d (owners.Instance n) (Of n) g owned (λ m k r e. (let z : n ≡ m = cc in r (sym z))) p in
      called t legal fits (Task.Release n) u _ (q.good, unready_then n w u q s, idle_then q n f) (λ c v r. released_then n w u q c v r))
      (λ x u p. absurd p)

  one_of : (n i : ℕ) (ds : List ℕ) (w : World) → Good t legal w → IsUnready w.instances n → IdleIn w n → ((d : ℕ) → IsIn d ds → IsOwned w.instances d (owners.Instance n)) → i < length ds
      → Does (handle (require_present (slice_get ds i)) (λ d. handle (call (Task.Destroy d)) (λ _. call (Task.Release n)) throw) throw) w (Released n w)
  one_of n i ds w g s f owned l =
      let d = got ds i l in
      found t legal fits (slice_get ds i) d.0 _ w _ d.1 (next_one n d.0 w g s f (owned d.0 (in_got ds i d.0 d.1)))

  from_safe : (n : ℕ) (ds : List ℕ) (w : World) → Good t legal w → IsUnready w.instances n → IdleIn w n → ((d : ℕ) → IsIn d ds → IsOwned w.instances d (owners.Instance n)) → Does (release_from n ds) w (Released n w)
  from_safe n [] w g s f owned = after_self t legal Any (Of n) w g
  from_safe n (d ∷ []) w g s f owned = one_of n 0 (d ∷ []) w g s f owned (omega arith)
  from_safe n (d ∷ k ∷ ds) w g s f owned = λ i l. one_of n i (d ∷ k ∷ ds) (with_entry _ w) g s f owned l

  pub release_safe : (n : ℕ) (w : World) → Good t legal w → IsUnready w.instances n → IdleIn w n → Does (release n) w (Released n w)
  release_safe n w g s f =
      let o = s.stands.instance in
      found t legal fits (instance_at w n) o _ w _ s.stands.there (from_safe n o.dependents w g s f (λ d q. g.owned n o d s.stands.there q))

  -- ---- what is called at the end

  abbrev Leaves : World → Completion Given → World → Type 0
  Leaves w c u = After t legal w u × Told t c

  dispose_safe : (p : Product) (c : Managed) (v : Value) (m : Member) (w : World) → Good t legal w → FitsManaged t legal p.declaring c → FitsMember t legal c m → Does (dispose p v m) w (Leaves w)
  dispose_safe p c v m w g served fit =
      loosen t legal fits (dispose p v m) w (λ d u. After t legal w u × Answered t d) (Leaves w)
      (borrow_safe t legal fits w (handle (obtain_receiver p.declaring) (λ n. invoke n m (v ∷ []) owners.Borrower) throw) g
      (then t legal fits (obtain_receiver p.declaring) (λ n. invoke n m (v ∷ []) owners.Borrower) throw inner (λ d u. After t legal inner u × Reaches u.instances p.declaring d × Told t d) (λ d u. After t legal inner u × Answered t d)
      (receiver_safe t legal fits p.declaring inner (borrowing w g) (bean_of_managed served))
      (λ n u q. loosen t legal fits (invoke n m (v ∷ []) owners.Borrower) u (λ d x. After t legal u x × Answered t d) (λ d x. After t legal inner x × Answered t d)
      (invoke_safe t legal fits u n p.declaring c m (v ∷ []) owners.Borrower q.0.good tt served (q.1.0, q.1.1, q.1.2) fit (ready_attended u n p.declaring c q.0.good served q.1.0 q.1.1 q.1.2 q.1.3)) (λ d x r. (after_trans q.0 r.0, r.1)))
      (λ x u q. (q.0, (tt, q.2)))))
      (λ d u q. (q.0, q.1.1))
    where
      inner : World
      inner = after_change Change.Borrow w

  disposers_safe : (p : Product) (c : Managed) (v : Value) (ms : List Member) (start w : World) → After t legal start w → FitsManaged t legal p.declaring c → AllByRecursion (FitsMember t legal c) ms → Does (each ms (dispose p v)) w (Leaves start)
  disposers_safe p c v [] start w a served h = (a, tt)
  disposers_safe p c v (m ∷ []) start w a served h = loosen t legal fits (dispose p v m) w (Leaves w) (Leaves start) (dispose_safe p c v m w a.good served h.0) (λ d u q. (after_trans a q.0, q.1))
  disposers_safe p c v (m ∷ k ∷ ms) start w a served h =
      then t legal fits (dispose p v m) _ throw w (Leaves w) _ (dispose_safe p c v m w a.good served h.0)
      (λ g u q. disposers_safe p c v (k ∷ ms) start u (after_trans a q.0) served h.1) (λ x u q. (after_trans a q.0, q.1))

  clean_up_safe : (n : ℕ) (v : Value) (component : Component) (owner : Owner) (w : World) → Good t legal w → Declared t legal component → Stands w.instances n component owner phases.Leaving → ((i : ℕ) → IsIn i (intercepted_in t component) → Attends w.instances n i)
      → Does (clean_up n v component) w (Leaves w)
  clean_up_safe n v (components.Interceptor i) owner w g declared s h = (after_self t legal Any Each w g, tt)
  clean_up_safe n v (components.Bean b) owner w g served s h = found t legal fits (t.bean b) served.bean _ w _ served.known (by served.bean.kind refl served.kind)
    where
      by : (kind : Kind) → served.bean.kind ≡ kind → FitsKind t legal kind → Does (clean_up_bean n v kind) w (Leaves w)
      by (Kind.Class c) e fit =
          let m : FitsManaged t legal b c = record { is = record { bean = served.bean; known = served.known; is = e }; fits = fit } in
          loosen t legal fits (call_back n roles.PreDestroy c.pre_destroy.callbacks c.pre_destroy.chain) w (λ d u. After t legal w u × Answered t d) (Leaves w)
          (call_safe t legal fits w n b c roles.PreDestroy c.pre_destroy.callbacks [] (intercepted_by c.plan) c.pre_destroy.chain g m (s.instance, s.there, s.of) fit.pre_destroy.callbacks fit.pre_destroy.chain
          (λ i q. h i (subst (IsIn i) (sym (class_intercepted m)) q))) (λ d u q. (q.0, q.1.1))
      by (Kind.Producer p) e fit = disposers_safe p fit.class v p.disposers w w (after_self t legal Any Each w g) fit.declares fit.disposers

  -- ---- an instance

  only_if_ready : (o : Instance) (p : Phase) → p ≡ phases.Ready → (elim p as (λ _. Option Instance) [ phases.New ↦ None | phases.Ready ↦ Some o | phases.Leaving ↦ None ]) ≡ Some o
  only_if_ready o phases.New e = absurd (cc)
  only_if_ready o phases.Ready e = refl
  only_if_ready o phases.Leaving e = absurd (cc)

  module _ (n : ℕ) (w : World) (g : Good t legal w) (ready : IsReady w.instances n) (idle : IdleIn w n) (free : IsFree w.instances n) where
    abbrev gone_from : World
    gone_from = after_change (Change.Leave n) (with_entry (entries.End n) w)

    stood : Stands w.instances n ready.0.component ready.0.owner phases.Ready
    stood = record { instance = ready.0; there = ready.1; of = refl; owned = refl; phase_is = ready.2 }

    left : AfterAt t legal (Other n) (But n) w gone_from × Stands gone_from.instances n ready.0.component ready.0.owner phases.Leaving × ((i : ℕ) → IsIn i (intercepted_in t ready.0.component) → Attends gone_from.instances n i)
    left = moves.leaves (with_entry (entries.End n) w) n ready.0.component ready.0.owner g stood idle free

    ended : (u v : World) → After t legal gone_from u → AfterAt t legal Any (Of n) u v → AfterAt t legal Any (But n) w (after_change (Change.Remove n) (with_entry (entries.Gone n) v))
    ended u v a b =
        let s = stands_then a n ready.0.component ready.0.owner phases.Leaving tt left.1 (inr leaving_ready) in
        let r = stands_then b n ready.0.component ready.0.owner phases.Leaving tt s (inr leaving_ready) in
        let f = idle_then b n (idle_then a n (idle_then left.0 n idle)) in
        let x = after_change (Change.Remove n) (with_entry (entries.Gone n) v) in
        idle_gone t legal w x n ready idle
        (after_trans left.0
        (after_trans (after_less (Other n) (But n) (λ k q. tt) (λ k d q z. tt) a)
        (after_trans (after_less (Other n) (But n) (λ k q. tt) (λ k d q z. q) b)
        (after_less (Other n) (But n) (λ k q. q) (λ k d q z. tt) (moves.removes (with_entry (entries.Gone n) v) n ready.0.component ready.0.owner b.good r f)))))

    pub destroy_safe : Does (destroy n) w (λ c u. Gives c (AfterAt t legal Any (But n) w u))
    destroy_safe =
        found t legal fits (only_ready (instance_at w n)) ready.0 _ w _ (ap only_ready ready.1 ∙ only_if_ready ready.0 ready.0.phase ready.2) (
        then t legal fits (quietly (clean_up n ready.0.value ready.0.component)) _ throw gone_from (λ c u. Gives c (After t legal gone_from u)) _
        (then t legal fits (clean_up n ready.0.value ready.0.component) _ _ gone_from (Leaves gone_from) (λ c u. Gives c (After t legal gone_from u))
        (clean_up_safe n ready.0.value ready.0.component ready.0.owner gone_from left.0.good (g.whole n ready.0 ready.1).declared left.1 left.2) (λ a u p. p.0) (λ x u p. p.0))
        (λ _ u p. calling t legal fits (Task.Release n) _ throw u _
        (p.good, record { component = ready.0.component; owner = ready.0.owner; phase = phases.Leaving; stands = stands_then p n ready.0.component ready.0.owner phases.Leaving tt left.1 (inr leaving_ready); unready = leaving_ready }, idle_then p n (idle_then left.0 n idle))
        (λ a v q. ended u v p q) (λ x v q. absurd q))
        (λ x u p. absurd p))

  -- ---- temporaries

  idle_left : (w u : World) → Good t legal w → After t legal w u → (ts us : List (List ℕ)) → Levels w.next ts us → AllIdle w ts → AllIdle u us
  idle_left w u g a [] us l h = absurd h
  idle_left w u g a (x ∷ ts) [] l h = absurd l
  idle_left w u g a (x ∷ ts) (y ∷ us) l h = λ n q. by n (l.0 n q)
    where
      by : (n : ℕ) → IsIn n x ⊎ (w.next ≤ n) → IdleIn u n
      by n (inl q) = idle_then a n (h n q)
      by n (inr q) = idle_then a n (λ b. (let r = busy_below g n b in absurd (omega arith)))

  pub dismiss_safe : (w : World) → Good t legal w → AllIdle w w.temporaries → Does dismiss w (λ c u. Gives c (After t legal w u))
  dismiss_safe w g h = topped t legal fits w.temporaries _ w _ none one
    where
      none : w.temporaries ≡ [] → ⊥
      none e = subst (AllIdle w) e h

      then-on : (u : World) → After t legal w u → (c : Completion Given) (v : World) → Gives c (After t legal u v) → Gives c (After t legal w v)
      then-on u a (Gave x) v p = after_trans a p
      then-on u a (Threw x) v p = absurd p

      one_by : (ns : List ℕ) (more : List (List ℕ)) → w.temporaries ≡ ns ∷ more → (x : Option ℕ) → latest ns ≡ x → Does (dismiss_latest x) w (λ c u. Gives c (After t legal w u))
      one_by ns more e None q = after_self t legal Any Each w g
      one_by ns more e (Some n) q =
          let i = latest_in ns n q in
          let s = g.borrowed n (subst (IsAmong n) (sym e) (inl i)) in
          let f : IdleIn w n = subst (AllIdle w) e h n i in
          calling t legal fits (Task.Destroy n) _ throw w _ (g, (s.1.instance, s.1.there, s.1.phase_is), f, owned_free t legal w w n owners.Borrower g s (λ m o v q r. (let y : owners.Borrower ≡ owners.Instance m = v in cc)))
          (λ a u p. let r = owned_gone t legal w u n owners.Borrower Each g s (λ m d z v. (let y : owners.Borrower ≡ owners.Instance m = v in cc)) p in
          called t legal fits Task.Dismiss u _ (r.good, idle_left w u g r w.temporaries u.temporaries r.level h) (then-on u r))
          (λ x u p. absurd p)

      one : (ns : List ℕ) (more : List (List ℕ)) → w.temporaries ≡ ns ∷ more → Does (dismiss_latest (latest ns)) w (λ c u. Gives c (After t legal w u))
      one ns more e = one_by ns more e (latest ns) refl

  -- ---- contexts

  empty_idle : (w : World) → IsEmptyStack w → (n : ℕ) → IdleIn w n
  empty_idle w e n b = by b.on
    where
      by : OnStack w.invocations w.bodies b.root → ⊥
      by (inl h) = subst (Targets b.root) e.0 h
      by (inr h) = subst (IsIn b.root) e.1 h

  pub empty_then : (w u : World) → After t legal w u → IsEmptyStack w → IsEmptyStack u
  empty_then w u a e = (by u.invocations (subst (λ z. Alike z u.invocations) e.0 a.stack), a.running ∙ e.1)
    where
      by : (vs : List Invocation) → Alike [] vs → vs ≡ []
      by [] h = refl
      by (v ∷ vs) h = absurd h

  pub clear_safe : (c : Context) (w : World) → Good t legal w → IsEmptyStack w → Does (clear c) w (λ d u. Gives d (After t legal w u))
  clear_safe c w g e = by (context_at w.contexts c) refl
    where
      on_with : (u : World) → After t legal w u → (d : Completion Given) (v : World) → Gives d (After t legal u v) → Gives d (After t legal w v)
      on_with u a (Gave x) v p = after_trans a p
      on_with u a (Threw x) v p = absurd p

      IsBean : ℕ → Type 0
      IsBean n = (b : ℕ) × Stands w.instances n (components.Bean b) (owners.Context c) phases.Ready

      one : (n : ℕ) → (b : ℕ) → Stands w.instances n (components.Bean b) (owners.Context c) phases.Ready → Does (clear_from c (Some n)) w (λ d u. Gives d (After t legal w u))
      one n b s =
          calling t legal fits (Task.Destroy n) _ throw w _ (g, (s.instance, s.there, s.phase_is), empty_idle w e n, bean_free w.instances n b (s.instance, s.there, s.of))
          (λ a u p. let r = bean_gone t legal w u n b (s.instance, s.there, s.of) p in
          called t legal fits (Task.Clear c) u _ (r.good, empty_then w u r e) (on_with u r))
          (λ x u p. absurd p)

      some : (a : Active) → AllHeld (HeldBy w.instances c) (Some a) → (x : Option ℕ) → greatest None a.holds ≡ x → Does (clear_from c x) w (λ d u. Gives d (After t legal w u))
      some a h None q = after_self t legal Any Each w g
      some a h (Some n) q =
          let r : (b : ℕ) × Stands w.instances n (components.Bean b) (owners.Context c) phases.Ready = greatest_is (λ m. (b : ℕ) × Stands w.instances m (components.Bean b) (owners.Context c) phases.Ready) None a.holds n (λ m z. absurd (cc)) (all_weaker (λ p. EachHeld (HeldBy w.instances c) p.0 p.1) (λ p. (m : ℕ) → p.1 ≡ Is m → (b : ℕ) × Stands w.instances m (components.Bean b) (owners.Context c) phases.Ready) a.holds (λ p k. entry p.0 p.1 k) h) q in
          one n r.0 r.1
        where
          entry : (b : ℕ) (held : Held) → EachHeld (HeldBy w.instances c) b held → (m : ℕ) → held ≡ Is m → (b : ℕ) × Stands w.instances m (components.Bean b) (owners.Context c) phases.Ready
          entry b Making k m z = absurd (cc)
          entry b (Is j) k m z = let y : j ≡ m = cc in (b, subst (λ i. Stands w.instances i (components.Bean b) (owners.Context c) phases.Ready) y k)

      by : (x : Option Active) → context_at w.contexts c ≡ x → Does (clear_from c (greatest_in x)) w (λ d u. Gives d (After t legal w u))
      by None q = after_self t legal Any Each w g
      by (Some a) q = some a (subst (AllHeld (HeldBy w.instances c)) q (held_at (HeldBy w.instances) w.contexts c g.held)) (greatest None a.holds) refl
