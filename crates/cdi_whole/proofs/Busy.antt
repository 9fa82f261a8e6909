-- What is busy: the targets of invocations, the instances with a running body, and their owners.
use Rattle.std.proofs.Common.{ℕ, ◌≡◌, ◌<◌, ◌≤◌, ◌⊎◌, inl, inr, List, [], ◌∷◌, Bool, true, false, not, Option, Some, None, refl, sym, ap, ◌∙◌, subst, arith, nat_eq, zero, suc}
use Rattle.std.specs.Prelude.{◌||◌}
use Rattle.cdi_base.specs.Maps.{at}
use Rattle.cdi_store.specs.declared.instance.Component.{Component}
use Rattle.cdi_store.specs.declared.instance.Owner.{Owner}
use Rattle.cdi_store.specs.declared.instance.Owner.TheVariants as owners
use Rattle.cdi_store.specs.declared.instance.Phase.{Phase}
use Rattle.cdi_store.specs.declared.instance.Phase.TheVariants as phases
use Rattle.cdi_store.specs.declared.instance.Instance.{Instance}
use Rattle.cdi_store.specs.Live.{Instances}
use Rattle.cdi_store.proofs.Numbers.{equal_or_not}
use Rattle.cdi_contexts.specs.Contexts.{Contexts}
use Rattle.cdi_machine.specs.Tables.{Tables}
use Rattle.cdi_machine.specs.World.{World, Invocation, below, instance_at}
use Rattle.cdi_machine.specs.DestroyAct.{dependent_of, belongs, any_target, any_belongs, is_idle}
use Rattle.cdi_machine.specs.Runs.{Legal}
use Rattle.cdi_ledger.specs.Whose.{IsIn}
use Rattle.cdi_ledger.proofs.Lists.{IsAmong}
use Rattle.cdi_whole.proofs.Whole.{IsThere, IsOwned, Stands, IsOlder, Targets, OnStack, Under, Busy, Idle, Holds, Whole, Good}
use Rattle.cdi_whole.proofs.Remains.{AfterOf}

pub under_trans : {i : Instances} {a b c : ℕ} → Under i a b → Under i b c → Under i a c
under_trans Under.self q = q
under_trans (Under.up o e d s p) q = Under.up o e d s (under_trans p q)

pub on_top : {i : Instances} {vs : List Invocation} {bodies : List ℕ} {s : ℕ} → OnStack vs bodies s → Busy i vs bodies s
on_top {s = s} h = record { root = s; on = h; under = Under.self }

-- the owner of what is busy is busy, unless that is being destroyed
pub owner_busy : {i : Instances} {vs : List Invocation} {bodies : List ℕ} {d n : ℕ} {c : Component} {p : Phase} → Stands i d c (owners.Instance n) p → (p ≡ phases.Leaving → ⊥) → Busy i vs bodies d → Busy i vs bodies n
owner_busy s f b = record { root = b.root; on = b.on; under = under_trans b.under (Under.up s.instance s.there (λ e. f (sym s.phase_is ∙ e)) s.owned Under.self) }

module _ {t : Tables} {legal : Legal} {i : Instances} {next : ℕ} {contexts : Contexts} {ts : List (List ℕ)} {vs : List Invocation} {bodies : List ℕ} (g : Whole t legal i next contexts ts vs bodies) where
  pub older : (m k : ℕ) (o : Instance) → at i m ≡ Some o → o.owner ≡ owners.Instance k → k < m
  older m k o e s = subst (IsOlder m) s (g.whole m o e).owner

  pub under_below : {m n : ℕ} → Under i m n → n ≤ m
  under_below Under.self = omega arith
  under_below (Under.up {m = m} {k = k} o e d s p) = let l = older m k o e s in let r = under_below p in omega arith

  pub busy_below : (n : ℕ) → Busy i vs bodies n → n < next
  busy_below n b =
      let s = g.stacked b.root b.on in
      let l = g.below b.root s.0 s.1 in
      let r = under_below b.under in
      omega arith

-- ---- the test of the destroy act

or_true : (b : Bool) → (b || true) ≡ true
or_true true = refl
or_true false = refl

same_true : (n : ℕ) → nat_eq n n ≡ true
same_true n = elim (equal_or_not n n) [ inl s ↦ s.0 | inr s ↦ absurd (s.1 refl) ]

owner_is : (x : Owner) (p : Phase) (k : ℕ) → x ≡ owners.Instance k → (p ≡ phases.Leaving → ⊥)
    → (elim x as (λ _. Option ℕ) [
      | owners.Context c ↦ None
      | owners.Instance m ↦ elim (elim p as (λ _. Bool) [ phases.New ↦ true | phases.Ready ↦ true | phases.Leaving ↦ false ]) as (λ _. Option ℕ) [ true ↦ Some m | false ↦ None ]
      | owners.Borrower ↦ None
    ]) ≡ Some k
owner_is (owners.Context c) p k e f = absurd (cc)
owner_is (owners.Instance m) phases.New k e f = let q : m ≡ k = cc in ap Some q
owner_is (owners.Instance m) phases.Ready k e f = let q : m ≡ k = cc in ap Some q
owner_is (owners.Instance m) phases.Leaving k e f = absurd (f refl)
owner_is owners.Borrower p k e f = absurd (cc)

module _ {t : Tables} {legal : Legal} (w : World) (g : Good t legal w) where
  belongs_true : {m n : ℕ} → Under w.instances m n → (k : ℕ) → m ≤ k → belongs k w m n ≡ true
  belongs_true {n = n} Under.self k l = by k
    where
      by : (k : ℕ) → belongs k w n n ≡ true
      by zero = same_true n
      by (suc k) = ap (λ b. b || elim (dependent_of (instance_at w n)) as (λ _. Bool) [ None ↦ false | Some o ↦ belongs k w o n ]) (same_true n)
  belongs_true {n = n} (Under.up {m = m} {k = x} o e d s p) k l = by k l (λ j q. belongs_true p j q)
    where
      older_one : x < m
      older_one = older g m x o e s

      owned : dependent_of (instance_at w m) ≡ Some x
      owned = ap dependent_of e ∙ owner_is o.owner o.phase x s d

      by : (k : ℕ) → m ≤ k → ((j : ℕ) → x ≤ j → belongs j w x n ≡ true) → belongs k w m n ≡ true
      by zero l f = absurd (let r = older_one in omega arith)
      by (suc k) l f =
          subst (λ z. (nat_eq m n || elim z as (λ _. Bool) [ None ↦ false | Some o ↦ belongs k w o n ]) ≡ true) (sym owned)
          (ap (λ b. nat_eq m n || b) (f k (let r = older_one in omega arith)) ∙ or_true (nat_eq m n))

  target_true : (vs : List Invocation) (s n : ℕ) → Targets s vs → Under w.instances s n → any_target w vs n ≡ true
  target_true [] s n h u = absurd h
  target_true (v ∷ vs) s n (inl e) u =
      let b : belongs v.target w v.target n ≡ true = belongs_true (subst (λ z. Under w.instances z n) (sym e) u) v.target (omega arith) in
      ap (λ z. z || any_target w vs n) b
  target_true (v ∷ vs) s n (inr h) u = ap (λ z. belongs v.target w v.target n || z) (target_true vs s n h u) ∙ or_true (belongs v.target w v.target n)

  body_true : (ms : List ℕ) (s n : ℕ) → IsIn s ms → Under w.instances s n → any_belongs w ms n ≡ true
  body_true [] s n h u = absurd h
  body_true (m ∷ ms) s n (inl e) u =
      let b : belongs m w m n ≡ true = belongs_true (subst (λ z. Under w.instances z n) (sym e) u) m (omega arith) in
      ap (λ z. z || any_belongs w ms n) b
  body_true (m ∷ ms) s n (inr h) u = ap (λ z. belongs m w m n || z) (body_true ms s n h u) ∙ or_true (belongs m w m n)

  -- an instance that passes the test is idle
  pub idle_by : (n : ℕ) → is_idle w n ≡ true → Idle w.instances w.invocations w.bodies n
  idle_by n e b = by b.on
    where
      never : (a c : Bool) → not (a || c) ≡ true → (a ≡ true) ⊎ (c ≡ true) → ⊥
      never true c e h = cc
      never false true e h = cc
      never false false e (inl q) = cc
      never false false e (inr q) = cc

      by : OnStack w.invocations w.bodies b.root → ⊥
      by (inl h) = never (any_target w w.invocations n) (any_belongs w w.bodies n) e (inl (target_true w.invocations b.root n h b.under))
      by (inr h) = never (any_target w w.invocations n) (any_belongs w w.bodies n) e (inr (body_true w.bodies b.root n h b.under))

-- ---- in and out

module _ {t : Tables} {legal : Legal} where
  pub entered : (w : World) (v : Invocation) → Good t legal w → IsThere w.instances v.target → Whole t legal w.instances w.next w.contexts w.temporaries (v ∷ w.invocations) w.bodies
  entered w v g h = record {
    below = g.below;
    whole = g.whole;
    owned = g.owned;
    refer = g.refer;
    attended = g.attended;
    held = g.held;
    borrowed = g.borrowed;
    stacked = λ s o. by s o;
  }
    where
      by : (s : ℕ) → OnStack (v ∷ w.invocations) w.bodies s → IsThere w.instances s
      by s (inl (inl e)) = subst (IsThere w.instances) e h
      by s (inl (inr q)) = g.stacked s (inl q)
      by s (inr q) = g.stacked s (inr q)

  pub started : (w : World) (n : ℕ) → Good t legal w → IsThere w.instances n → Whole t legal w.instances w.next w.contexts w.temporaries w.invocations (n ∷ w.bodies)
  started w n g h = record {
    below = g.below;
    whole = g.whole;
    owned = g.owned;
    refer = g.refer;
    attended = g.attended;
    held = g.held;
    borrowed = g.borrowed;
    stacked = λ s o. by s o;
  }
    where
      by : (s : ℕ) → OnStack w.invocations (n ∷ w.bodies) s → IsThere w.instances s
      by s (inl q) = g.stacked s (inl q)
      by s (inr (inl e)) = subst (IsThere w.instances) e h
      by s (inr (inr q)) = g.stacked s (inr q)

  pub borrowing : (w : World) → Good t legal w → Whole t legal w.instances w.next w.contexts ([] ∷ w.temporaries) w.invocations w.bodies
  borrowing w g = record {
    below = g.below;
    whole = g.whole;
    owned = g.owned;
    refer = g.refer;
    attended = g.attended;
    held = g.held;
    stacked = g.stacked;
    borrowed = λ n h. by n h;
  }
    where
      by : (n : ℕ) → IsAmong n ([] ∷ w.temporaries) → IsOwned w.instances n owners.Borrower
      by n (inl h) = absurd h
      by n (inr h) = g.borrowed n h

more_busy : (i0 : Instances) (v : Invocation) (v0 : List Invocation) (b0 : List ℕ) (n : ℕ) (o : Instance) → Holds i0 v0 b0 n o → Holds i0 (v ∷ v0) b0 n o
more_busy i0 v v0 b0 n o (inl b) = inl (record { root = b.root; on = by b.on; under = b.under })
  where
    by : OnStack v0 b0 b.root → OnStack (v ∷ v0) b0 b.root
    by (inl h) = inl (inr h)
    by (inr h) = inr h
more_busy i0 v v0 b0 n o (inr d) = inr d

body_busy : (i0 : Instances) (m : ℕ) (v0 : List Invocation) (b0 : List ℕ) (n : ℕ) (o : Instance) → Holds i0 v0 b0 n o → Holds i0 v0 (m ∷ b0) n o
body_busy i0 m v0 b0 n o (inl b) = inl (record { root = b.root; on = by b.on; under = b.under })
  where
    by : OnStack v0 b0 b.root → OnStack v0 (m ∷ b0) b.root
    by (inl h) = inl h
    by (inr h) = inr (inr h)
body_busy i0 m v0 b0 n o (inr d) = inr d

module _ {t : Tables} {legal : Legal} {P : ℕ → Type 0} {S : ℕ → ℕ → Type 0} {i0 i1 : Instances} {n0 n1 : ℕ} {c1 : Contexts} where
  -- an invocation ends
  pub exited : {t0 t1 : List (List ℕ)} {b0 b1 : List ℕ} (v : Invocation) (v0 v1 : List Invocation) → AfterOf t legal P S i0 n0 t0 (v ∷ v0) b0 i1 n1 c1 t1 v1 b1 → AfterOf t legal P S i0 n0 t0 v0 b0 i1 n1 c1 t1 (below v1) b1
  exited v v0 [] a = absurd a.stack
  exited {b0 = b0} {b1 = b1} v v0 (u ∷ v1) a = record {
    good = record {
      below = a.good.below;
      whole = a.good.whole;
      owned = a.good.owned;
      refer = a.good.refer;
      attended = a.good.attended;
      held = a.good.held;
      borrowed = a.good.borrowed;
      stacked = λ s o. still s o;
    };
    keeps = λ n o p e h. a.keeps n o p e (more_busy i0 v v0 b0 n o h);
    attends = λ n o d i p e h. a.attends n o d i p e (more_busy i0 v v0 b0 n o h);
    born = a.born;
    grows = a.grows;
    stack = a.stack.1;
    running = a.running;
    level = a.level;
    under = λ s n o. a.under s n (more s o);
    back = λ s n o. a.back s n (more s o);
  }
    where
      still : (s : ℕ) → OnStack v1 b1 s → IsThere i1 s
      still s (inl h) = a.good.stacked s (inl (inr h))
      still s (inr h) = a.good.stacked s (inr h)

      more : (s : ℕ) → OnStack v0 b0 s → OnStack (v ∷ v0) b0 s
      more s (inl h) = inl (inr h)
      more s (inr h) = inr h

  -- a body ends
  pub stopped : {t0 t1 : List (List ℕ)} {v0 v1 : List Invocation} (m : ℕ) (b0 b1 : List ℕ) → AfterOf t legal P S i0 n0 t0 v0 (m ∷ b0) i1 n1 c1 t1 v1 b1 → AfterOf t legal P S i0 n0 t0 v0 b0 i1 n1 c1 t1 v1 (below b1)
  stopped m b0 [] a = absurd (let e = a.running in cc)
  stopped {v0 = v0} {v1 = v1} m b0 (k ∷ b1) a = record {
    good = record {
      below = a.good.below;
      whole = a.good.whole;
      owned = a.good.owned;
      refer = a.good.refer;
      attended = a.good.attended;
      held = a.good.held;
      borrowed = a.good.borrowed;
      stacked = λ s o. still s o;
    };
    keeps = λ n o p e h. a.keeps n o p e (body_busy i0 m v0 b0 n o h);
    attends = λ n o d i p e h. a.attends n o d i p e (body_busy i0 m v0 b0 n o h);
    born = a.born;
    grows = a.grows;
    stack = a.stack;
    running = (let e = a.running in cc);
    level = a.level;
    under = λ s n o. a.under s n (more s o);
    back = λ s n o. a.back s n (more s o);
  }
    where
      still : (s : ℕ) → OnStack v1 b1 s → IsThere i1 s
      still s (inl h) = a.good.stacked s (inl h)
      still s (inr h) = a.good.stacked s (inr (inr h))

      more : (s : ℕ) → OnStack v0 b0 s → OnStack v0 (m ∷ b0) s
      more s (inl h) = inl h
      more s (inr h) = inr (inr h)

  -- what was borrowed is given back
  pub returned : {v0 v1 : List Invocation} {b0 b1 : List ℕ} (ts : List ℕ) (t0 t1 : List (List ℕ)) → AfterOf t legal P S i0 n0 (ts ∷ t0) v0 b0 i1 n1 c1 t1 v1 b1 → AfterOf t legal P S i0 n0 t0 v0 b0 i1 n1 c1 (below t1) v1 b1
  returned ts t0 [] a = absurd a.level
  returned ts t0 (us ∷ t1) a = record {
    good = record {
      below = a.good.below;
      whole = a.good.whole;
      owned = a.good.owned;
      refer = a.good.refer;
      attended = a.good.attended;
      held = a.good.held;
      stacked = a.good.stacked;
      borrowed = λ n h. a.good.borrowed n (inr h);
    };
    keeps = a.keeps;
    attends = a.attends;
    born = a.born;
    grows = a.grows;
    stack = a.stack;
    running = a.running;
    level = a.level.1;
    under = a.under;
    back = a.back;
  }
