-- What a task leaves.
use Rattle.std.proofs.Common.{ℕ, ◌≡◌, ◌≢◌, ◌<◌, ◌≤◌, ◌⊎◌, inl, inr, List, [], ◌∷◌, Some, refl, sym, ap, ◌∙◌, subst, arith}
use Rattle.cdi_base.specs.Maps.{at}
use Rattle.cdi_store.specs.declared.instance.Component.{Component}
use Rattle.cdi_store.specs.declared.instance.Component.TheVariants as components
use Rattle.cdi_store.specs.declared.instance.Owner.{Owner}
use Rattle.cdi_store.specs.declared.instance.Phase.{Phase}
use Rattle.cdi_store.specs.declared.instance.Phase.TheVariants as phases
use Rattle.cdi_store.specs.declared.instance.Instance.{Instance}
use Rattle.cdi_store.specs.declared.references.Reference.{Reference}
use Rattle.cdi_store.specs.declared.references.Reference.TheVariants.{Direct, Proxy, Empty}
use Rattle.cdi_store.specs.Live.{Instances}
use Rattle.cdi_contexts.specs.Contexts.{Contexts}
use Rattle.cdi_machine.specs.Words.{Asked}
use Rattle.cdi_machine.specs.Tables.{Tables}
use Rattle.cdi_machine.specs.World.{World, Invocation}
use Rattle.cdi_machine.specs.Runs.{Legal}
use Rattle.cdi_ledger.specs.Whose.{IsIn}
use Rattle.cdi_whole.proofs.Whole.{Lives, Stands, Refers, IsFor, AreFor, Attends, Targets, OnStack, Under, Busy, Idle, Holds, Whole, Good}

abbrev pub Any : ℕ → Type 0
Any n = Unit {0}

abbrev pub Other : ℕ → ℕ → Type 0
Other k n = n ≢ k

abbrev pub Each : ℕ → ℕ → Type 0
Each m d = Unit {0}

-- every dependent but one
abbrev pub But : ℕ → ℕ → ℕ → Type 0
But n m d = d ≢ n

-- those of every instance but one
abbrev pub Of : ℕ → ℕ → ℕ → Type 0
Of n m d = m ≢ n

-- ---- invocations and temporaries

-- the parameters, the data and the mark may differ
pub record Same (v u : Invocation) : Type 0 where
  pub target : u.target ≡ v.target
  pub role : u.role ≡ v.role
  pub members : u.members ≡ v.members
  pub references : u.references ≡ v.references

abbrev pub Alike : List Invocation → List Invocation → Type 0
Alike [] [] = Unit {0}
Alike [] (u ∷ us) = ⊥
Alike (v ∷ vs) [] = ⊥
Alike (v ∷ vs) (u ∷ us) = Same v u × Alike vs us

pub same_self : (v : Invocation) → Same v v
same_self v = record { target = refl; role = refl; members = refl; references = refl }

pub alike_self : (vs : List Invocation) → Alike vs vs
alike_self [] = tt
alike_self (v ∷ vs) = (same_self v, alike_self vs)

same_trans : {a b c : Invocation} → Same a b → Same b c → Same a c
same_trans f g = record { target = g.target ∙ f.target; role = g.role ∙ f.role; members = g.members ∙ f.members; references = g.references ∙ f.references }

pub alike_trans : (a b c : List Invocation) → Alike a b → Alike b c → Alike a c
alike_trans [] [] c f g = g
alike_trans [] (y ∷ b) c f g = absurd f
alike_trans (x ∷ a) [] c f g = absurd f
alike_trans (x ∷ a) (y ∷ b) [] f g = absurd g
alike_trans (x ∷ a) (y ∷ b) (z ∷ c) f g = (same_trans f.0 g.0, alike_trans a b c f.1 g.1)

-- as many levels; what is in one was in it, or is new
abbrev pub Levels : ℕ → List (List ℕ) → List (List ℕ) → Type 0
Levels next [] [] = Unit {0}
Levels next [] (u ∷ us) = ⊥
Levels next (t ∷ ts) [] = ⊥
Levels next (t ∷ ts) (u ∷ us) = ((n : ℕ) → IsIn n u → IsIn n t ⊎ (next ≤ n)) × Levels next ts us

pub levels_self : (next : ℕ) (ts : List (List ℕ)) → Levels next ts ts
levels_self next [] = tt
levels_self next (t ∷ ts) = (λ n h. inl h, levels_self next ts)

pub levels_trans : (next more : ℕ) (a b c : List (List ℕ)) → next ≤ more → Levels next a b → Levels more b c → Levels next a c
levels_trans next more [] [] [] l f g = tt
levels_trans next more [] [] (z ∷ c) l f g = absurd g
levels_trans next more [] (y ∷ b) c l f g = absurd f
levels_trans next more (x ∷ a) [] c l f g = absurd f
levels_trans next more (x ∷ a) (y ∷ b) [] l f g = absurd g
levels_trans next more (x ∷ a) (y ∷ b) (z ∷ c) l f g = (λ n h. by n (g.0 n h), levels_trans next more a b c l f.1 g.1)
  where
    by : (n : ℕ) → IsIn n y ⊎ (more ≤ n) → IsIn n x ⊎ (next ≤ n)
    by n (inl h) = f.0 n h
    by n (inr h) = inr (omega arith)

-- ---- from one world to another

-- What holds in the one and of which P holds stays, with its component, owner and phase; and so do the instances of
-- interceptors among its dependents, of which S holds. No number is given again. The stack and the levels of what is temporary
-- stay, and what is busy.
pub record AfterOf (t : Tables) (legal : Legal) (P : ℕ → Type 0) (S : ℕ → ℕ → Type 0)
    (before : Instances) (first : ℕ) (had : List (List ℕ)) (vs0 : List Invocation) (bodies0 : List ℕ)
    (instances : Instances) (next : ℕ) (contexts : Contexts) (temporaries : List (List ℕ)) (vs : List Invocation) (bodies : List ℕ) : Type 0 where
  pub good : Whole t legal instances next contexts temporaries vs bodies
  pub keeps : (n : ℕ) (o : Instance) → P n → at before n ≡ Some o → Holds before vs0 bodies0 n o → Stands instances n o.component o.owner o.phase
  pub attends : (n : ℕ) (o : Instance) (d i : ℕ) → P n → at before n ≡ Some o → Holds before vs0 bodies0 n o → S n d → IsIn d o.dependents → Lives before d (components.Interceptor i)
      → (x : Instance) × (at instances n ≡ Some x) × IsIn d x.dependents × Lives instances d (components.Interceptor i)
  pub born : (n : ℕ) (x : Instance) → at instances n ≡ Some x → n < first → (o : Instance) × (at before n ≡ Some o) × (x.component ≡ o.component) × (x.phase ≡ phases.New → o.phase ≡ phases.New)
  pub grows : first ≤ next
  pub stack : Alike vs0 vs
  pub running : bodies ≡ bodies0
  pub level : Levels first had temporaries
  pub under : (s n : ℕ) → OnStack vs0 bodies0 s → Under before s n → Under instances s n
  pub back : (s n : ℕ) → OnStack vs0 bodies0 s → Under instances s n → Under before s n

abbrev pub AfterAt : Tables → Legal → (ℕ → Type 0) → (ℕ → ℕ → Type 0) → World → World → Type 0
AfterAt t legal P S w u =
    AfterOf t legal P S w.instances w.next w.temporaries w.invocations w.bodies u.instances u.next u.contexts u.temporaries u.invocations u.bodies

abbrev pub After : Tables → Legal → World → World → Type 0
After t legal w u = AfterAt t legal Any Each w u

pub after_self : (t : Tables) (legal : Legal) (P : ℕ → Type 0) (S : ℕ → ℕ → Type 0) (w : World) → Good t legal w → AfterAt t legal P S w w
after_self t legal P S w g = record {
  good = g;
  keeps = λ n o p e h. record { instance = o; there = e; of = refl; owned = refl; phase_is = refl };
  attends = λ n o d i p e h s q l. (o, e, q, l);
  born = λ n x e l. (x, e, refl, λ q. q);
  grows = omega arith;
  stack = alike_self w.invocations;
  running = refl;
  level = levels_self w.next w.temporaries;
  under = λ s n o b. b;
  back = λ s n o b. b;
}

inside : {x y : Instance} → Some x ≡ Some y → x ≡ y
inside e = cc

targets_then : (v u : List Invocation) (s : ℕ) → Alike v u → Targets s v → Targets s u
targets_then [] u s a h = absurd h
targets_then (x ∷ v) [] s a h = absurd a
targets_then (x ∷ v) (y ∷ u) s a (inl e) = inl (a.0.target ∙ e)
targets_then (x ∷ v) (y ∷ u) s a (inr h) = inr (targets_then v u s a.1 h)

targets_back : (v u : List Invocation) (s : ℕ) → Alike v u → Targets s u → Targets s v
targets_back [] [] s a h = absurd h
targets_back [] (y ∷ u) s a h = absurd a
targets_back (x ∷ v) [] s a h = absurd a
targets_back (x ∷ v) (y ∷ u) s a (inl e) = inl (sym a.0.target ∙ e)
targets_back (x ∷ v) (y ∷ u) s a (inr h) = inr (targets_back v u s a.1 h)

module _ {t : Tables} {legal : Legal} {P : ℕ → Type 0} {S : ℕ → ℕ → Type 0} {i0 i1 : Instances} {n0 n1 : ℕ} {t0 t1 : List (List ℕ)} {v0 v1 : List Invocation} {b0 b1 : List ℕ} {c1 : Contexts} (a : AfterOf t legal P S i0 n0 t0 v0 b0 i1 n1 c1 t1 v1 b1) where
  pub stack_then : (s : ℕ) → OnStack v0 b0 s → OnStack v1 b1 s
  stack_then s (inl h) = inl (targets_then v0 v1 s a.stack h)
  stack_then s (inr h) = inr (subst (IsIn s) (sym a.running) h)

  pub stack_back : (s : ℕ) → OnStack v1 b1 s → OnStack v0 b0 s
  stack_back s (inl h) = inl (targets_back v0 v1 s a.stack h)
  stack_back s (inr h) = inr (subst (IsIn s) a.running h)

  pub busy_then : (n : ℕ) → Busy i0 v0 b0 n → Busy i1 v1 b1 n
  busy_then n h = record { root = h.root; on = stack_then h.root h.on; under = a.under h.root n h.on h.under }

  pub idle_then : (n : ℕ) → Idle i0 v0 b0 n → Idle i1 v1 b1 n
  idle_then n f h = let o = stack_back h.root h.on in f (record { root = h.root; on = o; under = a.back h.root n o h.under })

  pub holds_then : (n : ℕ) (o x : Instance) → x.phase ≡ o.phase → Holds i0 v0 b0 n o → Holds i1 v1 b1 n x
  holds_then n o x e (inl b) = inl (busy_then n b)
  holds_then n o x e (inr d) = inr (λ q. d (sym e ∙ q))

module _ {t : Tables} {legal : Legal} {P : ℕ → Type 0} {S : ℕ → ℕ → Type 0} {i0 i1 i2 : Instances} {n0 n1 m n2 : ℕ} {t0 t1 t2 : List (List ℕ)} {v0 v1 v2 : List Invocation} {b0 b1 b2 : List ℕ} {c1 c2 : Contexts} where
  -- also if the second holds of fewer numbers
  pub after_on : n0 ≤ m → AfterOf t legal P S i0 n0 t0 v0 b0 i1 n1 c1 t1 v1 b1 → AfterOf t legal P S i1 m t1 v1 b1 i2 n2 c2 t2 v2 b2 → AfterOf t legal P S i0 n0 t0 v0 b0 i2 n2 c2 t2 v2 b2
  after_on first a b = record {
    good = b.good;
    keeps = λ n o p e h. (let s = a.keeps n o p e h in
        let r = b.keeps n s.instance p s.there (holds_then a n o s.instance s.phase_is h) in
        record { instance = r.instance; there = r.there; of = r.of ∙ s.of; owned = r.owned ∙ s.owned; phase_is = r.phase_is ∙ s.phase_is });
    attends = λ n o d i p e h q k l. (let s = a.keeps n o p e h in
        let x = a.attends n o d i p e h q k l in
        let same : Some s.instance ≡ Some x.0 = sym s.there ∙ x.1 in
        let is : x.0.phase ≡ o.phase = ap (λ (y : Instance). y.phase) (sym (inside same)) ∙ s.phase_is in
        b.attends n x.0 d i p x.1 (holds_then a n o x.0 is h) q x.2 x.3);
    born = λ n x e l. (let y = b.born n x e (omega arith) in
        let z = a.born n y.0 y.1 l in
        (z.0, z.1, y.2 ∙ z.2, λ q. z.3 (y.3 q)));
    grows = (let l = b.grows in omega arith);
    stack = alike_trans v0 v1 v2 a.stack b.stack;
    running = b.running ∙ a.running;
    level = levels_trans n0 m t0 t1 t2 first a.level b.level;
    under = λ s n o h. b.under s n (stack_then a s o) (a.under s n o h);
    back = λ s n o h. a.back s n o (b.back s n (stack_then a s o) h);
  }

module _ {t : Tables} {legal : Legal} {P : ℕ → Type 0} {S : ℕ → ℕ → Type 0} {i0 i1 i2 : Instances} {n0 n1 n2 : ℕ} {t0 t1 t2 : List (List ℕ)} {v0 v1 v2 : List Invocation} {b0 b1 b2 : List ℕ} {c1 c2 : Contexts} where
  pub after_trans : AfterOf t legal P S i0 n0 t0 v0 b0 i1 n1 c1 t1 v1 b1 → AfterOf t legal P S i1 n1 t1 v1 b1 i2 n2 c2 t2 v2 b2 → AfterOf t legal P S i0 n0 t0 v0 b0 i2 n2 c2 t2 v2 b2
  after_trans a b = after_on a.grows a b

module _ {t : Tables} {legal : Legal} {i0 i1 : Instances} {n0 n1 : ℕ} {t0 t1 : List (List ℕ)} {v0 v1 : List Invocation} {b0 b1 : List ℕ} {c1 : Contexts} where
  pub after_less : {P : ℕ → Type 0} {S : ℕ → ℕ → Type 0} (Q : ℕ → Type 0) (R : ℕ → ℕ → Type 0) → ((n : ℕ) → Q n → P n) → ((n d : ℕ) → Q n → R n d → S n d)
      → AfterOf t legal P S i0 n0 t0 v0 b0 i1 n1 c1 t1 v1 b1 → AfterOf t legal Q R i0 n0 t0 v0 b0 i1 n1 c1 t1 v1 b1
  after_less Q R f g a = record {
    good = a.good;
    keeps = λ n o q e h. a.keeps n o (f n q) e h;
    attends = λ n o d i q e h r k l. a.attends n o d i (f n q) e h (g n d q r) k l;
    born = a.born;
    grows = a.grows;
    stack = a.stack;
    running = a.running;
    level = a.level;
    under = a.under;
    back = a.back;
  }

-- ---- what stays

module _ {t : Tables} {legal : Legal} {P : ℕ → Type 0} {S : ℕ → ℕ → Type 0} {i0 i1 : Instances} {n0 n1 : ℕ} {t0 t1 : List (List ℕ)} {v0 v1 : List Invocation} {b0 b1 : List ℕ} {c1 : Contexts} (a : AfterOf t legal P S i0 n0 t0 v0 b0 i1 n1 c1 t1 v1 b1) where
  pub stands_then : (n : ℕ) (c : Component) (o : Owner) (p : Phase) → P n → Stands i0 n c o p → Busy i0 v0 b0 n ⊎ (p ≡ phases.Ready → ⊥) → Stands i1 n c o p
  stands_then n c o p q s h =
      let r = a.keeps n s.instance q s.there (by h) in
      record { instance = r.instance; there = r.there; of = r.of ∙ s.of; owned = r.owned ∙ s.owned; phase_is = r.phase_is ∙ s.phase_is }
    where
      by : Busy i0 v0 b0 n ⊎ (p ≡ phases.Ready → ⊥) → Holds i0 v0 b0 n s.instance
      by (inl b) = inl b
      by (inr d) = inr (λ e. d (sym s.phase_is ∙ e))

  pub lives_then : (n : ℕ) (c : Component) → P n → Lives i0 n c → Busy i0 v0 b0 n → Lives i1 n c
  lives_then n c q s h = let r = a.keeps n s.0 q s.1 (inl h) in (r.instance, r.there, r.of ∙ s.2)

  pub attends_then : (n i : ℕ) → P n → ((d : ℕ) → S n d) → Busy i0 v0 b0 n → Attends i0 n i → Attends i1 n i
  attends_then n i p s h q = let x = a.attends n q.0 q.2.0 i p q.1 (inl h) (s q.2.0) q.2.1 q.2.2 in (x.0, x.1, (q.2.0, x.2, x.3))

  pub refers_then : (b : ℕ) (r : Reference) → Refers i0 n0 b r → Refers i1 n1 b r
  refers_then b Empty h = tt
  refers_then b (Proxy c) h = h
  refers_then b (Direct n) h = ((let l = h.0 in let m = a.grows in omega arith), record { is = λ x e. (let y = a.born n x e h.0 in y.2 ∙ h.1.is y.0 y.1); made = λ x e q. (let y = a.born n x e h.0 in h.1.made y.0 y.1 (y.3 q)) })

  pub for_then : (point : Asked) (r : Reference) → IsFor t i0 n0 point r → IsFor t i1 n1 point r
  for_then point r h = record { bean = h.bean; resolves = h.resolves; refers = refers_then h.bean r h.refers }

  pub are_then : (points : List Asked) (rs : List Reference) → AreFor t i0 n0 points rs → AreFor t i1 n1 points rs
  are_then [] [] h = tt
  are_then [] (r ∷ rs) h = absurd h
  are_then (p ∷ ps) [] h = absurd h
  are_then (p ∷ ps) (r ∷ rs) h = (for_then p r h.0, are_then ps rs h.1)
