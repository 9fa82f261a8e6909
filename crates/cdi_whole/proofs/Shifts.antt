-- Worlds in which one instance comes, goes or changes its phase, and all others stay what they are.
use Rattle.std.proofs.Common.{ℕ, ◌≡◌, ◌≢◌, ◌<◌, ◌≤◌, inl, inr, List, Some, refl, sym, ap, ◌∙◌, subst, arith}
use Rattle.cdi_base.specs.Fields.{has}
use Rattle.cdi_base.specs.Maps.{at}
use Rattle.cdi_store.specs.declared.instance.Component.{Component}
use Rattle.cdi_store.specs.declared.instance.Component.TheVariants as components
use Rattle.cdi_store.specs.declared.instance.Owner.{Owner}
use Rattle.cdi_store.specs.declared.instance.Owner.TheVariants as owners
use Rattle.cdi_store.specs.declared.instance.Phase.{Phase}
use Rattle.cdi_store.specs.declared.instance.Phase.TheVariants as phases
use Rattle.cdi_store.specs.declared.instance.Instance.{Instance}
use Rattle.cdi_store.specs.declared.references.Reference.{Reference}
use Rattle.cdi_store.specs.declared.references.Reference.TheVariants.{Direct, Proxy, Empty}
use Rattle.cdi_store.specs.Live.{Instances}
use Rattle.cdi_store.proofs.Numbers.{equal_or_not}
use Rattle.cdi_contexts.specs.Contexts.{Contexts}
use Rattle.cdi_machine.specs.Words.{Name, Asked}
use Rattle.cdi_machine.specs.Tables.{Tables}
use Rattle.cdi_machine.specs.World.{World}
use Rattle.cdi_machine.specs.Runs.{Legal}
use Rattle.cdi_ledger.specs.Whose.{IsIn}
use Rattle.cdi_ledger.proofs.Lists.{Tested, IsAmong}
use Rattle.cdi_whole.proofs.Contexts.{AllContexts}
use Rattle.cdi_whole.proofs.Whole.{fields_in, injected_in, intercepted_in, Declared, IsThere, Lives, Stands, IsOwned, IsOlder, Refers, IsFor, IsAttended, OnStack, Under, Busy, HeldBy, IsWhole, Whole, Good}
use Rattle.cdi_whole.proofs.Remains.{Other, Each, But, Levels, AfterOf, alike_self}
use Rattle.cdi_whole.proofs.Busy.{under_trans, older}

-- an instance stays what it is, but for the number n among its dependents
pub record Kept (n : ℕ) (x y : Instance) : Type 0 where
  pub of : y.component ≡ x.component
  pub owned : y.owner ≡ x.owner
  pub phase_is : y.phase ≡ x.phase
  pub fields : (name : Name) → has y.fields name ≡ has x.fields name
  pub references : y.references ≡ x.references
  pub stays : (d : ℕ) → d ≢ n → IsIn d x.dependents → IsIn d y.dependents
  pub was : (d : ℕ) → d ≢ n → IsIn d y.dependents → IsIn d x.dependents

pub kept_self : (n : ℕ) (x : Instance) → Kept n x x
kept_self n x = record { of = refl; owned = refl; phase_is = refl; fields = λ name. refl; references = refl; stays = λ d a h. h; was = λ d a h. h }

-- all but n do
pub record Shift (n : ℕ) (before after : Instances) : Type 0 where
  pub forth : (k : ℕ) (x : Instance) → k ≢ n → at before k ≡ Some x → (y : Instance) × (at after k ≡ Some y) × Kept n x y
  pub back : (k : ℕ) (y : Instance) → k ≢ n → at after k ≡ Some y → (x : Instance) × (at before k ≡ Some x) × Kept n x y

module _ {n : ℕ} {before after : Instances} (f : Shift n before after) where
  pub shift_stands : {k : ℕ} {c : Component} {o : Owner} {p : Phase} → k ≢ n → Stands before k c o p → Stands after k c o p
  shift_stands {k} d s = let y = f.forth k s.instance d s.there in record { instance = y.0; there = y.1; of = y.2.of ∙ s.of; owned = y.2.owned ∙ s.owned; phase_is = y.2.phase_is ∙ s.phase_is }

  pub shift_owned : {k : ℕ} {o : Owner} → k ≢ n → IsOwned before k o → IsOwned after k o
  shift_owned d s = (s.0, shift_stands d s.1)

  pub shift_lives : (k : ℕ) (c : Component) → k ≢ n → Lives before k c → Lives after k c
  shift_lives k c d s = let y = f.forth k s.0 d s.1 in (y.0, y.1, y.2.of ∙ s.2)

-- what n was, if it was there before
abbrev pub WasBefore : ℕ → Instances → ℕ → Instance → Type 0
WasBefore n before first y = n < first → (x : Instance) × (at before n ≡ Some x) × (y.component ≡ x.component) × (y.phase ≡ phases.New → x.phase ≡ phases.New)

-- ---- whole worlds

module _ (t : Tables) (legal : Legal) (w : World) (n : ℕ) (after : Instances) (next : ℕ) (f : Shift n w.instances after) (g : Good t legal w) (grows : w.next ≤ next)
    (born : (y : Instance) → at after n ≡ Some y → WasBefore n w.instances w.next y) where
  all_born : (k : ℕ) (y : Instance) → at after k ≡ Some y → WasBefore k w.instances w.next y
  all_born k y e l = by (equal_or_not k n)
    where
      by : Tested k n → (x : Instance) × (at w.instances k ≡ Some x) × (y.component ≡ x.component) × (y.phase ≡ phases.New → x.phase ≡ phases.New)
      by (inl s) =
          let b = born y (subst (λ i. at after i ≡ Some y) s.1 e) (subst (λ i. i < w.next) s.1 l) in
          (b.0, subst (λ i. at w.instances i ≡ Some b.0) (sym s.1) b.1, b.2, b.3)
      by (inr s) = let b = f.back k y s.1 e in (b.0, b.1, b.2.of, λ q. sym b.2.phase_is ∙ q)

  refers_on : (b : ℕ) (r : Reference) → Refers w.instances w.next b r → Refers after next b r
  refers_on b Empty h = tt
  refers_on b (Proxy c) h = h
  refers_on b (Direct k) h = (
    (let l = h.0 in omega arith),
    record {
      is = λ y e. (let x = all_born k y e h.0 in x.2 ∙ h.1.is x.0 x.1);
      made = λ y e q. (let x = all_born k y e h.0 in h.1.made x.0 x.1 (x.3 q));
    },
  )

  pub for_on : (point : Asked) (r : Reference) → IsFor t w.instances w.next point r → IsFor t after next point r
  for_on point r h = record { bean = h.bean; resolves = h.resolves; refers = refers_on h.bean r h.refers }

  -- n isn't its own dependent
  not_own : (x : Instance) → at w.instances n ≡ Some x → IsIn n x.dependents → ⊥
  not_own x e h =
      let o = g.owned n x n e h in
      let l = older g n n o.1.instance o.1.there o.1.owned in
      absurd (omega arith)

  attended_on : (x y : Instance) (i : ℕ) → Kept n x y → (IsIn n x.dependents → Lives w.instances n (components.Interceptor i) → ⊥) → IsAttended w.instances x i → IsAttended after y i
  attended_on x y i k none h = by (equal_or_not h.0 n)
    where
      by : Tested h.0 n → IsAttended after y i
      by (inl s) = absurd (none (subst (λ d. IsIn d x.dependents) s.1 h.1) (subst (λ d. Lives w.instances d (components.Interceptor i)) s.1 h.2))
      by (inr s) = (h.0, k.stays h.0 s.1 h.1, shift_lives f h.0 (components.Interceptor i) s.1 h.2)

  -- what is to be shown of n
  pub record One (contexts : Contexts) (ts : List (List ℕ)) : Type 0 where
    pub below : (y : Instance) → at after n ≡ Some y → n < next
    pub whole : (y : Instance) → at after n ≡ Some y → IsWhole t legal n y
    -- who has it owns it
    pub owned : (m : ℕ) (y : Instance) → m ≢ n → at after m ≡ Some y → IsIn n y.dependents → IsOwned after n (owners.Instance m)
    -- it has no dependents that it didn't have
    pub dependents : (y : Instance) (d : ℕ) → at after n ≡ Some y → IsIn d y.dependents → (x : Instance) × (at w.instances n ≡ Some x) × IsIn d x.dependents
    pub refer : (y : Instance) (field : Name) (r : Reference) → at after n ≡ Some y → at y.references field ≡ Some r → (point : Asked) × IsIn (field, point) (injected_in t y.component) × IsFor t after next point r
    pub attended : (y : Instance) (i : ℕ) → at after n ≡ Some y → y.phase ≡ phases.Ready → IsIn i (intercepted_in t y.component) → IsAttended after y i
    -- it wasn't an interceptor that a ready instance had
    pub free : (i m : ℕ) (o : Instance) → Lives w.instances n (components.Interceptor i) → at w.instances m ≡ Some o → IsIn n o.dependents → o.phase ≡ phases.Ready → ⊥
    pub held : AllContexts (HeldBy after) contexts
    pub borrowed : (k : ℕ) → IsAmong k ts → IsOwned after k owners.Borrower
    pub stacked : OnStack w.invocations w.bodies n → IsThere after n

  pub shift_whole : (contexts : Contexts) (ts : List (List ℕ)) → One contexts ts → Whole t legal after next contexts ts w.invocations w.bodies
  shift_whole contexts ts one = record {
    below = λ k y e. below k y e (equal_or_not k n);
    whole = λ k y e. whole k y e (equal_or_not k n);
    owned = λ m y d e h. owned m y d e h (equal_or_not d n) (equal_or_not m n);
    refer = λ k y field r e q. refer k y field r e q (equal_or_not k n);
    attended = λ k y i e p h. attended k y i e p h (equal_or_not k n);
    held = one.held;
    borrowed = one.borrowed;
    stacked = λ s o. stacked s o (equal_or_not s n);
  }
    where
      below : (k : ℕ) (y : Instance) → at after k ≡ Some y → Tested k n → k < next
      below k y e (inl s) = subst (λ i. i < next) (sym s.1) (one.below y (subst (λ i. at after i ≡ Some y) s.1 e))
      below k y e (inr s) = let b = f.back k y s.1 e in let l = g.below k b.0 b.1 in omega arith

      whole : (k : ℕ) (y : Instance) → at after k ≡ Some y → Tested k n → IsWhole t legal k y
      whole k y e (inl s) = subst (λ i. IsWhole t legal i y) (sym s.1) (one.whole y (subst (λ i. at after i ≡ Some y) s.1 e))
      whole k y e (inr s) =
          let b = f.back k y s.1 e in
          let x = g.whole k b.0 b.1 in
          record {
            declared = subst (Declared t legal) (sym b.2.of) x.declared;
            fields = λ name. b.2.fields name ∙ (x.fields name ∙ ap (λ c. has (fields_in t c) name) (sym b.2.of));
            owner = subst (IsOlder k) (sym b.2.owned) x.owner;
          }

      owned : (m : ℕ) (y : Instance) (d : ℕ) → at after m ≡ Some y → IsIn d y.dependents → Tested d n → Tested m n → IsOwned after d (owners.Instance m)
      owned m y d e h (inl s) (inl q) =
          let z = one.dependents y d (subst (λ i. at after i ≡ Some y) q.1 e) h in
          absurd (not_own z.0 z.1 (subst (λ i. IsIn i z.0.dependents) s.1 z.2))
      owned m y d e h (inl s) (inr q) = subst (λ i. IsOwned after i (owners.Instance m)) (sym s.1) (one.owned m y q.1 e (subst (λ i. IsIn i y.dependents) s.1 h))
      owned m y d e h (inr s) (inl q) =
          let z = one.dependents y d (subst (λ i. at after i ≡ Some y) q.1 e) h in
          subst (λ i. IsOwned after d (owners.Instance i)) (sym q.1) (shift_owned f s.1 (g.owned n z.0 d z.1 z.2))
      owned m y d e h (inr s) (inr q) = let b = f.back m y q.1 e in shift_owned f s.1 (g.owned m b.0 d b.1 (b.2.was d s.1 h))

      refer : (k : ℕ) (y : Instance) (field : Name) (r : Reference) → at after k ≡ Some y → at y.references field ≡ Some r → Tested k n → (point : Asked) × IsIn (field, point) (injected_in t y.component) × IsFor t after next point r
      refer k y field r e q (inl s) = one.refer y field r (subst (λ i. at after i ≡ Some y) s.1 e) q
      refer k y field r e q (inr s) =
          let b = f.back k y s.1 e in
          let x = g.refer k b.0 field r b.1 (ap (λ rs. at rs field) (sym b.2.references) ∙ q) in
          (x.0, subst (λ c. IsIn (field, x.0) (injected_in t c)) (sym b.2.of) x.1, for_on x.0 r x.2)

      attended : (k : ℕ) (y : Instance) (i : ℕ) → at after k ≡ Some y → y.phase ≡ phases.Ready → IsIn i (intercepted_in t y.component) → Tested k n → IsAttended after y i
      attended k y i e p h (inl s) = one.attended y i (subst (λ j. at after j ≡ Some y) s.1 e) p h
      attended k y i e p h (inr s) =
          let b = f.back k y s.1 e in
          let r : b.0.phase ≡ phases.Ready = sym b.2.phase_is ∙ p in
          attended_on b.0 y i b.2 (λ q l. one.free i k b.0 l b.1 q r) (g.attended k b.0 i b.1 r (subst (λ c. IsIn i (intercepted_in t c)) b.2.of h))

      stacked : (s : ℕ) → OnStack w.invocations w.bodies s → Tested s n → IsThere after s
      stacked s o (inl q) = subst (IsThere after) (sym q.1) (one.stacked (subst (OnStack w.invocations w.bodies) q.1 o))
      stacked s o (inr q) = let x = g.stacked s o in let y = f.forth s x.0 q.1 x.1 in (y.0, y.1)

  -- ---- the stack

  -- the path from what is on the stack doesn't change at n
  pub record Path : Type 0 where
    pub forth : (x : Instance) → Busy w.instances w.invocations w.bodies n → at w.instances n ≡ Some x → (y : Instance) × (at after n ≡ Some y) × (y.owner ≡ x.owner) × ((x.phase ≡ phases.Leaving → ⊥) → y.phase ≡ phases.Leaving → ⊥)
    pub back : (y : Instance) → Busy w.instances w.invocations w.bodies n → at after n ≡ Some y → (x : Instance) × (at w.instances n ≡ Some x) × (y.owner ≡ x.owner) × ((y.phase ≡ phases.Leaving → ⊥) → x.phase ≡ phases.Leaving → ⊥)

  module _ (path : Path) (root : ℕ) (on : OnStack w.invocations w.bodies root) where
    busy : (k : ℕ) → Under w.instances root k → Busy w.instances w.invocations w.bodies k
    busy k u = record { root = root; on = on; under = u }

    step_forth : (k : ℕ) (x : Instance) → Under w.instances root k → at w.instances k ≡ Some x → (x.phase ≡ phases.Leaving → ⊥) → (y : Instance) × (at after k ≡ Some y) × (y.owner ≡ x.owner) × (y.phase ≡ phases.Leaving → ⊥)
    step_forth k x u e d = by (equal_or_not k n)
      where
        by : Tested k n → (y : Instance) × (at after k ≡ Some y) × (y.owner ≡ x.owner) × (y.phase ≡ phases.Leaving → ⊥)
        by (inl s) =
            let z = path.forth x (subst (Busy w.instances w.invocations w.bodies) s.1 (busy k u)) (subst (λ i. at w.instances i ≡ Some x) s.1 e) in
            (z.0, subst (λ i. at after i ≡ Some z.0) (sym s.1) z.1, z.2, z.3 d)
        by (inr s) = let z = f.forth k x s.1 e in (z.0, z.1, z.2.owned, λ q. d (sym z.2.phase_is ∙ q))

    step_back : (k : ℕ) (y : Instance) → Under w.instances root k → at after k ≡ Some y → (y.phase ≡ phases.Leaving → ⊥) → (x : Instance) × (at w.instances k ≡ Some x) × (y.owner ≡ x.owner) × (x.phase ≡ phases.Leaving → ⊥)
    step_back k y u e d = by (equal_or_not k n)
      where
        by : Tested k n → (x : Instance) × (at w.instances k ≡ Some x) × (y.owner ≡ x.owner) × (x.phase ≡ phases.Leaving → ⊥)
        by (inl s) =
            let z = path.back y (subst (Busy w.instances w.invocations w.bodies) s.1 (busy k u)) (subst (λ i. at after i ≡ Some y) s.1 e) in
            (z.0, subst (λ i. at w.instances i ≡ Some z.0) (sym s.1) z.1, z.2, z.3 d)
        by (inr s) = let z = f.back k y s.1 e in (z.0, z.1, z.2.owned, λ q. d (z.2.phase_is ∙ q))

    under_forth : {s m : ℕ} → Under w.instances s m → Under w.instances root s → Under after s m
    under_forth Under.self u = Under.self
    under_forth (Under.up {m = s} {k = j} x e d o p) u =
        let z = step_forth s x u e d in
        Under.up z.0 z.1 z.3 (z.2 ∙ o) (under_forth p (under_trans u (Under.up x e d o Under.self)))

    under_back : {s m : ℕ} → Under after s m → Under w.instances root s → Under w.instances s m
    under_back Under.self u = Under.self
    under_back (Under.up {m = s} {k = j} y e d o p) u =
        let z = step_back s y u e d in
        Under.up z.0 z.1 z.3 (sym z.2 ∙ o) (under_back p (under_trans u (Under.up z.0 z.1 z.3 (sym z.2 ∙ o) Under.self)))

  -- ---- what is left

  pub shift_after : (first : ℕ) → first ≤ w.next → (contexts : Contexts) (ts : List (List ℕ)) → One contexts ts → Path → Levels first w.temporaries ts
      → AfterOf t legal (Other n) (But n) w.instances first w.temporaries w.invocations w.bodies after next contexts ts w.invocations w.bodies
  shift_after first low contexts ts one path level = record {
    good = shift_whole contexts ts one;
    keeps = λ k o p e h. (let y = f.forth k o p e in record { instance = y.0; there = y.1; of = y.2.of; owned = y.2.owned; phase_is = y.2.phase_is });
    attends = λ k o d i p e h s q l. (let y = f.forth k o p e in (y.0, y.1, y.2.stays d s q, shift_lives f d (components.Interceptor i) s l));
    born = λ k y e l. all_born k y e (omega arith);
    grows = omega arith;
    stack = alike_self w.invocations;
    running = refl;
    level = level;
    under = λ s m o u. under_forth path s o u Under.self;
    back = λ s m o u. under_back path s o u Under.self;
  }

  -- if nothing had it, each interceptor stays
  pub shift_each : (first : ℕ) → first ≤ w.next → (contexts : Contexts) (ts : List (List ℕ)) → One contexts ts → Path → Levels first w.temporaries ts → ((m : ℕ) (o : Instance) → at w.instances m ≡ Some o → IsIn n o.dependents → ⊥)
      → AfterOf t legal (Other n) Each w.instances first w.temporaries w.invocations w.bodies after next contexts ts w.invocations w.bodies
  shift_each first low contexts ts one path level none =
      let a = shift_after first low contexts ts one path level in
      record {
        good = a.good;
        keeps = a.keeps;
        attends = λ k o d i p e h s q l. a.attends k o d i p e h (apart k o d e q) q l;
        born = a.born;
        grows = a.grows;
        stack = a.stack;
        running = a.running;
        level = a.level;
        under = a.under;
        back = a.back;
      }
    where
      apart : (k : ℕ) (o : Instance) (d : ℕ) → at w.instances k ≡ Some o → IsIn d o.dependents → d ≢ n
      apart k o d e q s = none k o e (subst (λ i. IsIn i o.dependents) s q)
