-- What the changes of a world do to it.
use Rattle.std.proofs.Common.{ℕ, ◌+◌, ◌≡◌, ◌≢◌, ◌≤◌, ◌⊎◌, inl, inr, List, [], ◌∷◌, ◌++◌, Option, Some, None, refl, sym, ap, ◌∙◌, subst, arith}
use Rattle.std.specs.Prelude.{map}
use Rattle.cdi_base.specs.Fields.{has}
use Rattle.cdi_base.specs.Maps.{at, without}
use Rattle.cdi_store.specs.declared.instance.Component.{Component}
use Rattle.cdi_store.specs.declared.instance.Component.TheVariants as components
use Rattle.cdi_store.specs.declared.instance.Context.{Context}
use Rattle.cdi_store.specs.declared.instance.Owner.{Owner}
use Rattle.cdi_store.specs.declared.instance.Owner.TheVariants as owners
use Rattle.cdi_store.specs.declared.instance.Phase.{Phase}
use Rattle.cdi_store.specs.declared.instance.Phase.TheVariants as phases
use Rattle.cdi_store.specs.declared.instance.Instance.{Instance}
use Rattle.cdi_store.specs.Live.{Instances, newborn, with_newborn, in_phase, with_dependent, without_dependent, for_owner, all_but}
use Rattle.cdi_store.proofs.Numbers.{equal_or_not}
use Rattle.cdi_contexts.specs.declared.context.Held.TheVariants.{Making, Is}
use Rattle.cdi_contexts.specs.Contexts.{Contexts, active_with, active_without, with_held, with_nothing}
use Rattle.cdi_machine.specs.Words.{Name, Fields}
use Rattle.cdi_machine.specs.Tables.{Tables}
use Rattle.cdi_machine.specs.World.{World, Change, after_change, instance_at, for_instance, with_owned, without_owned, without_making, with_making, with_instances, on_top}
use Rattle.cdi_machine.specs.Runs.{Legal}
use Rattle.cdi_ledger.specs.Whose.{IsIn}
use Rattle.cdi_ledger.proofs.Maps.{at_added, at_before, at_gone, at_left}
use Rattle.cdi_ledger.proofs.Lists.{Tested, in_either, in_left, IsAmong, among_either, among_left}
use Rattle.cdi_ledger.proofs.Holdings.{all_held_put, all_held_left}
use Rattle.cdi_whole.proofs.Contexts.{AllContexts, contexts_map, context_changed}
use Rattle.cdi_whole.proofs.Whole.{fields_in, injected_in, intercepted_in, Declared, IsThere, Lives, Stands, IsOwned, IsOlder, IsOnly, IsFor, IsAttended, Attends, OnStack, Busy, Idle, IsFree, HeldBy, IsWhole, Whole, Good}
use Rattle.cdi_whole.proofs.Remains.{Any, Other, Each, But, Levels, AfterOf, AfterAt, After, levels_self}
use Rattle.cdi_whole.proofs.Busy.{busy_below, older}
use Rattle.cdi_whole.proofs.Terms.{IdleIn}
use Rattle.cdi_whole.proofs.Moves.{IsAdopted, Makes, Settles, Discards, Leaves, Removes}
use Rattle.cdi_whole.proofs.Passing.{IsLike, Passed, Passes, Owns, ready_among, join_passes, left_among, part_passes}
use Rattle.cdi_whole.proofs.Shifts.{Kept, kept_self, Shift, shift_stands, shift_owned, shift_lives, WasBefore, One, Path, for_on, shift_after, shift_each}

none_at : (t : Tables) (legal : Legal) (w : World) → Good t legal w → (x : Option Instance) → at w.instances w.next ≡ x → x ≡ None
none_at t legal w g None e = refl
none_at t legal w g (Some o) e = absurd (let l = g.below w.next o e in omega arith)

-- the number is another where the phases differ
other_phase : {instances : Instances} {k n : ℕ} {c d : Component} {o r : Owner} {p q : Phase} → Stands instances k c o p → Stands instances n d r q → (p ≡ q → ⊥) → k ≢ n
other_phase {instances} {k} {n} s z f e =
    let x : at instances n ≡ Some s.instance = subst (λ i. at instances i ≡ Some s.instance) e s.there in
    let y : Some s.instance ≡ Some z.instance = sym x ∙ z.there in
    let v : s.instance ≡ z.instance = cc in
    f (sym s.phase_is ∙ (ap (λ (i : Instance). i.phase) v ∙ z.phase_is))

same_component : {instances : Instances} {k n : ℕ} {c d : Component} {o r : Owner} {p q : Phase} → Stands instances k c o p → Stands instances n d r q → k ≡ n → c ≡ d
same_component {instances} {k} {n} s z e =
    let x : at instances n ≡ Some s.instance = subst (λ i. at instances i ≡ Some s.instance) e s.there in
    let y : Some s.instance ≡ Some z.instance = sym x ∙ z.there in
    let v : s.instance ≡ z.instance = cc in
    sym s.of ∙ (ap (λ (i : Instance). i.component) v ∙ z.of)

same_owner : {instances : Instances} {k n : ℕ} {c d : Component} {o r : Owner} {p q : Phase} → Stands instances k c o p → Stands instances n d r q → k ≡ n → o ≡ r
same_owner {instances} {k} {n} s z e =
    let x : at instances n ≡ Some s.instance = subst (λ i. at instances i ≡ Some s.instance) e s.there in
    let y : Some s.instance ≡ Some z.instance = sym x ∙ z.there in
    let v : s.instance ≡ z.instance = cc in
    sym s.owned ∙ (ap (λ (i : Instance). i.owner) v ∙ z.owned)

ready_new : phases.Ready ≡ phases.New → ⊥
ready_new e = cc

ready_leaving : phases.Ready ≡ phases.Leaving → ⊥
ready_leaving e = cc

-- ---- one more

module _ (t : Tables) (legal : Legal) (w : World) (component : Component) (owner : Owner) (fields : Fields) (g : Good t legal w) (declared : Declared t legal component) (old : IsOlder w.next owner)
    (same : (name : Name) → has fields name ≡ has (fields_in t component) name) where
  abbrev new_one : Instance
  new_one = newborn component owner fields

  abbrev more : Instances
  more = with_newborn w.next component owner fields w.instances

  there : at more w.next ≡ Some new_one
  there = at_added w.instances w.next new_one (none_at t legal w g (at w.instances w.next) refl)

  is_new : (y : Instance) → at more w.next ≡ Some y → new_one ≡ y
  is_new y e = let q : Some new_one ≡ Some y = sym there ∙ e in cc

  abbrev shift : Shift w.next w.instances more
  shift = record {
    forth = λ k x d e. (x, at_before w.instances w.next k new_one d ∙ e, kept_self w.next x);
    back = λ k y d e. (y, sym (at_before w.instances w.next k new_one d) ∙ e, kept_self w.next y);
  }

  old_number : (k : ℕ) (o : Instance) → at w.instances k ≡ Some o → k ≢ w.next
  old_number k o e q = let l = g.below k o e in omega arith

  not_dependent : (m : ℕ) (o : Instance) → at w.instances m ≡ Some o → IsIn w.next o.dependents → ⊥
  not_dependent m o e h = let q = g.owned m o w.next e h in old_number w.next q.1.instance q.1.there refl

  grows : w.next ≤ w.next + 1
  grows = omega arith

  never : (y : Instance) → at more w.next ≡ Some y → WasBefore w.next w.instances w.next y
  never y e l = absurd (omega arith)

  abbrev OneMore : Contexts → Type 0
  OneMore contexts = One t legal w w.next more (w.next + 1) shift g grows never contexts w.temporaries

  one_more : (contexts : Contexts) → AllContexts (HeldBy more) contexts → OneMore contexts
  one_more contexts held = record {
    below = λ y e. omega arith;
    whole = λ y e. subst (IsWhole t legal w.next) (is_new y e) (record { declared = declared; fields = same; owner = old });
    owned = λ m y d e h. (let b = shift.back m y d e in absurd (not_dependent m b.0 b.1 h));
    dependents = λ y d e h. absurd (subst (λ (x : Instance). IsIn d x.dependents) (sym (is_new y e)) h);
    refer = λ y field r e q. (let z : at new_one.references field ≡ Some r = subst (λ (x : Instance). at x.references field ≡ Some r) (sym (is_new y e)) q in absurd (cc));
    attended = λ y i e p h. absurd (let z : phases.New ≡ phases.Ready = ap (λ (x : Instance). x.phase) (is_new y e) ∙ p in cc);
    free = λ i m o l e h r. not_dependent m o e h;
    held = held;
    borrowed = λ k h. (let q = g.borrowed k h in shift_owned shift (old_number k q.1.instance q.1.there) q);
    stacked = λ o. (let s = g.stacked w.next o in absurd (old_number w.next s.0 s.1 refl));
  }

  one_path : Path t legal w w.next more (w.next + 1) shift g grows never
  one_path = record {
    forth = λ x b e. absurd (let l = busy_below g w.next b in omega arith);
    back = λ y b e. absurd (let l = busy_below g w.next b in omega arith);
  }

  held_more : AllContexts (HeldBy more) w.contexts
  held_more = contexts_map (HeldBy w.instances) (HeldBy more) w.contexts (λ k b n s. shift_stands shift (old_number n s.instance s.there) s) g.held

  abbrev MadeIn : World → Type 0
  MadeIn u = AfterAt t legal (Other w.next) Each w u × Stands u.instances w.next component owner phases.New

  stands : Stands more w.next component owner phases.New
  stands = record { instance = new_one; there = there; of = refl; owned = refl; phase_is = refl }

  made_in : (contexts : Contexts) → AllContexts (HeldBy more) contexts → AfterOf t legal (Other w.next) Each w.instances w.next w.temporaries w.invocations w.bodies more (w.next + 1) contexts w.temporaries w.invocations w.bodies
  made_in contexts held = shift_each t legal w w.next more (w.next + 1) shift g grows never w.next (omega arith) contexts w.temporaries (one_more contexts held) one_path (levels_self w.next w.temporaries) not_dependent

  held_making : (c : Context) (b : ℕ) → AllContexts (HeldBy more) (with_held b Making c w.contexts)
  held_making c b = context_changed (HeldBy more) (HeldBy more) w.contexts c (active_with b Making) (λ j b n d q. q) (λ a h. all_held_put (HeldBy more c) (Some a) b Making tt h) held_more

makes_fresh : (t : Tables) (legal : Legal) (w : World) → Good t legal w → {i1 : Instances} {n1 : ℕ} {c1 : Contexts} {t1 : List (List ℕ)} {v1 : List Rattle.cdi_machine.specs.World.Invocation} {b1 : List ℕ}
    → AfterOf t legal (Other w.next) Each w.instances w.next w.temporaries w.invocations w.bodies i1 n1 c1 t1 v1 b1 → AfterOf t legal Any Each w.instances w.next w.temporaries w.invocations w.bodies i1 n1 c1 t1 v1 b1
makes_fresh t legal w g a = record {
  good = a.good;
  keeps = λ n o p e h. a.keeps n o (old n o e) e h;
  attends = λ n o d i p e h s k l. a.attends n o d i (old n o e) e h s k l;
  born = a.born;
  grows = a.grows;
  stack = a.stack;
  running = a.running;
  level = a.level;
  under = a.under;
  back = a.back;
}
  where
    old : (n : ℕ) (o : Instance) → at w.instances n ≡ Some o → n ≢ w.next
    old n o e q = let l = g.below n o e in omega arith

pub makes : (t : Tables) (legal : Legal) → Makes t legal
makes t legal w component owner fields g declared old same = by owner component declared old same
  where
    by : (owner : Owner) (component : Component) (declared : Declared t legal component) (old : IsOlder w.next owner) (same : (name : Name) → has fields name ≡ has (fields_in t component) name)
        → After t legal w (after_change (Change.Make component owner fields) w) × Stands (after_change (Change.Make component owner fields) w).instances w.next component owner phases.New
    by (owners.Context c) (components.Bean b) d l s = (makes_fresh t legal w g (made_in t legal w (components.Bean b) (owners.Context c) fields g d l s (with_held b Making c w.contexts) (held_making t legal w (components.Bean b) (owners.Context c) fields g d l s c b)), stands t legal w (components.Bean b) (owners.Context c) fields g d l s)
    by (owners.Context c) (components.Interceptor i) d l s = (makes_fresh t legal w g (made_in t legal w (components.Interceptor i) (owners.Context c) fields g d l s w.contexts (held_more t legal w (components.Interceptor i) (owners.Context c) fields g d l s)), stands t legal w (components.Interceptor i) (owners.Context c) fields g d l s)
    by (owners.Instance m) component d l s = (makes_fresh t legal w g (made_in t legal w component (owners.Instance m) fields g d l s w.contexts (held_more t legal w component (owners.Instance m) fields g d l s)), stands t legal w component (owners.Instance m) fields g d l s)
    by owners.Borrower component d l s = (makes_fresh t legal w g (made_in t legal w component owners.Borrower fields g d l s w.contexts (held_more t legal w component owners.Borrower fields g d l s)), stands t legal w component owners.Borrower fields g d l s)

-- ---- one less

module _ (t : Tables) (legal : Legal) (w : World) (n : ℕ) (component : Component) (owner : Owner) (phase : Phase) (g : Good t legal w) (s : Stands w.instances n component owner phase) (unready : phases.Ready ≡ phase → ⊥) (idle : IdleIn w n) where
  abbrev less : Instances
  less = without n w.instances

  gone : (y : Instance) → at less n ≡ Some y → ⊥
  gone y e = let z : None ≡ Some y = sym (at_gone w.instances n) ∙ e in cc

  abbrev shift_less : Shift n w.instances less
  shift_less = record {
    forth = λ k x d e. (x, at_left w.instances n k d ∙ e, kept_self n x);
    back = λ k y d e. (y, sym (at_left w.instances n k d) ∙ e, kept_self n y);
  }

  nobody : (m : ℕ) (o : Instance) → at w.instances m ≡ Some o → IsIn n o.dependents → ⊥
  nobody m o e h = let q = g.owned m o n e h in other_phase q.1 s unready refl

  apart : (k : ℕ) (c : Component) (o : Owner) → Stands w.instances k c o phases.Ready → k ≢ n
  apart k c o q = other_phase q s unready

  abbrev still : w.next ≤ w.next
  still = omega arith

  were : (y : Instance) → at less n ≡ Some y → WasBefore n w.instances w.next y
  were y e l = absurd (gone y e)

  one_less : (contexts : Contexts) → AllContexts (HeldBy less) contexts → One t legal w n less w.next shift_less g still were contexts w.temporaries
  one_less contexts held = record {
    below = λ y e. absurd (gone y e);
    whole = λ y e. absurd (gone y e);
    owned = λ m y d e h. (let b = shift_less.back m y d e in absurd (nobody m b.0 b.1 h));
    dependents = λ y d e h. absurd (gone y e);
    refer = λ y field r e q. absurd (gone y e);
    attended = λ y i e p h. absurd (gone y e);
    free = λ i m o l e h r. nobody m o e h;
    held = held;
    borrowed = λ k h. (let q = g.borrowed k h in shift_owned shift_less (apart k q.0 owners.Borrower q.1) q);
    stacked = λ o. absurd (idle (record { root = n; on = o; under = Rattle.cdi_whole.proofs.Whole.Under.self }));
  }

  path_less : Path t legal w n less w.next shift_less g still were
  path_less = record { forth = λ x b e. absurd (idle b); back = λ y b e. absurd (idle b) }

  held_less : AllContexts (HeldBy less) w.contexts
  held_less = contexts_map (HeldBy w.instances) (HeldBy less) w.contexts (λ k b m q. shift_stands shift_less (apart m (components.Bean b) (owners.Context k) q) q) g.held

  less_in : (contexts : Contexts) → AllContexts (HeldBy less) contexts → AfterOf t legal (Other n) Each w.instances w.next w.temporaries w.invocations w.bodies less w.next contexts w.temporaries w.invocations w.bodies
  less_in contexts held = shift_each t legal w n less w.next shift_less g still were w.next (omega arith) contexts w.temporaries (one_less contexts held) path_less (levels_self w.next w.temporaries) nobody

  held_nothing : (c : Context) (b : ℕ) → AllContexts (HeldBy less) (with_nothing b c w.contexts)
  held_nothing c b = context_changed (HeldBy less) (HeldBy less) w.contexts c (active_without b) (λ j b n d q. q) (λ a h. all_held_left (HeldBy less c) (HeldBy less c) (Some a) b (λ o m d q. q) h) held_less

pub removes : (t : Tables) (legal : Legal) → Removes t legal
removes t legal w n component owner g s idle = less_in t legal w n component owner phases.Leaving g s ready_leaving idle w.contexts (held_less t legal w n component owner phases.Leaving g s ready_leaving idle)

discarded_is : (w : World) (n : ℕ) (o : Instance) → instance_at w n ≡ Some o → after_change (Change.Discard n) w ≡ without_making o.component o.owner (with_instances (without n) w)
discarded_is w n o e = subst (λ x. for_instance w x (λ y. without_making y.component y.owner (with_instances (without n) w)) ≡ without_making o.component o.owner (with_instances (without n) w)) (sym e) refl

pub discards : (t : Tables) (legal : Legal) → Discards t legal
discards t legal w n component owner g s idle =
    subst (AfterAt t legal (Other n) Each w) (sym (discarded_is w n s.instance s.there))
    (subst (λ c. AfterAt t legal (Other n) Each w (without_making c s.instance.owner (with_instances (without n) w))) (sym s.of)
    (subst (λ x. AfterAt t legal (Other n) Each w (without_making component x (with_instances (without n) w))) (sym s.owned) (by owner component s)))
  where
    by : (x : Owner) (c : Component) → Stands w.instances n c x phases.New → AfterAt t legal (Other n) Each w (without_making c x (with_instances (without n) w))
    by (owners.Context k) (components.Bean b) s = less_in t legal w n (components.Bean b) (owners.Context k) phases.New g s ready_new idle (with_nothing b k w.contexts) (held_nothing t legal w n (components.Bean b) (owners.Context k) phases.New g s ready_new idle k b)
    by (owners.Context k) (components.Interceptor i) s = less_in t legal w n (components.Interceptor i) (owners.Context k) phases.New g s ready_new idle w.contexts (held_less t legal w n (components.Interceptor i) (owners.Context k) phases.New g s ready_new idle)
    by (owners.Instance m) c s = less_in t legal w n c (owners.Instance m) phases.New g s ready_new idle w.contexts (held_less t legal w n c (owners.Instance m) phases.New g s ready_new idle)
    by owners.Borrower c s = less_in t legal w n c owners.Borrower phases.New g s ready_new idle w.contexts (held_less t legal w n c owners.Borrower phases.New g s ready_new idle)

-- ---- one that passes to another phase

pub shift_of : {n : ℕ} {p : Phase} {H : ℕ → Type 0} {before after : Instances} → Passes n p H before after → Shift n before after
shift_of {n} {p} {H} {before} {after} f = record {
  forth = λ k x d e. (let y = f.forth k x e in (y.0, y.1, kept k x y.0 d y.2));
  back = λ k y d e. (let x = f.back k y e in (x.0, x.1, kept k x.0 y d x.2));
}
  where
    kept : (k : ℕ) (x y : Instance) → k ≢ n → Passed n p H k x y → Kept n x y
    kept k x y d q = record { of = q.alike.of; owned = q.alike.owned; phase_is = q.phase_is d; fields = q.alike.fields; references = q.references; stays = q.stays; was = q.was }

whole_like : (t : Tables) (legal : Legal) (n : ℕ) (x y : Instance) → IsLike x y → IsWhole t legal n x → IsWhole t legal n y
whole_like t legal n x y k h = record {
  declared = subst (Declared t legal) (sym k.of) h.declared;
  fields = λ name. k.fields name ∙ (h.fields name ∙ ap (λ c. has (fields_in t c) name) (sym k.of));
  owner = subst (IsOlder n) (sym k.owned) h.owner;
}

module _ (t : Tables) (legal : Legal) (w : World) (n : ℕ) (component : Component) (owner : Owner) (before : Phase) (p : Phase) (H : ℕ → Type 0) (after : Instances) (g : Good t legal w) (s : Stands w.instances n component owner before)
    (f : Passes n p H w.instances after) (h : (m : ℕ) → H m → owner ≡ owners.Instance m) (made : p ≡ phases.New → ⊥) where
  abbrev pub turned : Shift n w.instances after
  turned = shift_of f

  here : (x : Instance) → at w.instances n ≡ Some x → x ≡ s.instance
  here x e = let q : Some x ≡ Some s.instance = sym e ∙ s.there in cc

  pub now : Stands after n component owner p
  now = let q = f.forth n s.instance s.there in record { instance = q.0; there = q.1; of = q.2.alike.of ∙ s.of; owned = q.2.alike.owned ∙ s.owned; phase_is = q.2.passed refl }

  abbrev pub even : w.next ≤ w.next
  even = omega arith

  pub before_it : (y : Instance) → at after n ≡ Some y → WasBefore n w.instances w.next y
  before_it y e l = let x = f.back n y e in (x.0, x.1, x.2.alike.of, λ q. absurd (made (sym (x.2.passed refl) ∙ q)))

  -- it isn't among its own dependents
  own : (y : Instance) → at after n ≡ Some y → IsIn n y.dependents → ⊥
  own y e q =
      let x = f.back n y e in
      let o = h n (x.2.has q) in
      let l = older g n n s.instance s.there (s.owned ∙ o) in
      absurd (omega arith)

  pub turn_one : (contexts : Contexts) (ts : List (List ℕ)) → AllContexts (HeldBy after) contexts → ((k : ℕ) → IsAmong k ts → IsOwned after k owners.Borrower)
      → (p ≡ phases.Ready ⊎ ((m : ℕ) → H m → ⊥)) → IsFree w.instances n → ((i : ℕ) → p ≡ phases.Ready → IsIn i (intercepted_in t component) → (y : Instance) → at after n ≡ Some y → IsAttended after y i)
      → One t legal w n after w.next turned g even before_it contexts ts
  turn_one contexts ts held borrowed way free attended = record {
    below = λ y e. g.below n s.instance s.there;
    whole = λ y e. (let x = f.back n y e in whole_like t legal n x.0 y x.2.alike (g.whole n x.0 x.1));
    owned = λ m y d e q. (let x = f.back m y e in owned m (x.2.has q) way);
    dependents = λ y d e q. dependents y d e q (equal_or_not d n);
    refer = λ y field r e q. (let x = f.back n y e in
        let z = g.refer n x.0 field r x.1 (ap (λ rs. at rs field) (sym x.2.references) ∙ q) in
        (z.0, subst (λ c. IsIn (field, z.0) (injected_in t c)) (sym x.2.alike.of) z.1, for_on t legal w n after w.next turned g even before_it z.0 r z.2));
    attended = λ y i e q k. (let x = f.back n y e in
        attended i (sym (x.2.passed refl) ∙ q) (subst (λ c. IsIn i (intercepted_in t c)) (x.2.alike.of ∙ (ap (λ (o : Instance). o.component) (here x.0 x.1) ∙ s.of)) k) y e);
    free = free;
    held = held;
    borrowed = borrowed;
    stacked = λ o. (now.instance, now.there);
  }
    where
      owned : (m : ℕ) → H m → (p ≡ phases.Ready) ⊎ ((m : ℕ) → H m → ⊥) → IsOwned after n (owners.Instance m)
      owned m q (inl r) = (component, record { instance = now.instance; there = now.there; of = now.of; owned = now.owned ∙ h m q; phase_is = now.phase_is ∙ r })
      owned m q (inr k) = absurd (k m q)

      dependents : (y : Instance) (d : ℕ) → at after n ≡ Some y → IsIn d y.dependents → Tested d n → (x : Instance) × (at w.instances n ≡ Some x) × IsIn d x.dependents
      dependents y d e q (inl r) = absurd (own y e (subst (λ i. IsIn i y.dependents) r.1 q))
      dependents y d e q (inr r) = let x = f.back n y e in (x.0, x.1, x.2.was d r.1 q)

-- what was borrowed or is new
levels_added : (n : ℕ) (ts : List (List ℕ)) → Levels n ts (on_top (λ ns. ns ++ n ∷ []) ts)
levels_added n [] = tt
levels_added n (x ∷ ts) = ((λ k h. by k (in_either k n x h)), levels_self n ts)
  where
    by : (k : ℕ) → IsIn k x ⊎ (n ≡ k) → IsIn k x ⊎ (n ≤ k)
    by k (inl q) = inl q
    by k (inr e) = inr (let q = e in omega arith)

levels_fewer : (next n : ℕ) (ts : List (List ℕ)) → Levels next ts (map (all_but n) ts)
levels_fewer next n [] = tt
levels_fewer next n (x ∷ ts) = ((λ k h. (let q = in_left k n x h in inl q.1)), levels_fewer next n ts)

owner_of : (owner : Owner) (m : ℕ) → Owns owner m → owner ≡ owners.Instance m
owner_of (owners.Context c) m h = absurd h
owner_of (owners.Instance k) m h = ap owners.Instance h
owner_of owners.Borrower m h = absurd h

-- ---- ready

module _ (t : Tables) (legal : Legal) (w : World) (n : ℕ) (component : Component) (owner : Owner) (g : Good t legal w) (s : Stands w.instances n component owner phases.New)
    (attend : (i : ℕ) → IsIn i (intercepted_in t component) → Attends w.instances n i) where
  abbrev ready : Instances
  ready = ready_among n owner w.instances

  nobody_has : (m : ℕ) (o : Instance) → at w.instances m ≡ Some o → IsIn n o.dependents → ⊥
  nobody_has m o e h = let q = g.owned m o n e h in other_phase q.1 s ready_new refl

  pass : Passes n phases.Ready (Owns owner) w.instances ready
  pass = join_passes n owner w.instances nobody_has

  apart_ready : (k : ℕ) (c : Component) (o : Owner) → Stands w.instances k c o phases.Ready → k ≢ n
  apart_ready k c o q = other_phase q s ready_new

  not_made : phases.Ready ≡ phases.New → ⊥
  not_made e = cc

  abbrev step : Shift n w.instances ready
  step = turned t legal w n component owner phases.New phases.Ready (Owns owner) ready g s pass (owner_of owner) not_made

  is_ready : Stands ready n component owner phases.Ready
  is_ready = now t legal w n component owner phases.New phases.Ready (Owns owner) ready g s pass (owner_of owner) not_made

  attended_then : (i : ℕ) → phases.Ready ≡ phases.Ready → IsIn i (intercepted_in t component) → (y : Instance) → at ready n ≡ Some y → IsAttended ready y i
  attended_then i p h y e =
      let a = attend i h in
      let b = pass.back n y e in
      let q : Some a.0 ≡ Some b.0 = sym a.1 ∙ b.1 in
      let r : a.0 ≡ b.0 = cc in
      let k = a.2 in
      let in_b : IsIn k.0 b.0.dependents = subst (λ (x : Instance). IsIn k.0 x.dependents) r k.1 in
      let o = g.owned n b.0 k.0 b.1 in_b in
      let d = apart_ready k.0 o.0 (owners.Instance n) o.1 in
      (k.0, b.2.stays k.0 d in_b, shift_lives step k.0 (components.Interceptor i) d k.2)

  one_ready : (contexts : Contexts) (ts : List (List ℕ)) → AllContexts (HeldBy ready) contexts → ((k : ℕ) → IsAmong k ts → IsOwned ready k owners.Borrower) → One t legal w n ready w.next step g (even t legal w n component owner phases.New phases.Ready (Owns owner) ready g s pass (owner_of owner) not_made) (before_it t legal w n component owner phases.New phases.Ready (Owns owner) ready g s pass (owner_of owner) not_made) contexts ts
  one_ready contexts ts held borrowed = turn_one t legal w n component owner phases.New phases.Ready (Owns owner) ready g s pass (owner_of owner) not_made contexts ts held borrowed (inl refl) (λ i m o l e h r. nobody_has m o e h) attended_then

  path_ready : Path t legal w n ready w.next step g (even t legal w n component owner phases.New phases.Ready (Owns owner) ready g s pass (owner_of owner) not_made) (before_it t legal w n component owner phases.New phases.Ready (Owns owner) ready g s pass (owner_of owner) not_made)
  path_ready = record {
    forth = λ x b e. (let y = pass.forth n x e in (y.0, y.1, y.2.alike.owned, λ d q. ready_leaving (sym (y.2.passed refl) ∙ q)));
    back = λ y b e. (let x = pass.back n y e in (x.0, x.1, x.2.alike.owned, λ d q. new_leaving (sym s.phase_is ∙ (ap (λ (o : Instance). o.phase) (here x.0 x.1) ∙ q))));
  }
    where
      new_leaving : phases.New ≡ phases.Leaving → ⊥
      new_leaving e = cc

      here : (x : Instance) → at w.instances n ≡ Some x → s.instance ≡ x
      here x e = let q : Some s.instance ≡ Some x = sym s.there ∙ e in cc

  held_ready : AllContexts (HeldBy ready) w.contexts
  held_ready = contexts_map (HeldBy w.instances) (HeldBy ready) w.contexts (λ k b m q. shift_stands step (apart_ready m (components.Bean b) (owners.Context k) q) q) g.held

  borrowed_ready : (k : ℕ) → IsAmong k w.temporaries → IsOwned ready k owners.Borrower
  borrowed_ready k h = let q = g.borrowed k h in shift_owned step (apart_ready k q.0 owners.Borrower q.1) q

  settled_in : (contexts : Contexts) (ts : List (List ℕ)) → AllContexts (HeldBy ready) contexts → ((k : ℕ) → IsAmong k ts → IsOwned ready k owners.Borrower) → Levels n w.temporaries ts
      → AfterOf t legal (Other n) Each w.instances n w.temporaries w.invocations w.bodies ready w.next contexts ts w.invocations w.bodies
  settled_in contexts ts held borrowed level =
      shift_each t legal w n ready w.next step g (even t legal w n component owner phases.New phases.Ready (Owns owner) ready g s pass (owner_of owner) not_made) (before_it t legal w n component owner phases.New phases.Ready (Owns owner) ready g s pass (owner_of owner) not_made)
      n (let l = g.below n s.instance s.there in omega arith) contexts ts (one_ready contexts ts held borrowed) path_ready level nobody_has

  adopted : IsAdopted w.instances ready n owner
  adopted m e there = let y = pass.forth m there.0 there.1 in (y.0, y.1, y.2.gains (by owner e))
    where
      by : (x : Owner) → x ≡ owners.Instance m → Owns x m
      by (owners.Context c) q = absurd (cc)
      by (owners.Instance k) q = let r : k ≡ m = cc in r
      by owners.Borrower q = absurd (cc)

  abbrev SettledIn : World → Type 0
  SettledIn u = AfterOf t legal (Other n) Each w.instances n w.temporaries w.invocations w.bodies u.instances u.next u.contexts u.temporaries u.invocations u.bodies × Stands u.instances n component owner phases.Ready × IsAdopted w.instances u.instances n owner

settled_is : (w : World) (n : ℕ) (o : Instance) → instance_at w n ≡ Some o → after_change (Change.Settle n) w ≡ with_owned n o.component o.owner (with_instances (λ live. ready_among n o.owner live) w)
settled_is w n o e =
    subst (λ x. for_instance w x (λ y. with_owned n y.component y.owner (with_instances (λ live. in_phase phases.Ready n (for_owner x (with_dependent n) live)) w)) ≡ with_owned n o.component o.owner (with_instances (λ live. ready_among n o.owner live) w)) (sym e) refl

pub settles : (t : Tables) (legal : Legal) → Settles t legal
settles t legal w n component owner g s attend =
    subst (SettledIn t legal w n component owner g s attend) (sym (settled_is w n s.instance s.there))
    (subst (λ c. SettledIn t legal w n component owner g s attend (with_owned n c s.instance.owner (with_instances (λ live. ready_among n s.instance.owner live) w))) (sym s.of)
    (subst (λ x. SettledIn t legal w n component owner g s attend (with_owned n component x (with_instances (λ live. ready_among n x live) w))) (sym s.owned) (by owner component s attend)))
  where
    by : (x : Owner) (c : Component) (s : Stands w.instances n c x phases.New) (attend : (i : ℕ) → IsIn i (intercepted_in t c) → Attends w.instances n i)
        → SettledIn t legal w n c x g s attend (with_owned n c x (with_instances (λ live. ready_among n x live) w))
    by (owners.Context k) (components.Bean b) s a = (
      settled_in t legal w n (components.Bean b) (owners.Context k) g s a (with_held b (Is n) k w.contexts) w.temporaries
          (context_changed _ _ w.contexts k (active_with b (Is n)) (λ j d m q r. r) (λ v h. all_held_put (HeldBy (ready t legal w n (components.Bean b) (owners.Context k) g s a) k) (Some v) b (Is n) (is_ready t legal w n (components.Bean b) (owners.Context k) g s a) h) (held_ready t legal w n (components.Bean b) (owners.Context k) g s a))
          (borrowed_ready t legal w n (components.Bean b) (owners.Context k) g s a) (levels_self n w.temporaries),
      is_ready t legal w n (components.Bean b) (owners.Context k) g s a,
      adopted t legal w n (components.Bean b) (owners.Context k) g s a,
    )
    by (owners.Context k) (components.Interceptor i) s a = (
      settled_in t legal w n (components.Interceptor i) (owners.Context k) g s a w.contexts w.temporaries (held_ready t legal w n (components.Interceptor i) (owners.Context k) g s a) (borrowed_ready t legal w n (components.Interceptor i) (owners.Context k) g s a) (levels_self n w.temporaries),
      is_ready t legal w n (components.Interceptor i) (owners.Context k) g s a,
      adopted t legal w n (components.Interceptor i) (owners.Context k) g s a,
    )
    by (owners.Instance m) c s a = (
      settled_in t legal w n c (owners.Instance m) g s a w.contexts w.temporaries (held_ready t legal w n c (owners.Instance m) g s a) (borrowed_ready t legal w n c (owners.Instance m) g s a) (levels_self n w.temporaries),
      is_ready t legal w n c (owners.Instance m) g s a,
      adopted t legal w n c (owners.Instance m) g s a,
    )
    by owners.Borrower c s a = (
      settled_in t legal w n c owners.Borrower g s a w.contexts (on_top (λ ns. ns ++ n ∷ []) w.temporaries) (held_ready t legal w n c owners.Borrower g s a)
          (λ k h. borrowed k (among_either k n w.temporaries h)) (levels_added n w.temporaries),
      is_ready t legal w n c owners.Borrower g s a,
      adopted t legal w n c owners.Borrower g s a,
    )
      where
        borrowed : (k : ℕ) → IsAmong k w.temporaries ⊎ (n ≡ k) → IsOwned (ready_among n owners.Borrower w.instances) k owners.Borrower
        borrowed k (inl q) = borrowed_ready t legal w n c owners.Borrower g s a k q
        borrowed k (inr e) = subst (λ i. IsOwned (ready_among n owners.Borrower w.instances) i owners.Borrower) e (c, is_ready t legal w n c owners.Borrower g s a)

-- ---- leaving

module _ (t : Tables) (legal : Legal) (w : World) (n : ℕ) (component : Component) (owner : Owner) (g : Good t legal w) (s : Stands w.instances n component owner phases.Ready) (idle : IdleIn w n) (free : IsFree w.instances n) where
  abbrev Nobody : ℕ → Type 0
  Nobody k = ⊥

  abbrev left : Instances
  left = left_among n owner w.instances

  pass_left : Passes n phases.Leaving Nobody w.instances left
  pass_left = part_passes n owner w.instances (λ k x e h. (let q = g.owned k x n e h in same_owner s q.1 refl))

  nobody_owns : (m : ℕ) → Nobody m → owner ≡ owners.Instance m
  nobody_owns m h = absurd h

  not_new : phases.Leaving ≡ phases.New → ⊥
  not_new e = cc

  abbrev step_left : Shift n w.instances left
  step_left = turned t legal w n component owner phases.Ready phases.Leaving Nobody left g s pass_left nobody_owns not_new

  is_left : Stands left n component owner phases.Leaving
  is_left = now t legal w n component owner phases.Ready phases.Leaving Nobody left g s pass_left nobody_owns not_new

  abbrev OneLeft : Contexts → List (List ℕ) → Type 0
  OneLeft contexts ts = One t legal w n left w.next step_left g (even t legal w n component owner phases.Ready phases.Leaving Nobody left g s pass_left nobody_owns not_new) (before_it t legal w n component owner phases.Ready phases.Leaving Nobody left g s pass_left nobody_owns not_new) contexts ts

  one_left : (contexts : Contexts) (ts : List (List ℕ)) → AllContexts (HeldBy left) contexts → ((k : ℕ) → IsAmong k ts → IsOwned left k owners.Borrower) → OneLeft contexts ts
  one_left contexts ts held borrowed =
      turn_one t legal w n component owner phases.Ready phases.Leaving Nobody left g s pass_left nobody_owns not_new contexts ts held borrowed (inr (λ m h. h)) free
      (λ i e h y q. absurd (ready_leaving (sym e)))

  path_left : Path t legal w n left w.next step_left g (even t legal w n component owner phases.Ready phases.Leaving Nobody left g s pass_left nobody_owns not_new) (before_it t legal w n component owner phases.Ready phases.Leaving Nobody left g s pass_left nobody_owns not_new)
  path_left = record { forth = λ x b e. absurd (idle b); back = λ y b e. absurd (idle b) }

  left_in : (contexts : Contexts) (ts : List (List ℕ)) → AllContexts (HeldBy left) contexts → ((k : ℕ) → IsAmong k ts → IsOwned left k owners.Borrower) → Levels w.next w.temporaries ts
      → AfterOf t legal (Other n) (But n) w.instances w.next w.temporaries w.invocations w.bodies left w.next contexts ts w.invocations w.bodies
  left_in contexts ts held borrowed level =
      shift_after t legal w n left w.next step_left g (even t legal w n component owner phases.Ready phases.Leaving Nobody left g s pass_left nobody_owns not_new) (before_it t legal w n component owner phases.Ready phases.Leaving Nobody left g s pass_left nobody_owns not_new)
      w.next (omega arith) contexts ts (one_left contexts ts held borrowed) path_left level

  -- of another owner
  held_left : ((k : Context) → owner ≡ owners.Context k → ⊥) → AllContexts (HeldBy left) w.contexts
  held_left f = contexts_map (HeldBy w.instances) (HeldBy left) w.contexts (λ k b m q. shift_stands step_left (λ e. f k (sym (same_owner q s e))) q) g.held

  borrowed_left : (owner ≡ owners.Borrower → ⊥) → (k : ℕ) → IsAmong k w.temporaries → IsOwned left k owners.Borrower
  borrowed_left f k h = let q = g.borrowed k h in shift_owned step_left (λ e. f (sym (same_owner q.1 s e))) q

  attends_left : (i : ℕ) → IsIn i (intercepted_in t component) → Attends left n i
  attends_left i h =
      let a = g.attended n s.instance i s.there s.phase_is (subst (λ c. IsIn i (intercepted_in t c)) (sym s.of) h) in
      let o = g.owned n s.instance a.0 s.there a.1 in
      let d : a.0 ≢ n = (λ e. (let q : owners.Instance n ≡ owner = same_owner o.1 s e in let l = older g n n s.instance s.there (s.owned ∙ sym q) in absurd (omega arith))) in
      let y = pass_left.forth n s.instance s.there in
      (y.0, y.1, (a.0, y.2.stays a.0 d a.1, shift_lives step_left a.0 (components.Interceptor i) d a.2))

  abbrev LeftIn : World → Type 0
  LeftIn u = AfterAt t legal (Other n) (But n) w u × Stands u.instances n component owner phases.Leaving × ((i : ℕ) → IsIn i (intercepted_in t component) → Attends u.instances n i)

left_is : (w : World) (n : ℕ) (o : Instance) → instance_at w n ≡ Some o → after_change (Change.Leave n) w ≡ without_owned n o.component o.owner (with_instances (λ live. left_among n o.owner live) w)
left_is w n o e =
    subst (λ x. for_instance w x (λ y. without_owned n y.component y.owner (with_instances (λ live. in_phase phases.Leaving n (for_owner x (without_dependent n) live)) w)) ≡ without_owned n o.component o.owner (with_instances (λ live. left_among n o.owner live) w)) (sym e) refl

pub leaves : (t : Tables) (legal : Legal) → Leaves t legal
leaves t legal w n component owner g s idle free =
    subst (LeftIn t legal w n component owner g s idle free) (sym (left_is w n s.instance s.there))
    (subst (λ c. LeftIn t legal w n component owner g s idle free (without_owned n c s.instance.owner (with_instances (λ live. left_among n s.instance.owner live) w))) (sym s.of)
    (subst (λ x. LeftIn t legal w n component owner g s idle free (without_owned n component x (with_instances (λ live. left_among n x live) w))) (sym s.owned) (by owner component s)))
  where
    by : (x : Owner) (c : Component) (s : Stands w.instances n c x phases.Ready) → LeftIn t legal w n c x g s idle free (without_owned n c x (with_instances (λ live. left_among n x live) w))
    by (owners.Context k) (components.Bean b) s = (
      left_in t legal w n (components.Bean b) (owners.Context k) g s idle free (with_nothing b k w.contexts) w.temporaries
          (context_changed (HeldBy w.instances) (HeldBy (left t legal w n (components.Bean b) (owners.Context k) g s idle free)) w.contexts k (active_without b)
          (λ j d m a q. shift_stands (step_left t legal w n (components.Bean b) (owners.Context k) g s idle free) (λ e. (let z : owners.Context j ≡ owners.Context k = same_owner q s e in a cc)) q)
          (λ v h. all_held_left (HeldBy w.instances k) (HeldBy (left t legal w n (components.Bean b) (owners.Context k) g s idle free) k) (Some v) b
          (λ o m a q. shift_stands (step_left t legal w n (components.Bean b) (owners.Context k) g s idle free) (λ e. (let z : components.Bean o ≡ components.Bean b = same_component q s e in a cc)) q) h) g.held)
          (borrowed_left t legal w n (components.Bean b) (owners.Context k) g s idle free (λ e. cc)) (levels_self w.next w.temporaries),
      is_left t legal w n (components.Bean b) (owners.Context k) g s idle free,
      attends_left t legal w n (components.Bean b) (owners.Context k) g s idle free,
    )
    by (owners.Context k) (components.Interceptor i) s = (
      left_in t legal w n (components.Interceptor i) (owners.Context k) g s idle free w.contexts w.temporaries
          (contexts_map (HeldBy w.instances) (HeldBy (left t legal w n (components.Interceptor i) (owners.Context k) g s idle free)) w.contexts
          (λ j d m q. shift_stands (step_left t legal w n (components.Interceptor i) (owners.Context k) g s idle free) (λ e. (let z : components.Bean d ≡ components.Interceptor i = same_component q s e in cc)) q) g.held)
          (borrowed_left t legal w n (components.Interceptor i) (owners.Context k) g s idle free (λ e. cc)) (levels_self w.next w.temporaries),
      is_left t legal w n (components.Interceptor i) (owners.Context k) g s idle free,
      attends_left t legal w n (components.Interceptor i) (owners.Context k) g s idle free,
    )
    by (owners.Instance m) c s = (
      left_in t legal w n c (owners.Instance m) g s idle free w.contexts w.temporaries (held_left t legal w n c (owners.Instance m) g s idle free (λ k e. cc)) (borrowed_left t legal w n c (owners.Instance m) g s idle free (λ e. cc)) (levels_self w.next w.temporaries),
      is_left t legal w n c (owners.Instance m) g s idle free,
      attends_left t legal w n c (owners.Instance m) g s idle free,
    )
    by owners.Borrower c s = (
      left_in t legal w n c owners.Borrower g s idle free w.contexts (map (all_but n) w.temporaries) (held_left t legal w n c owners.Borrower g s idle free (λ k e. cc))
          (λ k h. (let l = among_left k n w.temporaries h in shift_owned (step_left t legal w n c owners.Borrower g s idle free) l.0 (g.borrowed k l.1))) (levels_fewer w.next n w.temporaries),
      is_left t legal w n c owners.Borrower g s idle free,
      attends_left t legal w n c owners.Borrower g s idle free,
    )
