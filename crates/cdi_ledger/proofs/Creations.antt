-- Each creation, and so each task, leaves what it is to leave.
use Rattle.std.proofs.Common.{ℕ, ◌≡◌, ◌<◌, ◌≤◌, List, ◌∷◌, ◌⊎◌, inl, inr, Option, Some, None, Bool, true, false, refl, sym, ap, ◌∙◌, subst, arith}
use Rattle.std.specs.Prelude.{nat_lt}
use Rattle.cdi_base.specs.declared.value.Value.TheVariants as values
use Rattle.cdi_base.specs.declared.entry.Entry.TheVariants as entries
use Rattle.cdi_base.specs.declared.place.Place.TheVariants as places
use Rattle.cdi_base.specs.declared.built_in.BuiltIn.TheVariants as built_in
use Rattle.cdi_store.specs.declared.instance.Context.{Context}
use Rattle.cdi_store.specs.declared.instance.Component.{Component}
use Rattle.cdi_store.specs.declared.instance.Component.TheVariants as components
use Rattle.cdi_store.specs.declared.instance.Owner.{Owner}
use Rattle.cdi_store.specs.declared.instance.Owner.TheVariants as owners
use Rattle.cdi_store.specs.declared.instance.Phase.TheVariants as phases
use Rattle.cdi_machine.specs.Tables.{Tables, Bean}
use Rattle.cdi_machine.specs.World.{World, Change, after_change, with_entry}
use Rattle.cdi_machine.specs.Programs.{Task, Given, Completion, Prog, ret, throw, handle, require_present, complete, alter, note, each, rethrow}
use Rattle.cdi_machine.specs.Contexts.{obtain}
use Rattle.cdi_machine.specs.Bodies.{run_rest, carry_on}
use Rattle.cdi_machine.specs.Creation.{inject, make}
use Rattle.cdi_machine.specs.Events.{fire, notify}
use Rattle.cdi_ledger.specs.Ledger.{Born, Item, Wrote}
use Rattle.cdi_ledger.specs.Whose.{IsIn}
use Rattle.cdi_ledger.proofs.Cores.{Core, core_at, deps_at}
use Rattle.cdi_ledger.proofs.Homes.{IsNewAt, IsReferred, referred_below, provisions, Inv, Rel, Grown, Placed, HeldIn, OnStack, Busy, IsFixed, targets, rel_self, rel_then, was_busy}
use Rattle.cdi_ledger.proofs.Spans.{Still, inv_still, rel_still}
use Rattle.cdi_ledger.proofs.Owed.{Ok, IsMadeFor, AreMadeFor, Pre, Post, IsGiven, IsNumbered, AreNumbered, Anchored, CanOwn, anchored_then}
use Rattle.cdi_ledger.proofs.Judge.{bind}
use Rattle.cdi_ledger.proofs.Fine as fine
use Rattle.cdi_ledger.proofs.Fine.{Stacked, stacked_inv, unstacked, targets_below, list_below}
use Rattle.cdi_ledger.proofs.Doings.{Any, f_rest, f_acts, f_made, f_inject, f_fire, f_notify}
use Rattle.cdi_machine.specs.Machine.{machine}
use Rattle.cdi_machine.specs.Tables.{Interceptor}
use Rattle.cdi_machine.specs.Words.{Fields}
use Rattle.cdi_machine.specs.Programs.{give_number}
use Rattle.cdi_machine.specs.Bodies.{run_body}
use Rattle.cdi_machine.specs.Creation.{create, intercept, create_by, end_creation, discard, make_ready, begin_creation, first_fields}
use Rattle.cdi_ledger.proofs.Cores.{with_phase}
use Rattle.cdi_ledger.proofs.Homes.{Chain, IsStaying, chain_map, IsReadyOf}
use Rattle.cdi_ledger.proofs.Makings.{CanStand, settles, drops}
use Rattle.cdi_ledger.proofs.Spans.{CanBegin, MakingIn, Begun, begins, rel_created, rel_destroyed}
use Rattle.cdi_ledger.proofs.Owed.{IsFreeBelow}
use Rattle.std.specs.Prelude.{◌^◌}
use Rattle.cdi_ledger.proofs.Standing.{CanHave, have_then, top_then, own_of, below_then, live_below, inside_still, invocation_still, f_bean, f_interceptor, f_instance, f_resolved, f_picked, f_reference, f_injected, f_use, f_destroy_by}
use Rattle.cdi_ledger.proofs.Tasks.{body_does, destroy_does, release_does, dismiss_does, clear_does}

module _ (t : Tables) where
  abbrev Does : {A : Type 0} → Prog A → World → List Item → (Completion A → World → List Item → Type 0) → Type 0
  Does p w h Q = fine.Doing t p w h Q

  -- ---- creation

  abbrev Created : Owner → World → Completion Given → World → List Item → Type 0
  Created owner w c v k = fine.Left w (λ a u. IsMadeFor owner a u) c v k

  module _ (place : Rattle.cdi_base.specs.declared.place.Place.Place) (component : Component) (owner : Owner) (fields : Fields) (w : World) (h : List Item) (g : Inv w) (can : CanBegin w component owner) where
    abbrev n : ℕ
    n = w.next

    abbrev w0 : World
    w0 = with_entry (entries.New n place) w

    abbrev g0 : Inv w0
    g0 = fine.inv_entry (entries.New n place) w g

    abbrev w1 : World
    w1 = after_change (Change.Make component owner fields) w0

    abbrev newborn_core : Core
    newborn_core = record { component = component; owner = owner; phase = phases.New }

    module _ (can0 : CanBegin w0 component owner) (stands : (v : World) → Rel w1 v → CanStand v component owner) where
      begun : Begun w0 w1 component owner
      begun = begins w0 g0 component fields owner can0

      anchored : Anchored w1 n
      anchored = (newborn_core, begun.moves.own, inl refl)

      newborn_at : IsNewAt n w1
      newborn_at = (newborn_core, begun.moves.own, refl)

      n_below : n < w1.next
      n_below = let q = begun.next in omega arith

      new_at : (v : World) → Rel w1 v → core_at n v.instances ≡ Some newborn_core
      new_at v r = r.stay n newborn_core begun.moves.own (inl refl)

      -- what an invocation has for parameters is older
      older : (v : World) → Rel w1 v → (m : ℕ) → IsReferred m (provisions v.invocations) → m < n
      older v r m q = referred_below w0 m g0 (subst (IsReferred m) (r.provisions ∙ begun.moves.provisions) q)

      from_start : (v : World) → Rel w0 v → Rel w v
      from_start v r = rel_then w w0 v (fine.rel_entry (entries.New n place) w w g (rel_self w g)) r

      is_ready : (c : Core) → Some (with_phase phases.Ready newborn_core) ≡ Some c → c.phase ≡ phases.Ready
      is_ready c e = let q : with_phase phases.Ready newborn_core ≡ c = cc in ap (λ (z : Core). z.phase) (sym q)

      -- it is ready
      readied : (v : World) (k : List Item) → Inv v → Rel w1 v → Does (make_ready n) v k (Created owner w)
      readied v k gv r =
          let v0 : World = with_entry (entries.Ready n) v in
          let gv0 : Inv v0 = fine.inv_entry (entries.Ready n) v gv in
          let r0 : Rel w1 v0 = fine.rel_entry (entries.Ready n) w1 v gv r in
          let s = settles v0 n gv0 newborn_core (new_at v0 r0) refl (older v0 r0) (stands v0 r0) in
          let q = rel_created {T = λ k. k ≤ n} w0 w1 v0 (after_change (Change.Settle n) v0) component owner (Some (with_phase phases.Ready newborn_core)) g0 can0 begun r0 s.1 (omega arith) s.2 is_ready in
          (gv, (s.0, (from_start (after_change (Change.Settle n) v0) q, (with_phase phases.Ready newborn_core, s.1.own, refl, refl))))

      free : (v : World) → Rel w1 v → IsFreeBelow v n
      free v r d x e s own b =
          let q = was_busy w1 v d begun.inv r b in
          let y = begun.inv.smaller d n x (r.old d x q.1 e) own in
          let z = q.1 in
          let m = begun.next in
          omega arith

      -- it is dropped
      dropped : (rest : Prog Given) → ((u : World) → fine.Fine t u rest (λ a w. IsMadeFor owner a w)) → (v : World) (k : List Item) → Inv v → Rel w1 v → Does (handle (discard n) (λ _. rest) throw) v k (Created owner w)
      dropped rest f v k gv r = (gv, (newborn_core, new_at v r, inl refl, free v r), after)
        where
          after : (d : Completion Given) (u : World) (j : List Item) → Inv u → Rel v u × IsGiven d × ((i : ℕ) → IsIn i (deps_at n u.instances) → ⊥)
              → Does (handle (handle (complete d) (λ _. handle (note (entries.Drop n)) (λ _. alter (Change.Discard n)) throw) throw) (λ _. rest) throw) u j (Created owner w)
          after (Completion.Gave a) u j gu p =
              let ru : Rel w1 u = rel_then w1 v u r p.0 in
              let v0 : World = with_entry (entries.Drop n) u in
              let gv0 : Inv v0 = fine.inv_entry (entries.Drop n) u gu in
              let r0 : Rel w1 v0 = fine.rel_entry (entries.Drop n) w1 u gu ru in
              let s = drops v0 n gv0 newborn_core (new_at v0 r0) refl (older v0 r0) p.2 (stands v0 r0) in
              let q = rel_created {T = λ k. Unit {0}} w0 w1 v0 (after_change (Change.Discard n) v0) component owner None g0 can0 begun r0 s.1 tt s.2 (λ c e. absurd (cc)) in
              (gu, fine.rebased t w (after_change (Change.Discard n) v0) rest _ (λ a w. IsMadeFor owner a w) (from_start (after_change (Change.Discard n) v0) q) (f (after_change (Change.Discard n) v0) (after_change (Change.Discard n) v0) _ s.0 (rel_self (after_change (Change.Discard n) v0) s.0)))
          after (Completion.Threw a) u j gu p = absurd p.1

      ended : (a : Given) (v : World) (k : List Item) → Inv v → Rel w1 v → Does (end_creation n a) v k (Created owner w)
      ended (Given.Result values.Null) v k gv r = dropped (ret Given.Empty) (λ u x j gx q. (gx, (q, tt))) v k gv r
      ended (Given.Result (values.Int i)) v k gv r = readied v k gv r
      ended (Given.Result (values.Text i)) v k gv r = readied v k gv r
      ended (Given.Number i) v k gv r = readied v k gv r
      ended Given.Empty v k gv r = readied v k gv r

      creating : (steps : Prog Given) → fine.Fine t w1 steps Any → Does (create_by n steps) w1 (Born n component owner ∷ Wrote (entries.New n place) ∷ h) (Created owner w)
      creating steps f =
          bind t (Ok t) fine.G (Pre t) Post steps (end_creation n) (λ x. handle (discard n) (λ _. rethrow x built_in.CreationException) throw) w1 (Born n component owner ∷ Wrote (entries.New n place) ∷ h) (fine.Left w1 Any) (Created owner w)
          (f w1 (Born n component owner ∷ Wrote (entries.New n place) ∷ h) begun.inv (rel_self w1 begun.inv))
          (λ a v k gv q. ended a v k gv q.0)
          (λ x v k gv q. dropped (rethrow x built_in.CreationException) (λ u. fine.f_rethrow t u Given x built_in.CreationException (λ a w. IsMadeFor owner a w)) v k gv q.0)

  -- a creation, where its owner can have it
  stands_with : (w v : World) (component : Component) (owner : Owner) → MakingIn w component owner → CanHave w owner ⊎ ((x : Context) × (owner ≡ owners.Context x)) → Rel w v → CanStand v component owner
  stands_with w v component (owners.Context x) m c r = (m.0, m.1, r.making x m.0 m.2)
  stands_with w v component (owners.Instance k) m (inl a) r = let b = anchored_then w v k r a in (b.0, b.1)
  stands_with w v component (owners.Instance k) m (inr e) r = absurd (let q = e.1 in cc)
  stands_with w v component owners.Borrower m (inl a) r = top_then w.next w.temporaries v.temporaries r.lists a
  stands_with w v component owners.Borrower m (inr e) r = absurd (let q = e.1 in cc)

  module _ (place : Rattle.cdi_base.specs.declared.place.Place.Place) (b : ℕ) (fields : Fields) (steps : ℕ → Prog Given) where
    -- what comes behind the look-up
    pub begins_with : (component : Component) (owner : Owner) (w : World) (h : List Item) (g : Inv w) → ((w1 : World) → w.next < w1.next → Anchored w1 w.next → IsNewAt w.next w1 → fine.Fine t w1 (steps w.next) Any)
        → (can0 : CanBegin (with_entry (entries.New w.next place) w) component owner)
        → ((v : World) → Rel (after_change (Change.Make component owner fields) (with_entry (entries.New w.next place) w)) v → CanStand v component owner)
        → Does (handle (begin_creation place component owner fields) (λ n. create_by n (steps n)) throw) w h (Created owner w)
    begins_with component owner w h g f can0 st = by (nat_lt w.next (2 ^ 32))
      where
        by : (c : Bool) → Does (handle (handle (give_number c w.next) (λ m. handle (note (entries.New m place)) (λ _. handle (alter (Change.Make component owner fields)) (λ _. ret m) throw) throw) throw) (λ n. create_by n (steps n)) throw) w h (Created owner w)
        by false = g
        by true = (g, creating place component owner fields w h g can0 can0 st (steps w.next) (f (after_change (Change.Make component owner fields) (with_entry (entries.New w.next place) w)) (n_below place component owner fields w h g can0 can0 st) (anchored place component owner fields w h g can0 can0 st) (newborn_at place component owner fields w h g can0 can0 st)))

  numbered_of : (w : World) (c : Completion Given) (v : World) (k : List Item) → fine.Left w (λ a u. IsNumbered a u) c v k → Rel w v × AreNumbered c v
  numbered_of w (Completion.Gave a) v k q = (q.0, q.1)
  numbered_of w (Completion.Threw x) v k q = (q.0, tt)

  made_of : (owner : Owner) (w : World) (c : Completion Given) (v : World) (k : List Item) → Created owner w c v k → Rel w v × AreMadeFor owner c v
  made_of owner w (Completion.Gave a) v k q = (q.0, q.1)
  made_of owner w (Completion.Threw x) v k q = (q.0, tt)

  -- an owner that is anchored is so when the instance has begun
  anchored_begun : (place : Rattle.cdi_base.specs.declared.place.Place.Place) (component : Component) (owner : Owner) (fields : Fields) (w : World) (g : Inv w) (m : ℕ) → Begun (with_entry (entries.New w.next place) w) (after_change (Change.Make component owner fields) (with_entry (entries.New w.next place) w)) component owner
      → Anchored w m → Anchored (after_change (Change.Make component owner fields) (with_entry (entries.New w.next place) w)) m
  anchored_begun place component owner fields w g m b a = (a.0, b.moves.other m apart ∙ a.1, Rattle.cdi_ledger.proofs.Spans.fixed_across w0 w1 w.next m a.0 b.moves idle a.2)
    where
      w0 : World
      w0 = with_entry (entries.New w.next place) w

      w1 : World
      w1 = after_change (Change.Make component owner fields) (with_entry (entries.New w.next place) w)

      apart : m ≡ w.next → ⊥
      apart e = let l = g.below m a.0 a.1 in omega (arith, e)

      idle : Busy (with_entry (entries.New w.next place) w) w.next → ⊥
      idle q = let l = Rattle.cdi_ledger.proofs.Homes.chain_small w.instances q.0 w.next (λ d k c e o. g.smaller d k c e o) q.2 in let s = g.stack q.0 q.1 in omega arith

  anchored_below : (w : World) (g : Inv w) (m : ℕ) → Anchored w m → m < w.next
  anchored_below w g m a = g.below m a.0 a.1

  pub create_does : (b : ℕ) (owner : Owner) (w : World) (h : List Item) → Inv w → CanOwn w b owner → Does (create b owner) w h (Created owner w)
  create_does b owner w h g can = by (t.bean b) refl
    where
      with_bean : (x : Bean) → t.bean b ≡ Some x → (o : Owner) → CanOwn w b o → Does (handle (begin_creation x.place (components.Bean b) o (first_fields x.kind)) (λ n. create_by n (make n x x.kind)) throw) w h (Created o w)
      with_bean x known (owners.Context y) can =
          let can0 : CanBegin (with_entry (entries.New w.next x.place) w) (components.Bean b) (owners.Context y) = (b, refl, can) in
          let bg = begins (with_entry (entries.New w.next x.place) w) (fine.inv_entry (entries.New w.next x.place) w g) (components.Bean b) (first_fields x.kind) (owners.Context y) can0 in
          begins_with x.place b (first_fields x.kind) (λ n. make n x x.kind) (components.Bean b) (owners.Context y) w h g (λ w1 l a z. f_made t w1 w.next b x x.kind known refl l a z) can0 (λ v r. stands_with _ v (components.Bean b) (owners.Context y) bg.making (inr (y, refl)) r)
      with_bean x known (owners.Instance m) can =
          let can0 : CanBegin (with_entry (entries.New w.next x.place) w) (components.Bean b) (owners.Instance m) = anchored_below w g m can in
          let bg = begins (with_entry (entries.New w.next x.place) w) (fine.inv_entry (entries.New w.next x.place) w g) (components.Bean b) (first_fields x.kind) (owners.Instance m) can0 in
          begins_with x.place b (first_fields x.kind) (λ n. make n x x.kind) (components.Bean b) (owners.Instance m) w h g (λ w1 l a z. f_made t w1 w.next b x x.kind known refl l a z) can0 (λ v r. stands_with _ v (components.Bean b) (owners.Instance m) tt (inl (anchored_begun x.place (components.Bean b) (owners.Instance m) (first_fields x.kind) w g m bg can)) r)
      with_bean x known owners.Borrower can =
          begins_with x.place b (first_fields x.kind) (λ n. make n x x.kind) (components.Bean b) owners.Borrower w h g (λ w1 l a z. f_made t w1 w.next b x x.kind known refl l a z) tt (λ v r. stands_with _ v (components.Bean b) owners.Borrower tt (inl can) r)

      by : (x : Option Bean) → t.bean b ≡ x → Does (handle (require_present x) (λ x. handle (begin_creation x.place (components.Bean b) owner (first_fields x.kind)) (λ n. create_by n (make n x x.kind)) throw) throw) w h (Created owner w)
      by None e = (g, (rel_self w g, tt))
      by (Some x) e = with_bean x e owner can

  pub intercept_does : (i m : ℕ) (w : World) (h : List Item) → Inv w → Anchored w m → Does (intercept i m) w h (Created (owners.Instance m) w)
  intercept_does i m w h g can = by (t.interceptor i)
    where
      steps : Interceptor → ℕ → Prog Given
      steps x n = handle (each x.injected (λ p. inject n p.0 p.1)) (λ _. ret (Given.Number n)) throw

      with_one : (x : Interceptor) → Does (handle (begin_creation (places.Class x.name) (components.Interceptor i) (owners.Instance m) x.fields) (λ n. create_by n (handle (each x.injected (λ p. inject n p.0 p.1)) (λ _. ret (Given.Number n)) throw)) throw) w h (Created (owners.Instance m) w)
      with_one x =
          let can0 : CanBegin (with_entry (entries.New w.next (places.Class x.name)) w) (components.Interceptor i) (owners.Instance m) = anchored_below w g m can in
          let bg = begins (with_entry (entries.New w.next (places.Class x.name)) w) (fine.inv_entry (entries.New w.next (places.Class x.name)) w g) (components.Interceptor i) x.fields (owners.Instance m) can0 in
          begins_with (places.Class x.name) i x.fields (λ n. handle (each x.injected (λ p. inject n p.0 p.1)) (λ _. ret (Given.Number n)) throw) (components.Interceptor i) (owners.Instance m) w h g
          (λ w1 l a b. fine.then t w1 (each x.injected (λ p. inject w.next p.0 p.1)) (λ _. ret (Given.Number w.next)) Any (fine.f_each t w1 x.injected (λ p. inject w.next p.0 p.1) (λ p. f_inject t w1 w.next p.0 p.1 a)) (λ _ v k gv q. (gv, (q, tt))))
          can0 (λ v r. stands_with _ v (components.Interceptor i) (owners.Instance m) tt (inl (anchored_begun (places.Class x.name) (components.Interceptor i) (owners.Instance m) x.fields w g m bg can)) r)

      by : (x : Option Interceptor) → Does (handle (require_present x) (λ x. handle (begin_creation (places.Class x.name) (components.Interceptor i) (owners.Instance m) x.fields) (λ n. create_by n (handle (each x.injected (λ p. inject n p.0 p.1)) (λ _. ret (Given.Number n)) throw)) throw) throw) w h (Created (owners.Instance m) w)
      by None = (g, (rel_self w g, tt))
      by (Some x) = with_one x

  -- ---- all tasks

  plain : (p : Prog Given) (w : World) (h : List Item) → Inv w → fine.Fine t w p Any → Does p w h (λ c v k. Rel w v × Unit {0})
  plain p w h g f = fine.loosen t p w h (fine.Left w Any) (λ c v k. Rel w v × Unit {0}) (f w h g (rel_self w g)) (λ c v k gv q. (q.0, tt))

  numbered : (p : Prog Given) (w : World) (h : List Item) → Does p w h (fine.Left w (λ a u. IsNumbered a u)) → Does p w h (λ c v k. Rel w v × AreNumbered c v)
  numbered p w h d = fine.loosen t p w h (fine.Left w (λ a u. IsNumbered a u)) (λ c v k. Rel w v × AreNumbered c v) d (λ c v k gv q. numbered_of w c v k q)

  pub task_does : (c : Task) (w : World) (h : List Item) → Inv w → Pre t c w h → Does (machine c) w h (Post c w h)
  task_does (Task.Obtain b) w h g q = numbered (obtain b) w h (Rattle.cdi_ledger.proofs.Standing.f_obtain t w b w h g (rel_self w g))
  task_does (Task.Create b owner) w h g q = fine.loosen t (create b owner) w h (Created owner w) (λ c v k. Rel w v × AreMadeFor owner c v) (create_does b owner w h g q.0) (λ c v k gv z. made_of owner w c v k z)
  task_does (Task.Intercept i n) w h g q = fine.loosen t (intercept i n) w h (Created (owners.Instance n) w) (λ c v k. Rel w v × Unit {0}) (intercept_does i n w h g q) (λ c v k gv z. (z.0, tt))
  task_does (Task.Rest chain) w h g q = fine.loosen t (run_rest chain) w h (fine.Left w Any) (λ c v k. Rel w v × Unit {0}) (f_rest t chain w h g q) (λ c v k gv z. (z.0, tt))
  task_does (Task.Body r) w h g q = fine.loosen t (run_body r) w h (fine.Left w Any) (λ c v k. Rel w v × Unit {0}) (body_does t r w h g q) (λ c v k gv z. (z.0, tt))
  task_does (Task.Acts r) w h g q = plain (carry_on r) w h g (f_acts t w r q)
  task_does (Task.Destroy n) w h g q = destroy_does t n w h g q
  task_does (Task.Release n) w h g q = release_does t n w h g q
  task_does (Task.Fire class qualifiers v) w h g q = plain (fire class qualifiers v) w h g (f_fire t w class qualifiers v)
  task_does (Task.Notify os v) w h g q = plain (notify os v) w h g (f_notify t w os v q)
  task_does Task.Dismiss w h g q = dismiss_does t w h g q
  task_does (Task.Clear x) w h g q = clear_does t x w h g q
