-- Bodies, chains, acts and the methods that they call miss nothing.
use Rattle.std.proofs.Common.{ℕ, ◌≡◌, ◌<◌, ◌≤◌, ◌⊎◌, inl, inr, List, [], ◌∷◌, length, Bool, true, false, cond, Option, Some, None, refl, sym, ap, ◌∙◌, subst, arith, nat_eq}
use Rattle.std.specs.Prelude.{nat_lt, slice_get}
use Rattle.std.specs.List.{AllByRecursion}
use Rattle.cdi_base.specs.declared.act.Answer.{Answer}
use Rattle.cdi_base.specs.declared.act.Answer.TheVariants as answers
use Rattle.cdi_base.specs.declared.entry.Entry.TheVariants as entries
use Rattle.cdi_base.specs.declared.place.InterceptorMethod.{InterceptorMethod}
use Rattle.cdi_base.specs.declared.place.InterceptorMethod.TheVariants as roles
use Rattle.cdi_base.specs.declared.place.Place.TheVariants as places
use Rattle.cdi_base.specs.Maps.{at, put}
use Rattle.cdi_store.specs.declared.instance.Component.{Component}
use Rattle.cdi_store.specs.declared.instance.Component.TheVariants as components
use Rattle.cdi_store.specs.declared.instance.Instance.{Instance}
use Rattle.cdi_store.specs.declared.references.Reference.{Reference}
use Rattle.cdi_store.specs.Live.{Instances}
use Rattle.cdi_contexts.specs.Contexts.{Contexts}
use Rattle.cdi_store.proofs.Numbers.{equal_or_not}
use Rattle.cdi_machine.specs.Words.{Name, Asked}
use Rattle.cdi_machine.specs.Tables.{Tables, Code, Method, Interceptor}
use Rattle.cdi_machine.specs.World.{World, Change, Invocation, after_change, with_entry, instance_at, on_top}
use Rattle.cdi_machine.specs.Programs.{Task, Given, Completion, Gave, Threw, Running, Prog, ret, throw, see, handle, attempt, alter, call, each, finally, finish, invocation, raise, require}
use Rattle.cdi_machine.specs.Bodies.{body_at_start, given_by, is_of, first_of, interceptor_of, run_rest, run_body}
use Rattle.cdi_machine.specs.Runs.{Legal}
use Rattle.cdi_ledger.specs.Whose.{IsIn}
use Rattle.cdi_whole.specs.Fits.{Site, interceptor_site, HasText, FitsRole, Fits}
use Rattle.cdi_ledger.proofs.Maps.{all_weaker, all_last, put_at}
use Rattle.cdi_whole.proofs.Whole.{by_interceptor, fields_in, injected_in, IsThere, Lives, Serves, Refers, IsFor, AreFor, IsAttended, Attends, OnStack, Busy, Whole, Good}
use Rattle.cdi_whole.proofs.Remains.{Any, Each, Same, Alike, AfterOf, After, alike_self, levels_self, after_self, after_trans, lives_then, attends_then, for_then, are_then, stack_then}
use Rattle.cdi_whole.proofs.Busy.{on_top as busy_top, started, stopped}
use Rattle.cdi_whole.proofs.Terms.{Home, Stood, CanRest, CanRun, AreFound, IsAnswered, Told, IsValue, Answered}
use Rattle.cdi_whole.proofs.Statements.{Goes, then, found, found_two, deeper, topped, called, calling}
use Rattle.cdi_whole.proofs.Moves.{Moves}
use Rattle.cdi_whole.proofs.Creation.{class_fields, class_injected}

-- ---- what stays of bodies

module _ {t : Tables} {legal : Legal} {i0 i1 : Instances} {n0 n1 : ℕ} {t0 t1 : List (List ℕ)} {v0 v1 : List Invocation} {b0 b1 : List ℕ} {c1 : Contexts} (a : AfterOf t legal Any Each i0 n0 t0 v0 b0 i1 n1 c1 t1 v1 b1) where
  home_then : (n : ℕ) (site : Site) → Busy i0 v0 b0 n → Home t legal i0 n site → Home t legal i1 n site
  home_then n site h (Home.on_bean b c points body served lives e) = Home.on_bean b c points body served (lives_then a n (components.Bean b) tt lives h) e
  home_then n site h (Home.on_interceptor i k body known lives e) = Home.on_interceptor i k body known (lives_then a n (components.Interceptor i) tt lives h) e

  stood_then : (n body : ℕ) (rs : List Reference) (chained : Bool) → Busy i0 v0 b0 n → Stood t legal i0 n0 n body rs chained → Stood t legal i1 n1 n body rs chained
  stood_then n body rs chained h s = record { site = s.site; is = s.is; chains = s.chains; fits = s.fits; home = home_then n s.site h s.home; points = are_then a s.site.points rs s.points }

  members_then : (n : ℕ) (rs : List Reference) → Busy i0 v0 b0 n → (ms : List Code) → AllByRecursion (λ m. Stood t legal i0 n0 n m.body rs false) ms → AllByRecursion (λ m. Stood t legal i1 n1 n m.body rs false) ms
  members_then n rs h [] s = tt
  members_then n rs h (m ∷ ms) s = (stood_then n m.body rs false h s.0, members_then n rs h ms s.1)

  roles_then : (n : ℕ) (role : InterceptorMethod) → Busy i0 v0 b0 n → (chain : List ℕ) → AllByRecursion (λ i. FitsRole t legal i role × Attends i0 n i) chain → AllByRecursion (λ i. FitsRole t legal i role × Attends i1 n i) chain
  roles_then n role h [] s = tt
  roles_then n role h (i ∷ chain) s = ((s.0.0, attends_then a n i tt (λ d. tt) h s.0.1), roles_then n role h chain s.1)

  rest_by : (us vs : List Invocation) (chain : List ℕ) → ((s : ℕ) → Rattle.cdi_whole.proofs.Whole.Targets s us → Rattle.cdi_whole.proofs.Whole.Targets s v0) → Alike us vs → CanRest t legal i0 n0 us chain → CanRest t legal i1 n1 vs chain
  rest_by [] vs chain f s h = absurd h
  rest_by (x ∷ us) [] chain f s h = absurd s
  rest_by (x ∷ us) (y ∷ vs) chain f s h = (
    subst (λ z. AllByRecursion (λ i. FitsRole t legal i z × Attends i1 y.target i) chain) (sym s.0.role)
        (subst (λ z. AllByRecursion (λ i. FitsRole t legal i x.role × Attends i1 z i) chain) (sym s.0.target) (roles_then x.target x.role busy chain h.0)),
    subst (λ z. AllByRecursion (λ m. Stood t legal i1 n1 y.target m.body y.references false) z) (sym s.0.members)
        (subst (λ z. AllByRecursion (λ m. Stood t legal i1 n1 y.target m.body z false) x.members) (sym s.0.references)
        (subst (λ z. AllByRecursion (λ m. Stood t legal i1 n1 z m.body x.references false) x.members) (sym s.0.target) (members_then x.target x.references busy x.members h.1))),
  )
    where
      busy : Busy i0 v0 b0 x.target
      busy = busy_top (inl (f x.target (inl refl)))

  pub rest_then : (chain : List ℕ) → CanRest t legal i0 n0 v0 chain → CanRest t legal i1 n1 v1 chain
  rest_then chain h = rest_by v0 v1 chain (λ s q. q) a.stack h

  locals_then : (body : ℕ) (locals : Rattle.cdi_base.specs.Maps.Map Reference) → AreFound t i0 n0 body locals → AreFound t i1 n1 body locals
  locals_then body locals h = record { found = λ k r e. (let x = h.found k r e in (x.0, x.1, for_then a x.0 r x.2)) }

  pub run_then : (r : Running) → IsIn r.instance b0 → CanRun t legal i0 n0 v0 r → CanRun t legal i1 n1 v1 r
  run_then r h q = record {
    chained = q.chained;
    stood = stood_then r.instance r.body r.references q.chained (busy_top (inr h)) q.stood;
    rest = λ e. rest_then r.rest (q.rest e);
    locals = locals_then r.body r.locals q.locals;
    told = q.told;
  }

-- what was thrown has a text
pub thrown_text : (t : Tables) (x : Name) (view : Rattle.cdi_bodies.specs.declared.view.View.View) → AllByRecursion (IsAnswered t) view.answers → Rattle.cdi_bodies.specs.Shape.is_thrown x (Rattle.cdi_bodies.specs.Shape.last_answer view) ≡ true → HasText t x
thrown_text t x view h e = by (Rattle.cdi_bodies.specs.Shape.last_answer view) refl e
  where
    same : (thrown : Name) → nat_eq thrown x ≡ true → HasText t thrown → HasText t x
    same thrown q s = subst (λ y. HasText t y) (Rattle.std.proofs.lemmas.Map.Views.exact_unsigned_eq thrown x q) s

    by : (a : Option Answer) → Rattle.cdi_bodies.specs.Shape.last_answer view ≡ a → Rattle.cdi_bodies.specs.Shape.is_thrown x a ≡ true → HasText t x
    by None q s = absurd (cc)
    by (Some (answers.Done v)) q s = absurd (cc)
    by (Some (answers.Found k)) q s = absurd (cc)
    by (Some (answers.Threw thrown text)) q s = same thrown s (Rattle.cdi_ledger.proofs.Maps.all_get (IsAnswered t) view.answers _ (answers.Threw thrown text) h q)

-- ---- sites

pub site_fields : {t : Tables} {legal : Legal} {i : Instances} {n : ℕ} {site : Site} → Home t legal i n site → (o : Instance) → at i n ≡ Some o → fields_in t o.component ≡ site.fields
site_fields {t} {site = site} (Home.on_bean b c points body served lives e) o q =
    let r : Some o ≡ Some lives.0 = sym q ∙ lives.1 in
    let s : o ≡ lives.0 = cc in
    ap (fields_in t) (ap (λ (x : Instance). x.component) s ∙ lives.2) ∙ (class_fields served ∙ ap (λ (x : Site). x.fields) (sym e))
site_fields {t} {site = site} (Home.on_interceptor i k body known lives e) o q =
    let r : Some o ≡ Some lives.0 = sym q ∙ lives.1 in
    let s : o ≡ lives.0 = cc in
    ap (fields_in t) (ap (λ (x : Instance). x.component) s ∙ lives.2) ∙ (ap (by_interceptor [] (λ (x : Interceptor). x.fields)) known ∙ ap (λ (x : Site). x.fields) (sym e))

pub site_injected : {t : Tables} {legal : Legal} {i : Instances} {n : ℕ} {site : Site} → Home t legal i n site → (o : Instance) → at i n ≡ Some o → injected_in t o.component ≡ site.injected
site_injected {t} {site = site} (Home.on_bean b c points body served lives e) o q =
    let r : Some o ≡ Some lives.0 = sym q ∙ lives.1 in
    let s : o ≡ lives.0 = cc in
    ap (injected_in t) (ap (λ (x : Instance). x.component) s ∙ lives.2) ∙ (class_injected served ∙ ap (λ (x : Site). x.injected) (sym e))
site_injected {t} {site = site} (Home.on_interceptor i k body known lives e) o q =
    let r : Some o ≡ Some lives.0 = sym q ∙ lives.1 in
    let s : o ≡ lives.0 = cc in
    ap (injected_in t) (ap (λ (x : Instance). x.component) s ∙ lives.2) ∙ (ap (by_interceptor [] (λ (x : Interceptor). x.injected)) known ∙ ap (λ (x : Site). x.injected) (sym e))

pub site_there : {t : Tables} {legal : Legal} {i : Instances} {n : ℕ} {site : Site} → Home t legal i n site → IsThere i n
site_there (Home.on_bean b c points body served lives e) = (lives.0, lives.1)
site_there (Home.on_interceptor i k body known lives e) = (lives.0, lives.1)

pub got_for : (t : Tables) (i : Instances) (next : ℕ) (ps : List Asked) (rs : List Reference) (k : ℕ) (r : Reference) → AreFor t i next ps rs → slice_get rs k ≡ Some r → (p : Asked) × (slice_get ps k ≡ Some p) × IsFor t i next p r
got_for t i next [] [] k r h e = absurd (cc)
got_for t i next [] (x ∷ rs) k r h e = absurd h
got_for t i next (p ∷ ps) [] k r h e = absurd h
got_for t i next (p ∷ ps) (x ∷ rs) Rattle.std.proofs.Common.zero r h e = (p, refl, (let q : x ≡ r = cc in subst (IsFor t i next p) q h.0))
got_for t i next (p ∷ ps) (x ∷ rs) (Rattle.std.proofs.Common.suc k) r h e = got_for t i next ps rs k r h.1 e

-- the innermost invocation changes what may differ
touch : (vs : List Invocation) (f : Invocation → Invocation) → ((v : Invocation) → Same v (f v)) → Alike vs (on_top f vs)
touch [] f h = tt
touch (v ∷ vs) f h = (h v, alike_self vs)

touched_good : {t : Tables} {legal : Legal} {i : Instances} {n : ℕ} {c : Contexts} {ts : List (List ℕ)} {bs : List ℕ} (f : Invocation → Invocation) → ((v : Invocation) → Same v (f v)) → (vs : List Invocation) → Whole t legal i n c ts vs bs → Whole t legal i n c ts (on_top f vs) bs
touched_good f h [] g = g
touched_good {i = i} {bs = bs} f h (v ∷ vs) g = record {
  below = g.below;
  whole = g.whole;
  owned = g.owned;
  refer = g.refer;
  attended = g.attended;
  held = g.held;
  borrowed = g.borrowed;
  stacked = λ s o. g.stacked s (by s o);
}
  where
    by : (s : ℕ) → OnStack (f v ∷ vs) bs s → OnStack (v ∷ vs) bs s
    by s (inl (inl e)) = inl (inl (sym (h v).target ∙ e))
    by s (inl (inr q)) = inl (inr q)
    by s (inr q) = inr q

pub touched : (t : Tables) (legal : Legal) (w : World) (f : Invocation → Invocation) → ((v : Invocation) → Same v (f v)) → Good t legal w → AfterOf t legal Any Each w.instances w.next w.temporaries w.invocations w.bodies w.instances w.next w.contexts w.temporaries (on_top f w.invocations) w.bodies
touched t legal w f h g =
    let a = after_self t legal Any Each w g in
    record {
      good = touched_good f h w.invocations g;
      keeps = a.keeps;
      attends = a.attends;
      born = a.born;
      grows = a.grows;
      stack = touch w.invocations f h;
      running = refl;
      level = a.level;
      under = a.under;
      back = a.back;
    }

same_count : (m : Method) (count : ℕ) → m.count ≡ count → nat_eq count m.count ≡ true
same_count m count e = grind (arith, Rattle.std.proofs.lemmas.Bool.Decides.nat_tests)

module _ (t : Tables) (legal : Legal) (fits : Fits t legal) (moves : Moves t legal) where
  abbrev Does : {A : Type 0} → Prog A → World → (Completion A → World → Type 0) → Type 0
  Does p w Q = Goes t legal fits p w Q

  abbrev Leaves : World → Completion Given → World → Type 0
  Leaves w c u = After t legal w u × Told t c

  abbrev Ends : World → Completion Given → World → Type 0
  Ends w c u = After t legal w u × Answered t c

  abbrev IsAble : World → Running → Type 0
  IsAble w r = CanRun t legal w.instances w.next w.invocations r

  -- ---- bodies

  pub body_safe : (r : Running) (w : World) → Good t legal w → IsAble w r → Does (run_body r) w (Ends w)
  body_safe r w g h =
      let there = site_there h.stood.home in
      deeper t legal fits (nat_lt (length w.bodies) w.depth) _ w _ (
      found t legal fits (instance_at w r.instance) there.0 _ w _ there.1 (
      calling t legal fits (Task.Acts r) _ _ (after_change (Change.Start r.instance) (with_entry (entries.Run r.instance r.place) w)) _
      (started w r.instance g there, h, inl refl)
      (λ a u p. (stopped r.instance w.bodies u.bodies p.0, p.1)) (λ x u p. (stopped r.instance w.bodies u.bodies p.0, p.1))))

  -- ---- the end of a chain

  abbrev body_of : Invocation → Code → Prog Given
  body_of v m = call (Task.Body (body_at_start v.target m.place m.body v.parameters v.references []))

  able_member : (w : World) (v : Invocation) (m : Code) → Stood t legal w.instances w.next v.target m.body v.references false → IsAble w (body_at_start v.target m.place m.body v.parameters v.references [])
  able_member w v m s = record { chained = false; stood = s; rest = λ e. absurd (cc); locals = record { found = λ k r e. absurd (cc) }; told = tt }

  each_safe : (v : Invocation) (ms : List Code) (start w : World) → After t legal start w → Busy w.instances w.invocations w.bodies v.target → AllByRecursion (λ m. Stood t legal w.instances w.next v.target m.body v.references false) ms → Does (each ms (body_of v)) w (Ends start)
  each_safe v [] start w a b h = (a, (tt, tt))
  each_safe v (m ∷ []) start w a b h = called t legal fits (Task.Body (body_at_start v.target m.place m.body v.parameters v.references [])) w _ (a.good, able_member w v m h.0) (λ c u p. (after_trans a p.0, p.1))
  each_safe v (m ∷ k ∷ ms) start w a b h =
      calling t legal fits (Task.Body (body_at_start v.target m.place m.body v.parameters v.references [])) _ throw w _ (a.good, able_member w v m h.0)
      (λ g u p. each_safe v (k ∷ ms) start u (after_trans a p.0) (Rattle.cdi_whole.proofs.Remains.busy_then p.0 v.target b) (members_then p.0 v.target v.references b (k ∷ ms) h.1))
      (λ x u p. (after_trans a p.0, p.1))

  given_value : (role : InterceptorMethod) (a : Given) → IsValue (Gave a) → IsValue (Gave (given_by role a))
  given_value roles.AroundInvoke a h = h
  given_value roles.AroundConstruct a h = tt
  given_value roles.PostConstruct a h = tt
  given_value roles.PreDestroy a h = tt

  -- ---- a chain

  -- the instance's instance of the interceptor
  first_safe : {B : Type 0} (w : World) (i : ℕ) (ds : List ℕ) (d : ℕ) (f : ℕ → Prog B) (Q : Completion B → World → Type 0) → IsIn d ds → Lives w.instances d (components.Interceptor i) → ((n : ℕ) → Lives w.instances n (components.Interceptor i) → Does (f n) w Q)
      → Does (handle (first_of w i ds) f throw) w Q
  first_safe w i [] d f Q h l k = absurd h
  first_safe {B} w i (n ∷ ns) d f Q h l k = by (λ q. first_safe w i ns d f Q q l k) (instance_at w n) refl
    where
      rest : IsIn d (n ∷ ns) → (instance_at w n ≡ instance_at w d → ⊥) → IsIn d ns
      rest (inl e) q = absurd (q (ap (instance_at w) e))
      rest (inr q) r = q

      other : (x : Option Instance) → instance_at w n ≡ x → (x ≡ instance_at w d → ⊥) → IsIn d ns
      other x e q = rest h (λ r. q (sym e ∙ r))

      by_component : (IsIn d ns → Does (handle (first_of w i ns) f throw) w Q) → (x : Instance) (c : Component) → instance_at w n ≡ Some x → x.component ≡ c
          → Does (handle (elim (elim c as (λ _. Bool) [ components.Bean b ↦ false | components.Interceptor j ↦ nat_eq i j ]) as (λ _. Prog ℕ) [ true ↦ ret n | false ↦ first_of w i ns ]) f throw) w Q
      by_component on x (components.Bean b) e s =
          on (other (Some x) e (λ r. (let q : Some x ≡ Some l.0 = r ∙ l.1 in let z : x ≡ l.0 = cc in let y : components.Bean b ≡ components.Interceptor i = sym s ∙ (ap (λ (o : Instance). o.component) z ∙ l.2) in cc)))
      by_component on x (components.Interceptor j) e s = elim (equal_or_not i j) [
        | inl q ↦ rw q.0 (k n (x, e, s ∙ ap components.Interceptor (sym q.1)))
        | inr q ↦ rw q.0 (on (other (Some x) e (λ r. (let z : Some x ≡ Some l.0 = r ∙ l.1 in let y : x ≡ l.0 = cc in let v : components.Interceptor j ≡ components.Interceptor i = sym s ∙ (ap (λ (o : Instance). o.component) y ∙ l.2) in let u : j ≡ i = cc in q.1 (sym u)))))
      ]

      by : (IsIn d ns → Does (handle (first_of w i ns) f throw) w Q) → (x : Option Instance) → instance_at w n ≡ x → Does (handle (elim (is_of i x) as (λ _. Prog ℕ) [ true ↦ ret n | false ↦ first_of w i ns ]) f throw) w Q
      by on None e = on (other None e (λ r. (let q : ◌≡◌ {A = Option Instance} None (Some l.0) = r ∙ l.1 in cc)))
      by on (Some x) e = by_component on x x.component e refl

  pub rest_safe : (chain : List ℕ) (w : World) → Good t legal w → CanRest t legal w.instances w.next w.invocations chain → Does (run_rest chain) w (Ends w)
  rest_safe [] w g h = topped t legal fits w.invocations _ w _ none one
    where
      none : w.invocations ≡ [] → ⊥
      none e = subst (λ z. CanRest t legal w.instances w.next z []) e h

      one : (v : Invocation) (vs : List Invocation) → w.invocations ≡ v ∷ vs → Does (handle (each v.members (body_of v)) (λ a. handle (alter Change.Reach) (λ _. ret (given_by v.role a)) throw) throw) w (Ends w)
      one v vs e =
          let q = subst (λ z. CanRest t legal w.instances w.next z []) e h in
          let b : Busy w.instances w.invocations w.bodies v.target = subst (λ z. Busy w.instances z w.bodies v.target) (sym e) (busy_top (inl (inl refl))) in
          then t legal fits (each v.members (body_of v)) _ throw w (Ends w) _ (each_safe v v.members w w (after_self t legal Any Each w g) b q.1)
          (λ a u p. (after_trans p.0 (touched t legal u (λ i. record i { completed = true }) (λ i. record { target = refl; role = refl; members = refl; references = refl }) p.0.good), (given_value v.role a p.1.0, tt))) (λ x u p. p)
  rest_safe (i ∷ chain) w g h = topped t legal fits w.invocations _ w _ none one
    where
      none : w.invocations ≡ [] → ⊥
      none e = subst (λ z. CanRest t legal w.instances w.next z (i ∷ chain)) e h

      one : (v : Invocation) (vs : List Invocation) → w.invocations ≡ v ∷ vs
          → Does (handle (Rattle.cdi_machine.specs.Programs.interceptor_at i) (λ interceptor. handle (Rattle.cdi_machine.specs.Programs.require_present (interceptor.body v.role)) (λ code. handle (interceptor_of v.target i) (λ n.
          handle (call (Task.Body (body_at_start n (places.Interceptor interceptor.name v.role) code v.parameters [] chain))) (λ a. ret (given_by v.role a)) throw) throw) throw) throw) w (Ends w)
      one v vs e =
          let q = subst (λ z. CanRest t legal w.instances w.next z (i ∷ chain)) e h in
          let f = q.0.0.0 in
          let s = q.0.0.1 in
          found t legal fits (t.interceptor i) f.interceptor _ w _ f.known (
          found t legal fits (f.interceptor.body v.role) f.body _ w _ f.has (
          found_two t legal fits (instance_at w v.target) s.0 (λ o. see (λ _ w. first_of w i o.dependents)) _ w _ s.1 (
          first_safe w i s.0.dependents s.2.0 _ (Ends w) s.2.1 s.2.2 (λ n l.
          calling t legal fits (Task.Body (body_at_start n (places.Interceptor f.interceptor.name v.role) f.body v.parameters [] chain)) _ throw w _ (
            g,
            record {
              chained = true;
              stood = record { site = interceptor_site f.interceptor f.body; is = refl; chains = refl; fits = f.fits; home = Home.on_interceptor i f.interceptor f.body f.known l refl; points = tt };
              rest = λ _. subst (λ z. CanRest t legal w.instances w.next z chain) (sym e) (q.0.1, q.1);
              locals = record { found = λ k r z. absurd (cc) };
              told = tt;
            },
          ) (λ a u p. (p.0, (given_value v.role a p.1.0, tt))) (λ x u p. p)))))
