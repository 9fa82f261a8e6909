-- Acts of bodies, and the methods that they call, miss nothing.
use Rattle.std.proofs.Common.{ℕ, ◌≡◌, ◌⊎◌, inl, inr, List, [], ◌∷◌, length, Bool, true, false, cond, Option, Some, None, refl, sym, ap, ◌∙◌, subst, arith, nat_eq}
use Rattle.std.specs.Prelude.{◌||◌, nat_lt, slice_get, not}
use Rattle.std.specs.List.{AllByRecursion}
use Rattle.cdi_base.specs.declared.value.Value.{Value}
use Rattle.cdi_base.specs.declared.value.Value.TheVariants as values
use Rattle.cdi_base.specs.declared.act.Act.{Act}
use Rattle.cdi_bodies.specs.declared.view.View.{View}
use Rattle.cdi_base.specs.declared.act.Act.TheVariants as acts
use Rattle.cdi_base.specs.declared.act.Via.{Via}
use Rattle.cdi_base.specs.declared.act.Via.TheVariants as vias
use Rattle.cdi_base.specs.declared.act.Answer.{Answer}
use Rattle.cdi_base.specs.declared.act.Answer.TheVariants as answers
use Rattle.cdi_base.specs.declared.entry.Entry.TheVariants as entries
use Rattle.cdi_base.specs.declared.built_in.BuiltIn.TheVariants as built_in
use Rattle.cdi_base.specs.declared.place.InterceptorMethod.TheVariants as roles
use Rattle.cdi_base.specs.declared.uses.Use.{Use}
use Rattle.cdi_base.specs.Fields.{has}
use Rattle.cdi_base.specs.Maps.{at, put}
use Rattle.cdi_store.specs.declared.instance.Component.{Component}
use Rattle.cdi_store.specs.declared.instance.Component.TheVariants as components
use Rattle.cdi_store.specs.declared.instance.Owner.TheVariants as owners
use Rattle.cdi_store.specs.declared.instance.Phase.TheVariants as phases
use Rattle.cdi_store.specs.declared.instance.Instance.{Instance}
use Rattle.cdi_store.specs.declared.references.Reference.{Reference}
use Rattle.cdi_store.specs.declared.references.Reference.TheVariants.{Direct, Proxy}
use Rattle.cdi_store.specs.declared.references.Reference.TheVariants.{Empty as NoReference}
use Rattle.cdi_store.specs.Live.{Instances}
use Rattle.cdi_store.proofs.Numbers.{equal_or_not}
use Rattle.cdi_machine.specs.Words.{Name, Asked}
use Rattle.cdi_machine.specs.Tables.{Tables, Method, Managed, Kind, Bean, One, written_act}
use Rattle.cdi_machine.specs.World.{World, Change, after_change, with_entry, instance_at}
use Rattle.cdi_machine.specs.Programs.{Task, Given, Completion, Gave, Threw, Running, Prog, ret, throw, handle, attempt, call, require}
use Rattle.cdi_machine.specs.Contexts.{reach_instance}
use Rattle.cdi_machine.specs.Bodies.{body_at_start, reference_at, find_reference, bean_of, method_in, method_of, invoke_method, fits as takes_as_many, replace_parameters, repeats, proceed, carry_out, find, answer_of, with_answer, after_act, answer_find, perform, carry_on}
use Rattle.cdi_machine.specs.Runs.{Legal}
use Rattle.cdi_ledger.specs.Whose.{IsIn}
use Rattle.cdi_whole.specs.Fits.{Site, class_site, interceptor_site, intercepted_by, HasMethod, IsClassOf, LeadsTo, AnswersCalls, FitsAct, FitsManaged, FitsKind, FitsBean, Fits}
use Rattle.cdi_ledger.proofs.Maps.{all_last, put_at}
use Rattle.cdi_whole.proofs.Whole.{Lives, Serves, Refers, IsFor, Good}
use Rattle.cdi_whole.proofs.Remains.{Any, Each, After, after_self, after_trans}
use Rattle.cdi_whole.proofs.Terms.{Home, CanRest, CanRun, IsAnswered, Told, Answered}
use Rattle.cdi_whole.proofs.Statements.{Goes, then, loosen, found, found_two, found_last, expected, topped, called}
use Rattle.cdi_whole.proofs.Moves.{Moves}
use Rattle.cdi_whole.proofs.References.{Referred, Reaches, resolving, refer_safe, reach_safe}
use Rattle.cdi_whole.proofs.Invocations.{call_safe}
use Rattle.cdi_whole.proofs.Creation.{has_at, ready_attended}
use Rattle.cdi_whole.proofs.Bodies.{site_fields, site_injected, site_there, got_for, touched, run_then, rest_then, thrown_text}
use Rattle.cdi_machine.specs.DestroyAct.{is_idle, destroy_idle, is_made, destroy_held, destroy_by}
use Rattle.cdi_whole.proofs.Busy.{idle_by}
use Rattle.cdi_whole.proofs.Remains.{But, AfterAt}
use Rattle.cdi_whole.proofs.Terms.{Gives}
use Rattle.cdi_ledger.proofs.Holdings.{AllHeld, EachHeld}
use Rattle.cdi_whole.proofs.Contexts.{held_at}
use Rattle.cdi_ledger.proofs.Maps.{all_at}
use Rattle.cdi_whole.proofs.Whole.{HeldBy, IsFree}
use Rattle.cdi_contexts.specs.Contexts.{Active, context_of, context_at}
use Rattle.cdi_contexts.specs.declared.context.Held.{Held}
use Rattle.cdi_contexts.specs.declared.context.Held.TheVariants.{Making, Is}
use Rattle.cdi_store.specs.declared.instance.Context.{Context}
use Rattle.cdi_store.specs.declared.instance.Phase.{Phase}
use Rattle.cdi_machine.specs.Programs.{context, active_in, active_or_raise}

same_count : (m : Method) (count : ℕ) → m.count ≡ count → nat_eq count m.count ≡ true
same_count m count e = grind (arith, Rattle.std.proofs.lemmas.Bool.Decides.nat_tests)

-- the bean that can be had is the managed one
pub managed_of : {t : Tables} {legal : Legal} {b : ℕ} {c : Managed} → FitsBean t legal b → IsClassOf t b c → FitsManaged t legal b c
managed_of {t} {legal} {b} {c} served is =
    let q : Some served.bean ≡ Some is.bean = sym served.known ∙ is.known in
    let r : served.bean ≡ is.bean = cc in
    record { is = is; fits = subst (FitsKind t legal) (ap (λ (x : Bean). x.kind) r ∙ is.is) served.kind }

-- an instance of a bean is no interceptor
pub bean_free : (instances : Instances) (n b : ℕ) → Lives instances n (components.Bean b) → IsFree instances n
bean_free instances n b lives i m o l e h r =
    let y : Some l.0 ≡ Some lives.0 = sym l.1 ∙ lives.1 in
    let z : l.0 ≡ lives.0 = cc in
    let v : components.Interceptor i ≡ components.Bean b = sym l.2 ∙ (ap (λ (o : Instance). o.component) z ∙ lives.2) in
    cc

-- what is destroyed isn't an interceptor's
pub bean_gone : (t : Tables) (legal : Legal) (w u : World) (n b : ℕ) → Lives w.instances n (components.Bean b) → AfterAt t legal Any (But n) w u → After t legal w u
bean_gone t legal w u n b lives a = record {
  good = a.good;
  keeps = a.keeps;
  attends = λ m o d i p e h s k l. a.attends m o d i p e h (apart d i l) k l;
  born = a.born;
  grows = a.grows;
  stack = a.stack;
  running = a.running;
  level = a.level;
  under = a.under;
  back = a.back;
}
  where
    apart : (d i : ℕ) → Lives w.instances d (components.Interceptor i) → d ≡ n → ⊥
    apart d i l e =
        let x : at w.instances n ≡ Some l.0 = subst (λ z. at w.instances z ≡ Some l.0) e l.1 in
        let y : Some l.0 ≡ Some lives.0 = sym x ∙ lives.1 in
        let z : l.0 ≡ lives.0 = cc in
        let v : components.Interceptor i ≡ components.Bean b = sym l.2 ∙ (ap (λ (o : Instance). o.component) z ∙ lives.2) in
        cc

module _ (t : Tables) (legal : Legal) (fits : Fits t legal) (moves : Moves t legal) where
  abbrev Does : {A : Type 0} → Prog A → World → (Completion A → World → Type 0) → Type 0
  Does p w Q = Goes t legal fits p w Q

  abbrev Leaves : World → Completion Given → World → Type 0
  Leaves w c u = After t legal w u × Told t c

  abbrev Ends : World → Completion Given → World → Type 0
  Ends w c u = After t legal w u × Answered t c

  abbrev IsAble : World → Running → Type 0
  IsAble w r = CanRun t legal w.instances w.next w.invocations r

  -- ---- methods

  method_safe : {B : Type 0} (n b : ℕ) (c : Managed) (name : Name) (m : Method) (f : Method → Prog B) (w : World) (Q : Completion B → World → Type 0)
      → FitsManaged t legal b c → Lives w.instances n (components.Bean b) → at c.methods name ≡ Some m → Does (f m) w Q → Does (handle (method_of n name) f throw) w Q
  method_safe n b c name m f w Q served lives has d =
      then t legal fits (method_of n name) f throw w (λ x u. (x ≡ Gave m) × (u ≡ w)) Q there
      (λ a u p. let q : a ≡ m = same a p.0 in subst (λ v. Does (f a) v Q) (sym p.1) (subst (λ b. Does (f b) w Q) (sym q) d))
      (λ x u p. absurd (never x p.0))
    where
      same : (a : Method) → Gave a ≡ Gave m → a ≡ m
      same a e = cc

      never : (x : Name) → ◌≡◌ {A = Completion Method} (Threw x) (Gave m) → ⊥
      never x e = cc

      in_class : (kind : Kind) → kind ≡ Kind.Class c → Does (method_in kind name) w (λ x u. (x ≡ Gave m) × (u ≡ w))
      in_class kind e = subst (λ k. Does (method_in k name) w (λ x u. (x ≡ Gave m) × (u ≡ w))) (sym e) (found_last t legal fits (at c.methods name) m w _ has (refl, refl))

      of_bean : (component : Component) → component ≡ components.Bean b → Does (handle (bean_of component) (λ b. method_in b.kind name) throw) w (λ x u. (x ≡ Gave m) × (u ≡ w))
      of_bean component e =
          subst (λ z. Does (handle (bean_of z) (λ b. method_in b.kind name) throw) w (λ x u. (x ≡ Gave m) × (u ≡ w))) (sym e)
          (found t legal fits (t.bean b) served.is.bean (λ b. method_in b.kind name) w _ served.is.known (in_class served.is.bean.kind served.is.is))

      there : Does (method_of n name) w (λ x u. (x ≡ Gave m) × (u ≡ w))
      there = found t legal fits (instance_at w n) lives.0 _ w _ lives.1 (of_bean lives.0.component lives.2)

  -- a call of a method from outside
  pub method_call_safe : (n b : ℕ) (c : Managed) (name : Name) (args : List Value) (w : World) → Good t legal w → FitsManaged t legal b c → Serves w.instances n (components.Bean b) → HasMethod c.methods name (length args)
      → Does (invoke_method n name args) w (Ends w)
  method_call_safe n b c name args w g served lives takes =
      let m = takes.method in
      let fit = served.fits.methods name m takes.has in
      method_safe n b c name m _ w _ served (lives.0, lives.1, lives.2) takes.has (
      expected t legal fits (nat_eq (length args) m.count) _ w _ (same_count m (length args) takes.takes) (
      call_safe t legal fits w n b c roles.AroundInvoke (m.code ∷ []) args (intercepted_by c.plan) m.chain g served (lives.0, lives.1, lives.2) (fit.body, tt) fit.chain
      (ready_attended w n b c g served lives.0 lives.1 lives.2 lives.3)))

  -- ---- references

  -- a reference of the body leads to the bean
  pub record Leads (w : World) (s : Site) (via : Via) (r : Reference) : Type 0 where
    pub bean : ℕ
    pub leads : LeadsTo t s via bean
    pub served : FitsBean t legal bean
    pub refers : Refers w.instances w.next bean r

  by_point : (w : World) (s : Site) (via : Via) (r : Reference) (point : Asked) → IsFor t w.instances w.next point r → ((b : ℕ) → t.resolve point ≡ One b → LeadsTo t s via b) → Leads w s via r
  by_point w s via r point h f = record { bean = h.bean; leads = f h.bean h.resolves; served = fits.resolved point h.bean h.resolves; refers = h.refers }

  via_safe : {B : Type 0} (r : Running) (via : Via) (f : Reference → Prog B) (w : World) (Q : Completion B → World → Type 0) → Good t legal w → (h : IsAble w r) → Does (f NoReference) w Q → ((x : Reference) → Leads w h.stood.site via x → Does (f x) w Q)
      → Does (handle (find_reference r via) f throw) w Q
  via_safe r (vias.Field name) f w Q g h none k =
      let there = site_there h.stood.home in
      found_two t legal fits (instance_at w r.instance) there.0 (λ o. ret (reference_at (at o.references name))) f w Q there.1 (by there.0 there.1 (at there.0.references name) refl)
    where
      by : (o : Instance) → instance_at w r.instance ≡ Some o → (x : Option Reference) → at o.references name ≡ x → Does (f (reference_at x)) w Q
      by o e None q = none
      by o e (Some x) q =
          let p = g.refer r.instance o name x e q in
          k x (by_point w h.stood.site (vias.Field name) x p.0 p.2 (λ b s. (p.0, subst (IsIn (name, p.0)) (site_injected h.stood.home o e) p.1, s)))
  via_safe r (vias.Param j) f w Q g h none k = by (slice_get r.references j) refl
    where
      by : (x : Option Reference) → slice_get r.references j ≡ x → Does (f (reference_at x)) w Q
      by None q = none
      by (Some x) q = let p = got_for t w.instances w.next h.stood.site.points r.references j x h.stood.points q in k x (by_point w h.stood.site (vias.Param j) x p.0 p.2 (λ b s. (p.0, p.1, s)))
  via_safe r (vias.Local j) f w Q g h none k = by (at r.locals j) refl
    where
      by : (x : Option Reference) → at r.locals j ≡ x → Does (f (reference_at x)) w Q
      by None q = none
      by (Some x) q = let p = h.locals.found j x q in k x (by_point w h.stood.site (vias.Local j) x p.0 p.2 (λ b s. (p.0, subst (λ z. t.lookup z j ≡ Some p.0) (sym h.stood.is) p.1, s)))

  empty_safe : (f : ℕ → Prog Given) (w : World) → Good t legal w → Does (handle (reach_instance NoReference) f throw) w (Leaves w)
  empty_safe f w g = (after_self t legal Any Each w g, fits.texts built_in.NullPointerException)

  -- what is behind a reference is reached, and used
  through_safe : (r : Running) (via : Via) (f : ℕ → Prog Given) (w : World) → Good t legal w → (h : IsAble w r)
      → ((b n : ℕ) (u : World) → LeadsTo t h.stood.site via b → FitsBean t legal b → Good t legal u → Serves u.instances n (components.Bean b) → Does (f n) u (Leaves u))
      → Does (handle (find_reference r via) (λ target. handle (reach_instance target) f throw) throw) w (Leaves w)
  through_safe r via f w g h k =
      via_safe r via (λ target. handle (reach_instance target) f throw) w (Leaves w) g h (empty_safe f w g)
      (λ x l. then t legal fits (reach_instance x) f throw w (λ d u. After t legal w u × Reaches u.instances l.bean d × Told t d) (Leaves w) (reach_safe t legal fits x l.bean w g l.served l.refers)
      (λ n u q. loosen t legal fits (f n) u (Leaves u) (Leaves w) (k l.bean n u l.leads l.served q.0.good q.1) (λ d v p. (after_trans q.0 p.0, p.1)))
      (λ y u q. (q.0, q.2)))

  -- ---- acts

  set_safe : (r : Running) (field : Name) (v : Value) (w : World) → Good t legal w → (h : IsAble w r) → has h.stood.site.fields field ≡ true → Does (carry_out r (acts.Set field v)) w (Leaves w)
  set_safe r field v w g h q =
      let there = site_there h.stood.home in
      let x = has_at there.0.fields field ((g.whole r.instance there.0 there.1).fields field ∙ (ap (λ z. has z field) (site_fields h.stood.home there.0 there.1) ∙ q)) in
      found t legal fits (instance_at w r.instance) there.0 _ w _ there.1 (found t legal fits (at there.0.fields field) x.0 _ w _ x.1 (moves.assigns w r.instance field v g, tt))

  call_act_safe : (r : Running) (via : Via) (name : Name) (args : List Value) (w : World) → Good t legal w → (h : IsAble w r) → ((b : ℕ) → LeadsTo t h.stood.site via b → AnswersCalls t b name (length args)) → Does (carry_out r (acts.Call via name args)) w (Leaves w)
  call_act_safe r via name args w g h q =
      through_safe r via (λ n. invoke_method n name args) w g h
      (λ b n u l served k lives. let a = q b l in
      loosen t legal fits (invoke_method n name args) u (Ends u) (Leaves u) (method_call_safe n b a.class name args u k (managed_of served a.is) lives a.takes) (λ d v p. (p.0, p.1.1)))

  read_safe : (r : Running) (via : Via) (w : World) → Good t legal w → IsAble w r → Does (carry_out r (acts.Read via)) w (Leaves w)
  read_safe r via w g h =
      through_safe r via _ w g h (λ b n u l served k lives. found t legal fits (instance_at u n) lives.0 _ u _ lives.1 (after_self t legal Any Each u k, tt))

  write_safe : (r : Running) (via : Via) (v : Value) (w : World) → Good t legal w → IsAble w r → Does (carry_out r (acts.Write via v)) w (Leaves w)
  write_safe r via v w g h =
      through_safe r via _ w g h (λ b n u l served k lives. (moves.holds u n v k, tt))

  own_safe : (r : Running) (name : Name) (args : List Value) (w : World) → Good t legal w → (h : IsAble w r) → HasMethod h.stood.site.methods name (length args) → Does (carry_out r (acts.Own name args)) w (Leaves w)
  own_safe r name args w g h takes = by h.stood.home
    where
      by : Home t legal w.instances r.instance h.stood.site → Does (carry_out r (acts.Own name args)) w (Leaves w)
      by (Home.on_bean b c points body served lives e) =
          let has : at c.methods name ≡ Some takes.method = subst (λ (s : Site). at s.methods name ≡ Some takes.method) e takes.has in
          let m = takes.method in
          let fit = served.fits.methods name m has in
          method_safe r.instance b c name m _ w _ served lives has (
          expected t legal fits (nat_eq (length args) m.count) _ w _ (same_count m (length args) takes.takes) (
          called t legal fits (Task.Body (body_at_start r.instance m.code.place m.code.body args [] [])) w _ (
            g,
            record {
              chained = false;
              stood = record { site = class_site c [] m.code.body; is = refl; chains = refl; fits = fit.body; home = Home.on_bean b c [] m.code.body served lives refl; points = tt };
              rest = λ q. absurd (cc);
              locals = record { found = λ k x q. absurd (cc) };
              told = tt;
            },
          ) (λ d u p. (p.0, p.1.1))))
      by (Home.on_interceptor i k body known lives e) =
          let has : at (interceptor_site k body).methods name ≡ Some takes.method = subst (λ (s : Site). at s.methods name ≡ Some takes.method) e takes.has in
          absurd (cc)

  fire_act_safe : (r : Running) (class : Name) (qualifiers : List Use) (v : Value) (w : World) → Good t legal w → Does (carry_out r (acts.Fire class qualifiers v)) w (Leaves w)
  fire_act_safe r class qualifiers v w g = called t legal fits (Task.Fire class qualifiers v) w _ g (λ d u p. p)

  -- ---- the invocation

  chained_rest : (r : Running) (w : World) (h : IsAble w r) → h.stood.site.chained ≡ true → CanRest t legal w.instances w.next w.invocations r.rest
  chained_rest r w h q = h.rest (sym h.stood.chains ∙ q)

  not_empty : (r : Running) (w : World) → CanRest t legal w.instances w.next w.invocations r.rest → w.invocations ≡ [] → ⊥
  not_empty r w h e = subst (λ z. CanRest t legal w.instances w.next z r.rest) e h

  required : (b : Bool) (x : Rattle.cdi_base.specs.declared.built_in.BuiltIn.BuiltIn) (f : Unit {0} → Prog Given) (w : World) → Good t legal w → Does (f tt) w (Leaves w) → Does (handle (require b x) f throw) w (Leaves w)
  required true x f w g d = d
  required false x f w g d = (after_self t legal Any Each w g, fits.texts x)

  rest_call : (chain : List ℕ) (start w : World) → After t legal start w → CanRest t legal w.instances w.next w.invocations chain → Does (call (Task.Rest chain)) w (Leaves start)
  rest_call chain start w a h = called t legal fits (Task.Rest chain) w _ (a.good, h) (λ d u p. (after_trans a p.0, p.1.1))

  replaced : (r : Running) (args : Option (List Value)) (w : World) → Good t legal w → CanRest t legal w.instances w.next w.invocations r.rest → Does (handle (replace_parameters args) (λ _. call (Task.Rest r.rest)) throw) w (Leaves w)
  replaced r None w g h = rest_call r.rest w w (after_self t legal Any Each w g) h
  replaced r (Some vs) w g h =
      let a = touched t legal w (λ i. record i { parameters = vs }) (λ i. record { target = refl; role = refl; members = refl; references = refl }) g in
      rest_call r.rest w (after_change (Change.Replace vs) w) a (rest_then a r.rest h)

  proceed_safe : (r : Running) (args : Option (List Value)) (w : World) → Good t legal w → (h : IsAble w r) → h.stood.site.chained ≡ true → Does (proceed r args) w (Leaves w)
  proceed_safe r args w g h q =
      let rest = chained_rest r w h q in
      topped t legal fits w.invocations _ w (Leaves w) (not_empty r w rest)
      (λ v vs e. required (takes_as_many v.parameters args) built_in.IllegalArgumentException _ w g
      (required (repeats v.role || not r.proceeded) built_in.IllegalStateException _ w g (replaced r args w g rest)))

  keep_safe : (r : Running) (key : Name) (v : Value) (w : World) → Good t legal w → Does (carry_out r (acts.Keep key v)) w (Leaves w)
  keep_safe r key v w g = (touched t legal w (λ i. record i { data_of = put key v i.data_of }) (λ i. record { target = refl; role = refl; members = refl; references = refl }) g, tt)

  peek_safe : (r : Running) (key : Name) (w : World) → Good t legal w → (h : IsAble w r) → h.stood.site.chained ≡ true → Does (carry_out r (acts.Peek key)) w (Leaves w)
  peek_safe r key w g h q = topped t legal fits w.invocations _ w (Leaves w) (not_empty r w (chained_rest r w h q)) (λ v vs e. (after_self t legal Any Each w g, tt))

  -- ---- the destroy act

  idle_safe : (n b : ℕ) (w : World) → Good t legal w → Serves w.instances n (components.Bean b) → Does (destroy_idle n) w (Leaves w)
  idle_safe n b w g lives = by (is_idle w n) refl
    where
      after : (d : Completion Given) (u : World) → Gives d (AfterAt t legal Any (But n) w u) → Leaves w d u
      after (Gave a) u p = (bean_gone t legal w u n b (lives.0, lives.1, lives.2) p, tt)
      after (Threw x) u p = absurd p

      by : (c : Bool) → is_idle w n ≡ c → Does (handle (require c built_in.IllegalStateException) (λ _. call (Task.Destroy n)) throw) w (Leaves w)
      by true e = called t legal fits (Task.Destroy n) w _ (g, (lives.0, lives.1, lives.3), idle_by w g n e, bean_free w.instances n b (lives.0, lives.1, lives.2)) after
      by false e = (after_self t legal Any Each w g, fits.texts built_in.IllegalStateException)

  held_safe : (b n : ℕ) (c : Context) (a : Active) (w : World) → Good t legal w → context_at w.contexts c ≡ Some a → at a.holds b ≡ Some (Is n) → Serves w.instances n (components.Bean b)
  held_safe b n c a w g e h =
      let held : AllHeld (HeldBy w.instances c) (Some a) = subst (λ x. AllHeld (HeldBy w.instances c) x) e (held_at (HeldBy w.instances) w.contexts c g.held) in
      let s = all_at (λ p. EachHeld (HeldBy w.instances c) p.0 p.1) a.holds b (Is n) held h in
      (s.instance, s.there, s.of, s.phase_is)

  proxy_safe : (b : ℕ) (w : World) → Good t legal w → FitsBean t legal b → Does (destroy_by (Proxy b)) w (Leaves w)
  proxy_safe b w g served = found t legal fits (t.bean b) served.bean _ w _ served.known (by_scope (context_of w.environment served.bean.scope) refl)
    where
      by_held : (c : Context) (a : Active) → context_at w.contexts c ≡ Some a → (x : Option Held) → at a.holds b ≡ x → Does (destroy_held x) w (Leaves w)
      by_held c a e None h = (after_self t legal Any Each w g, tt)
      by_held c a e (Some Making) h = (after_self t legal Any Each w g, fits.texts built_in.IllegalStateException)
      by_held c a e (Some (Is n)) h = idle_safe n b w g (held_safe b n c a w g e h)

      by_context : (c : Context) (x : Option Active) → context_at w.contexts c ≡ x → Does (handle (active_or_raise (Rattle.std.specs.Prelude.option_map (λ a. record { context = c; has = a }) x)) (λ c. destroy_held (at c.has.holds b)) throw) w (Leaves w)
      by_context c None e = (after_self t legal Any Each w g, fits.texts built_in.ContextNotActiveException)
      by_context c (Some a) e = by_held c a e (at a.holds b) refl

      by_scope : (x : Option Context) → context_of w.environment served.bean.scope ≡ x → Does (handle (context served.bean.scope) (λ c. destroy_held (at c.has.holds b)) throw) w (Leaves w)
      by_scope None e = subst (λ z. Does (handle (active_or_raise (active_in w z)) (λ c. destroy_held (at c.has.holds b)) throw) w (Leaves w)) (sym e) (after_self t legal Any Each w g, fits.texts built_in.ContextNotActiveException)
      by_scope (Some c) e = subst (λ z. Does (handle (active_or_raise (active_in w z)) (λ c. destroy_held (at c.has.holds b)) throw) w (Leaves w)) (sym e) (by_context c (context_at w.contexts c) refl)

  destroy_by_safe : (x : Reference) (b : ℕ) (w : World) → Good t legal w → FitsBean t legal b → Refers w.instances w.next b x → Does (destroy_by x) w (Leaves w)
  destroy_by_safe NoReference b w g served q = (after_self t legal Any Each w g, fits.texts built_in.NullPointerException)
  destroy_by_safe (Proxy c) b w g served q = proxy_safe c w g (subst (FitsBean t legal) (sym q) served)
  destroy_by_safe (Direct n) b w g served q = by (instance_at w n) refl
    where
      by_phase : (o : Instance) → instance_at w n ≡ Some o → (p : Phase) → o.phase ≡ p → Does (handle (require (elim p as (λ _. Bool) [ phases.New ↦ false | phases.Ready ↦ true | phases.Leaving ↦ false ]) built_in.IllegalStateException) (λ _. destroy_idle n) throw) w (Leaves w)
      by_phase o e phases.New f = (after_self t legal Any Each w g, fits.texts built_in.IllegalStateException)
      by_phase o e phases.Ready f = idle_safe n b w g (o, e, q.1.is o e, f)
      by_phase o e phases.Leaving f = (after_self t legal Any Each w g, fits.texts built_in.IllegalStateException)

      by : (x : Option Instance) → instance_at w n ≡ x → Does (handle (require (is_made x) built_in.IllegalStateException) (λ _. destroy_idle n) throw) w (Leaves w)
      by None e = (after_self t legal Any Each w g, fits.texts built_in.IllegalStateException)
      by (Some o) e = by_phase o e o.phase refl

  destroy_act_safe : (r : Running) (k : ℕ) (w : World) → Good t legal w → IsAble w r → Does (carry_out r (acts.Destroy k)) w (Leaves w)
  destroy_act_safe r k w g h = by (at r.locals k) refl
    where
      by : (x : Option Reference) → at r.locals k ≡ x → Does (destroy_by (reference_at x)) w (Leaves w)
      by None e = (after_self t legal Any Each w g, fits.texts built_in.NullPointerException)
      by (Some x) e = let p = h.locals.found k x e in destroy_by_safe x p.2.bean w g (fits.resolved p.0 p.2.bean p.2.resolves) p.2.refers

  -- ---- what an act is answered

  -- the body goes on with one answer more
  go_on : (r : Running) (answer : Answer) (start w : World) → After t legal start w → IsAble w r → IsIn r.instance w.bodies → IsAnswered t answer → Does (call (Task.Acts (with_answer r answer))) w (Ends start)
  go_on r answer start w a h on q =
      called t legal fits (Task.Acts (with_answer r answer)) w _
      (a.good, record { chained = h.chained; stood = h.stood; rest = h.rest; locals = h.locals; told = all_last (IsAnswered t) r.view.answers answer h.told q }, on) (λ c u p. (after_trans a p.0, p.1))

  answer_safe : (r : Running) (c : Completion Given) (start w : World) → After t legal start w → IsAble w r → IsIn r.instance w.bodies → Told t c
      → Does (handle (answer_of c) (λ answer. call (Task.Acts (with_answer r answer))) throw) w (Ends start)
  answer_safe r (Gave (Given.Result v)) start w a h on q = go_on r (answers.Done v) start w a h on tt
  answer_safe r (Gave (Given.Number n)) start w a h on q = go_on r (answers.Done values.Null) start w a h on tt
  answer_safe r (Gave Given.Empty) start w a h on q = go_on r (answers.Done values.Null) start w a h on tt
  answer_safe r (Threw x) start w a h on q = found_two t legal fits (t.text x) q.0 _ _ w _ q.1 (go_on r (answers.Threw x q.0) start w a h on q)

  still_on : (n : ℕ) (w u : World) → After t legal w u → IsIn n w.bodies → IsIn n u.bodies
  still_on n w u a h = subst (IsIn n) (sym a.running) h

  told_safe : (r : Running) (p : Prog Given) (w : World) → Good t legal w → IsAble w r → IsIn r.instance w.bodies → Does p w (Leaves w)
      → Does (handle (attempt p) (λ c. handle (answer_of c) (λ answer. call (Task.Acts (with_answer r answer))) throw) throw) w (Ends w)
  told_safe r p w g h on d =
      then t legal fits (attempt p) _ throw w came _
      (then t legal fits p (λ a. ret (Gave a)) (λ x. ret (Threw x)) w (Leaves w) came d (λ a u q. q) (λ x u q. q))
      (λ c u q. answer_safe r c w u q.0 (run_then q.0 r on h) (still_on r.instance w u q.0 on) q.1)
      (λ x u q. absurd q)
    where
      came : Completion (Completion Given) → World → Type 0
      came (Gave c) u = After t legal w u × Told t c
      came (Threw x) u = ⊥

  -- ---- lookups

  find_safe : (r : Running) (k : ℕ) (point : Asked) (w : World) → Good t legal w → IsIn r.instance w.bodies → t.lookup r.body k ≡ Some point
      → Does (find r k) w (λ c u. After t legal w u × Rattle.cdi_whole.proofs.References.Pointed t u.instances u.next point c × Told t c)
  find_safe r k point w g on e =
      found t legal fits (t.lookup r.body k) point _ w _ e
      (Rattle.cdi_whole.proofs.References.point_safe t legal fits point (owners.Instance r.instance) w g (let s = g.stacked r.instance (inr on) in g.below r.instance s.0 s.1))

  with_local : (w : World) (r : Running) (k : ℕ) (x : Reference) (point : Asked) → t.lookup r.body k ≡ Some point → IsFor t w.instances w.next point x → IsAble w r → IsAble w (record r { locals = put k x r.locals })
  with_local w r k x point e f h = record { chained = h.chained; stood = h.stood; rest = h.rest; locals = record { found = λ j y q. by j y (equal_or_not j k) q }; told = h.told }
    where
      by : (j : ℕ) (y : Reference) → ((nat_eq j k ≡ true) × (j ≡ k)) ⊎ ((nat_eq j k ≡ false) × (j ≡ k → ⊥)) → at (put k x r.locals) j ≡ Some y → (p : Asked) × (t.lookup r.body j ≡ Some p) × IsFor t w.instances w.next p y
      by j y (inl s) q =
          let z : cond (nat_eq j k) (Some x) (at r.locals j) ≡ Some y = sym (put_at r.locals k x j) ∙ q in
          let v : Some x ≡ Some y = rw s.0 at z in
          let u : x ≡ y = cc in
          (point, subst (λ i. t.lookup r.body i ≡ Some point) (sym s.1) e, subst (IsFor t w.instances w.next point) u f)
      by j y (inr s) q =
          let z : cond (nat_eq j k) (Some x) (at r.locals j) ≡ Some y = sym (put_at r.locals k x j) ∙ q in
          let v : at r.locals j ≡ Some y = rw s.0 at z in
          h.locals.found j y v

  find_act_safe : (r : Running) (k : ℕ) (point : Asked) (w : World) → Good t legal w → IsAble w r → IsIn r.instance w.bodies → t.lookup r.body k ≡ Some point → Does (perform r (acts.Find k)) w (Ends w)
  find_act_safe r k point w g h on e =
      then t legal fits (attempt (find r k)) (answer_find r k) throw w came (Ends w)
      (then t legal fits (find r k) (λ a. ret (Gave a)) (λ x. ret (Threw x)) w (λ c u. After t legal w u × Rattle.cdi_whole.proofs.References.Pointed t u.instances u.next point c × Told t c) came (find_safe r k point w g on e) (λ a u q. q) (λ x u q. q))
      (λ c u q. by c u q.0 q.1 q.2)
      (λ x u q. absurd q)
    where
      came : Completion (Completion Reference) → World → Type 0
      came (Gave c) u = After t legal w u × Rattle.cdi_whole.proofs.References.Pointed t u.instances u.next point c × Told t c
      came (Threw x) u = ⊥

      by : (c : Completion Reference) (u : World) → After t legal w u → Rattle.cdi_whole.proofs.References.Pointed t u.instances u.next point c → Told t c → Does (answer_find r k c) u (Ends w)
      by (Gave x) u a f q = go_on (record r { locals = put k x r.locals }) (answers.Found k) w u a (with_local u r k x point e f (run_then a r on h)) (still_on r.instance w u a on) tt
      by (Threw x) u a f q = answer_safe r (Threw x) w u a (run_then a r on h) (still_on r.instance w u a on) q

  -- ---- acts and their answers

  proceeded_too : (w : World) (r : Running) (b : Bool) → IsAble w r → IsAble w (record r { proceeded = b })
  proceeded_too w r b h = record { chained = h.chained; stood = h.stood; rest = h.rest; locals = h.locals; told = h.told }

  perform_safe : (r : Running) (a : Act) (w : World) → Good t legal w → (h : IsAble w r) → IsIn r.instance w.bodies → FitsAct t h.stood.site r.view a → Does (perform r a) w (Ends w)
  perform_safe r (acts.Set field v) w g h on q = told_safe r (carry_out r (acts.Set field v)) w g h on (set_safe r field v w g h q)
  perform_safe r (acts.Own name args) w g h on q = told_safe r (carry_out r (acts.Own name args)) w g h on (own_safe r name args w g h q)
  perform_safe r (acts.Call via name args) w g h on q = told_safe r (carry_out r (acts.Call via name args)) w g h on (call_act_safe r via name args w g h q.1)
  perform_safe r (acts.Read via) w g h on q = told_safe r (carry_out r (acts.Read via)) w g h on (read_safe r via w g h)
  perform_safe r (acts.Write via v) w g h on q = told_safe r (carry_out r (acts.Write via v)) w g h on (write_safe r via v w g h)
  perform_safe r (acts.Fire class qualifiers v) w g h on q = told_safe r (carry_out r (acts.Fire class qualifiers v)) w g h on (fire_act_safe r class qualifiers v w g)
  perform_safe r (acts.Proceed args) w g h on q = told_safe (after_act r (acts.Proceed args)) (carry_out r (acts.Proceed args)) w g (proceeded_too w r (r.proceeded || takes_as_many r.view.args args) h) on (proceed_safe r args w g h q)
  perform_safe r (acts.Find k) w g h on q = find_act_safe r k q.0 w g h on (subst (λ z. t.lookup z k ≡ Some q.0) h.stood.is q.1)
  perform_safe r (acts.Keep key v) w g h on q = told_safe r (carry_out r (acts.Keep key v)) w g h on (keep_safe r key v w g)
  perform_safe r (acts.Peek key) w g h on q = told_safe r (carry_out r (acts.Peek key)) w g h on (peek_safe r key w g h q)
  perform_safe r (acts.Destroy k) w g h on q = told_safe r (carry_out r (acts.Destroy k)) w g h on (destroy_act_safe r k w g h)
  perform_safe r (acts.Give v) w g h on q = (after_self t legal Any Each w g, (tt, tt))
  perform_safe r (acts.Throw x) w g h on q = (after_self t legal Any Each w g, (tt, elim q [ inl text ↦ text | inr e ↦ thrown_text t x r.view h.told e ]))

  -- an act that fits does so in its written form
  written_fits : (site : Site) (view : View) (a : Act) → FitsAct t site view a → FitsAct t site view (written_act t a)
  written_fits site view (acts.Fire class qualifiers v) h = h
  written_fits site view a h = h

  pub acts_safe : (r : Running) (w : World) → Good t legal w → IsAble w r → IsIn r.instance w.bodies → Does (carry_on r) w (Ends w)
  acts_safe r w g h on =
      let there = site_there h.stood.home in
      found t legal fits (instance_at w r.instance) there.0 _ w _ there.1 (
      λ count a given. perform_safe r (written_act t a) (with_entry (entries.Did (written_act t a)) w) g h on
      (written_fits h.stood.site r.view a
      (h.stood.fits count there.0.fields r.view a (subst (λ b. legal.gives b count there.0.fields r.view a) (sym h.stood.is) given))))
