-- Resolution, contextual instances and references miss nothing.
use Rattle.std.proofs.Common.{ℕ, ◌≡◌, ◌≤◌, List, [], ◌∷◌, Bool, true, false, Option, Some, None, refl, sym, ap, ◌∙◌, subst, arith}
use Rattle.std.specs.Prelude.{option_map}
use Rattle.cdi_base.specs.declared.built_in.BuiltIn.TheVariants as built_in
use Rattle.cdi_base.specs.declared.scope.Scope.{Scope}
use Rattle.cdi_base.specs.declared.scope.Scope.TheVariants as scopes
use Rattle.cdi_base.specs.BuiltIn.{number_of}
use Rattle.cdi_base.specs.Maps.{at}
use Rattle.cdi_store.specs.declared.instance.Component.TheVariants as components
use Rattle.cdi_store.specs.declared.instance.Context.{Context}
use Rattle.cdi_store.specs.declared.instance.Owner.{Owner}
use Rattle.cdi_store.specs.declared.instance.Owner.TheVariants as owners
use Rattle.cdi_store.specs.declared.instance.Instance.{Instance}
use Rattle.cdi_store.specs.declared.instance.Phase.{Phase}
use Rattle.cdi_store.specs.declared.instance.Phase.TheVariants as phases
use Rattle.cdi_store.specs.declared.references.Reference.{Reference}
use Rattle.cdi_store.specs.declared.references.Reference.TheVariants.{Direct, Proxy}
use Rattle.cdi_store.specs.declared.references.Reference.TheVariants.{Empty as NoReference}
use Rattle.cdi_store.specs.Live.{Instances}
use Rattle.cdi_contexts.specs.declared.context.Status.{Status}
use Rattle.cdi_contexts.specs.declared.context.Status.TheVariants.{Ending, Open}
use Rattle.cdi_contexts.specs.declared.context.Held.{Held}
use Rattle.cdi_contexts.specs.declared.context.Held.TheVariants.{Making, Is}
use Rattle.cdi_contexts.specs.Contexts.{Active, Environment, context_of, context_at}
use Rattle.cdi_machine.specs.Words.{Name, Asked}
use Rattle.cdi_machine.specs.Tables.{Tables, Resolution, One, Nothing, Many, Managed}
use Rattle.cdi_machine.specs.World.{World, instance_at}
use Rattle.cdi_machine.specs.Programs.{Task, Given, Completion, Gave, Threw, Prog, ret, throw, handle, call, raise, require, require_one, require_number, active_or_raise, active_in, context, resolve}
use Rattle.cdi_machine.specs.Contexts.{find_or_create, obtain, is_normal, direct_reference, refer_to, resolve_point, resolve_points, stays, reach_instance}
use Rattle.cdi_machine.specs.Destruction.{obtain_receiver}
use Rattle.cdi_machine.specs.Runs.{Legal}
use Rattle.cdi_whole.specs.Fits.{HasText, FitsKind, FitsManaged, FitsBean, Fits}
use Rattle.cdi_ledger.proofs.Maps.{all_at}
use Rattle.cdi_ledger.proofs.Holdings.{AllHeld, EachHeld}
use Rattle.cdi_whole.proofs.Contexts.{held_at}
use Rattle.cdi_whole.proofs.Whole.{Serves, IsOlder, Refers, IsFor, AreFor, HeldBy, Good}
use Rattle.cdi_whole.proofs.Remains.{Any, Each, After, after_self, after_trans, for_then}
use Rattle.cdi_whole.proofs.Terms.{Told, Gets, Obtains, Post}
use Rattle.cdi_whole.proofs.Statements.{Goes, then, loosen, found, called, calling}

-- a scope with a context is a normal one
normal_of : (e : Environment) (s : Scope) (c : Context) → context_of e s ≡ Some c → is_normal s ≡ true
normal_of e scopes.ApplicationScoped c q = refl
normal_of e scopes.SessionScoped c q = refl
normal_of e scopes.RequestScoped c q = refl
normal_of e scopes.Dependent c q = absurd (cc)

-- an older owner stays one
pub older_then : (n m : ℕ) (owner : Owner) → n ≤ m → IsOlder n owner → IsOlder m owner
older_then n m (owners.Context c) l h = tt
older_then n m (owners.Instance k) l h = omega arith
older_then n m owners.Borrower l h = tt

-- a managed bean that can be had
pub bean_of_managed : {t : Tables} {legal : Legal} {b : ℕ} {c : Managed} → FitsManaged t legal b c → FitsBean t legal b
bean_of_managed {t} {legal} {b} {c} m = record { bean = m.is.bean; known = m.is.known; kind = subst (FitsKind t legal) (sym m.is.is) m.fits }

-- what a reference to the bean is, and what a point's is
abbrev pub Referred : Instances → ℕ → ℕ → Completion Reference → Type 0
Referred instances next b (Gave r) = Refers instances next b r
Referred instances next b (Threw x) = Unit {0}

abbrev pub Pointed : Tables → Instances → ℕ → Asked → Completion Reference → Type 0
Pointed t instances next point (Gave r) = IsFor t instances next point r
Pointed t instances next point (Threw x) = Unit {0}

abbrev pub AllPointed : Tables → Instances → ℕ → List Asked → Completion (List Reference) → Type 0
AllPointed t instances next points (Gave rs) = AreFor t instances next points rs
AllPointed t instances next points (Threw x) = Unit {0}

abbrev pub Reaches : Instances → ℕ → Completion ℕ → Type 0
Reaches instances b (Gave n) = Serves instances n (components.Bean b)
Reaches instances b (Threw x) = Unit {0}

module _ (t : Tables) (legal : Legal) (fits : Fits t legal) where
  abbrev Does : {A : Type 0} → Prog A → World → (Completion A → World → Type 0) → Type 0
  Does p w Q = Goes t legal fits p w Q

  -- what is asked for is a bean that can be had, or an exception is thrown
  pub resolving : {B : Type 0} (asked : Asked) (f : ℕ → Prog B) (w : World) (Q : Completion B → World → Type 0)
      → ((b : ℕ) → t.resolve asked ≡ One b → FitsBean t legal b → Does (f b) w Q) → ((x : Name) → HasText t x → Q (Threw x) w)
      → Does (handle (resolve asked) f throw) w Q
  resolving asked f w Q k h = by (t.resolve asked) refl
    where
      by : (r : Resolution) → t.resolve asked ≡ r → Does (handle (require_one r) f throw) w Q
      by (One b) e = k b e (fits.resolved asked b e)
      by Nothing e = h (number_of built_in.UnsatisfiedResolutionException) (fits.texts built_in.UnsatisfiedResolutionException)
      by Many e = h (number_of built_in.AmbiguousResolutionException) (fits.texts built_in.AmbiguousResolutionException)

  -- ---- contextual instances

  pub obtain_safe : (b : ℕ) (w : World) → Good t legal w → FitsBean t legal b → Does (obtain b) w (Post t legal (Task.Obtain b) w)
  obtain_safe b w g served = found t legal fits (t.bean b) served.bean _ w _ served.known (by_scope (context_of w.environment served.bean.scope) refl)
    where
      made : (c : Context) → context_of w.environment served.bean.scope ≡ Some c → (a : Completion Given) (u : World) → Post t legal (Task.Create b (owners.Context c)) w a u → Post t legal (Task.Obtain b) w a u
      made c e (Gave (Given.Number n)) u p = p
      made c e (Gave (Given.Result v)) u p = p
      made c e (Gave Given.Empty) u p =
          let f : is_normal served.bean.scope ≡ false = p.1 served.bean served.known in
          let q : is_normal served.bean.scope ≡ true = normal_of w.environment served.bean.scope c e in
          absurd (cc)
      made c e (Threw x) u p = p

      by_status : (c : Context) → context_of w.environment served.bean.scope ≡ Some c → (s : Status) → Does (elim s as (λ _. Prog Given) [ Open ↦ call (Task.Create b (owners.Context c)) | Ending ↦ raise built_in.ContextNotActiveException ]) w (Post t legal (Task.Obtain b) w)
      by_status c e Open = called t legal fits (Task.Create b (owners.Context c)) w _ (g, served, tt) (made c e)
      by_status c e Ending = (after_self t legal Any Each w g, tt, fits.texts built_in.ContextNotActiveException)

      lives : (c : Context) (a : Active) (n : ℕ) → context_at w.contexts c ≡ Some a → at a.holds b ≡ Some (Is n) → Serves w.instances n (components.Bean b)
      lives c a n e h =
          let held : AllHeld (HeldBy w.instances c) (Some a) = subst (λ x. AllHeld (HeldBy w.instances c) x) e (held_at (HeldBy w.instances) w.contexts c g.held) in
          let s = all_at (λ p. EachHeld (HeldBy w.instances c) p.0 p.1) a.holds b (Is n) held h in
          (s.instance, s.there, s.of, s.phase_is)

      by_held : (c : Context) (a : Active) (x : Option Held) → context_of w.environment served.bean.scope ≡ Some c → context_at w.contexts c ≡ Some a → at a.holds b ≡ x → Does (find_or_create b (record { context = c; has = a }) x) w (Post t legal (Task.Obtain b) w)
      by_held c a None s e h = by_status c s a.status
      by_held c a (Some Making) s e h = (after_self t legal Any Each w g, tt, fits.texts built_in.CreationException)
      by_held c a (Some (Is n)) s e h = (after_self t legal Any Each w g, lives c a n e h, tt)

      by_context : (c : Context) (x : Option Active) → context_of w.environment served.bean.scope ≡ Some c → context_at w.contexts c ≡ x → Does (handle (active_or_raise (option_map (λ a. record { context = c; has = a }) x)) (λ c. find_or_create b c (at c.has.holds b)) throw) w (Post t legal (Task.Obtain b) w)
      by_context c None s e = (after_self t legal Any Each w g, tt, fits.texts built_in.ContextNotActiveException)
      by_context c (Some a) s e = by_held c a (at a.holds b) s e refl

      by_scope : (x : Option Context) → context_of w.environment served.bean.scope ≡ x → Does (handle (context served.bean.scope) (λ c. find_or_create b c (at c.has.holds b)) throw) w (Post t legal (Task.Obtain b) w)
      by_scope None e = subst (λ z. Does (handle (active_or_raise (active_in w z)) (λ c. find_or_create b c (at c.has.holds b)) throw) w (Post t legal (Task.Obtain b) w)) (sym e) (after_self t legal Any Each w g, tt, fits.texts built_in.ContextNotActiveException)
      by_scope (Some c) e = subst (λ z. Does (handle (active_or_raise (active_in w z)) (λ c. find_or_create b c (at c.has.holds b)) throw) w (Post t legal (Task.Obtain b) w)) (sym e) (by_context c (context_at w.contexts c) e refl)

  -- ---- references

  pub refer_safe : (b : ℕ) (owner : Owner) (w : World) → Good t legal w → FitsBean t legal b → IsOlder w.next owner → Does (refer_to b owner) w (λ c u. After t legal w u × Referred u.instances u.next b c × Told t c)
  refer_safe b owner w g served h = found t legal fits (t.bean b) served.bean _ w _ served.known (by (is_normal served.bean.scope))
    where
      referred : (u : World) → Good t legal u → (a : Given) → Gets t u.instances b (Gave a) → Referred u.instances u.next b (Gave (direct_reference a))
      referred u k (Given.Number n) q = (
        k.below n q.0 q.1,
        record {
          is = λ o e. (let r : Some o ≡ Some q.0 = sym e ∙ q.1 in let s : o ≡ q.0 = cc in ap (λ (x : Instance). x.component) s ∙ q.2);
          made = λ o e f. (let r : Some o ≡ Some q.0 = sym e ∙ q.1 in let s : o ≡ q.0 = cc in let p : phases.New ≡ phases.Ready = sym f ∙ (ap (λ (x : Instance). x.phase) s ∙ q.3) in absurd (cc));
        },
      )
      referred u k (Given.Result v) q = tt
      referred u k Given.Empty q = tt

      by : (c : Bool) → Does (elim c as (λ _. Prog Reference) [ true ↦ ret (Proxy b) | false ↦ handle (call (Task.Create b owner)) (λ made. ret (direct_reference made)) throw ]) w (λ c u. After t legal w u × Referred u.instances u.next b c × Told t c)
      by true = (after_self t legal Any Each w g, refl, tt)
      by false = calling t legal fits (Task.Create b owner) _ throw w _ (g, served, h) (λ a u p. (p.0, referred u p.0.good a p.1, tt)) (λ x u p. (p.0, tt, p.2))

  pub reach_safe : (r : Reference) (b : ℕ) (w : World) → Good t legal w → FitsBean t legal b → Refers w.instances w.next b r → Does (reach_instance r) w (λ c u. After t legal w u × Reaches u.instances b c × Told t c)
  reach_safe NoReference b w g served q = (after_self t legal Any Each w g, tt, fits.texts built_in.NullPointerException)
  reach_safe (Direct n) b w g served q = by (instance_at w n) (after_self t legal Any Each w g) refl
    where
      by : (o : Option Instance) → After t legal w w → instance_at w n ≡ o → Does (handle (require (stays o) built_in.IllegalStateException) (λ _. ret n) throw) w (λ c u. After t legal w u × Reaches u.instances b c × Told t c)
      by None a e = (a, tt, fits.texts built_in.IllegalStateException)
      by (Some x) a e = staying x.phase refl
        where
          staying : (p : Phase) → x.phase ≡ p → Does (handle (require (elim p as (λ _. Bool) [ phases.New ↦ true | phases.Ready ↦ true | phases.Leaving ↦ false ]) built_in.IllegalStateException) (λ _. ret n) throw) w (λ c u. After t legal w u × Reaches u.instances b c × Told t c)
          staying phases.New f = absurd (q.1.made x e f)
          staying phases.Ready f = (a, (x, e, q.1.is x e, f), tt)
          staying phases.Leaving f = (a, tt, fits.texts built_in.IllegalStateException)
  reach_safe (Proxy c) b w g served q =
      calling t legal fits (Task.Obtain c) _ throw w _ (g, subst (FitsBean t legal) (sym q) served) (λ a u p. by a u p.0 p.1) (λ x u p. (p.0, tt, p.2))
    where
      by : (a : Given) (u : World) → After t legal w u → Obtains u.instances c (Gave a) → Does (require_number a) u (λ c u. After t legal w u × Reaches u.instances b c × Told t c)
      by (Given.Number n) u p h = (p, subst (λ z. Serves u.instances n (components.Bean z)) q h, tt)
      by (Given.Result v) u p h = absurd h
      by Given.Empty u p h = absurd h

  -- the instance whose producer, disposer or observer is called
  pub receiver_safe : (b : ℕ) (w : World) → Good t legal w → FitsBean t legal b → Does (obtain_receiver b) w (λ c u. After t legal w u × Reaches u.instances b c × Told t c)
  receiver_safe b w g served =
      then t legal fits (refer_to b owners.Borrower) reach_instance throw w (λ c u. After t legal w u × Referred u.instances u.next b c × Told t c) _ (refer_safe b owners.Borrower w g served tt)
      (λ r u p. loosen t legal fits (reach_instance r) u (λ c v. After t legal u v × Reaches v.instances b c × Told t c) _ (reach_safe r b u p.0.good served p.1) (λ c v q. (after_trans p.0 q.0, q.1, q.2)))
      (λ x u p. (p.0, tt, p.2))

  -- ---- points

  pub point_safe : (point : Asked) (owner : Owner) (w : World) → Good t legal w → IsOlder w.next owner → Does (resolve_point point owner) w (λ c u. After t legal w u × Pointed t u.instances u.next point c × Told t c)
  point_safe point owner w g h =
      resolving point (λ b. refer_to b owner) w _
      (λ b e served. loosen t legal fits (refer_to b owner) w (λ c u. After t legal w u × Referred u.instances u.next b c × Told t c) _ (refer_safe b owner w g served h) (λ c u p. (p.0, pointed b e c u p.1, p.2)))
      (λ x q. (after_self t legal Any Each w g, tt, q))
    where
      pointed : (b : ℕ) → t.resolve point ≡ One b → (c : Completion Reference) (u : World) → Referred u.instances u.next b c → Pointed t u.instances u.next point c
      pointed b e (Gave r) u p = record { bean = b; resolves = e; refers = p }
      pointed b e (Threw x) u p = tt

  pub points_safe : (points : List Asked) (owner : Owner) (w : World) → Good t legal w → IsOlder w.next owner → Does (resolve_points points owner) w (λ c u. After t legal w u × AllPointed t u.instances u.next points c × Told t c)
  points_safe [] owner w g h = (after_self t legal Any Each w g, tt, tt)
  points_safe (p ∷ ps) owner w g h =
      then t legal fits (resolve_point p owner) _ throw w (λ c u. After t legal w u × Pointed t u.instances u.next p c × Told t c) _ (point_safe p owner w g h)
      (λ r u a. then t legal fits (resolve_points ps owner) _ throw u (λ c v. After t legal u v × AllPointed t v.instances v.next ps c × Told t c) _ (points_safe ps owner u a.0.good (older_then w.next u.next owner a.0.grows h))
      (λ rs v b. (after_trans a.0 b.0, (for_then b.0 p r a.1, b.1), tt))
      (λ x v b. (after_trans a.0 b.0, tt, b.2)))
      (λ x u a. (a.0, tt, a.2))
