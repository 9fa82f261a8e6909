-- What may stand next: programs that set no mark, and the tasks by which the first body of a destruction starts.
use Rattle.std.proofs.Common.{ℕ, ◌≡◌, List, [], ◌∷◌, inl, inr, Option, Some, None, Bool, true, false, refl, sym, ap, ◌∙◌, subst, length}
use Rattle.std.specs.Prelude.{nat_eq, nat_lt, option_map, ◌^◌}
use Rattle.cdi_base.specs.declared.value.Value.TheVariants as values
use Rattle.cdi_base.specs.declared.act.Act.{Act}
use Rattle.cdi_base.specs.declared.entry.Entry.{Entry}
use Rattle.cdi_base.specs.declared.entry.Entry.TheVariants as entries
use Rattle.cdi_base.specs.declared.place.Place.{Place}
use Rattle.cdi_base.specs.declared.place.Place.TheVariants as places
use Rattle.cdi_base.specs.declared.place.InterceptorMethod.TheVariants as roles
use Rattle.cdi_base.specs.declared.built_in.BuiltIn.TheVariants as built_in
use Rattle.cdi_store.specs.declared.instance.Component.{Component}
use Rattle.cdi_store.specs.declared.instance.Component.TheVariants as components
use Rattle.cdi_store.specs.declared.instance.Owner.{Owner}
use Rattle.cdi_store.specs.declared.instance.Owner.TheVariants as owners
use Rattle.cdi_store.specs.declared.instance.Instance.{Instance}
use Rattle.cdi_machine.specs.Words.{Name, Fields}
use Rattle.cdi_machine.specs.Tables.{Tables, Code, Managed, Kind, Bean, Interceptor, written_act}
use Rattle.cdi_machine.specs.Runs.{Legal}
use Rattle.cdi_machine.specs.World.{World, Change, Invocation, after_change, with_entry, instance_at}
use Rattle.cdi_machine.specs.Programs.{Task, Given, Completion, Gave, Threw, Running, Prog, ret, throw, cut, miss, see, change, tick, mark, act, choose, nested, candidates, handle, call, complete, quietly, note, alter, finish, finally, require_present, require_depth, give_number, each, top, instance, rethrow}
use Rattle.cdi_machine.specs.Bodies.{run_body, run_rest, body_at_start, given_by, is_of, first_of, invocation_at_start}
use Rattle.cdi_machine.specs.Creation.{create, intercept, create_by, end_creation, discard, begin_creation, make, first_fields, inject}
use Rattle.cdi_machine.specs.Destruction.{destroy, destroy_ready, only_ready, clean_up, clean_up_bean, dispose}
use Rattle.cdi_machine.specs.Machine.{machine}
use Rattle.cdi_machine.proofs.Walk
use Rattle.cdi_machine.proofs.Walk.{Plain, PlainChange, PlainEntry, plain_of}
use Rattle.cdi_ledger.specs.Whose.{IsIn}
use Rattle.cdi_ledger.proofs.Cores.{Core, core_of, core_at, deps_at, list_of}
use Rattle.cdi_ledger.specs.Ledger.{Item, Wrote, Between, Born, with_birth}
use Rattle.cdi_ledger.specs.Ends.{Each, IsOfClass}
use Rattle.cdi_ledger.proofs.Judge.{Does, guard_of, note_of}
use Rattle.cdi_ledger.proofs.Phases.{eq_true}
use Rattle.cdi_ledger.proofs.Owed.{Ok, Pre}
use Rattle.cdi_ledger.proofs.Nesting.{BothPost}
use Rattle.cdi_ledger.proofs.Births.{Known, KG, all_born}
use Rattle.cdi_machine.proofs.Levels.{Height}
use Rattle.cdi_whole.specs.Beginnings.{IsBorn, IsFirstStart, IsRightBehindMark}
use Rattle.cdi_whole.proofs.Without.{Tells}

pub bare : Height
bare = record { invocations = 0; bodies = 0; temporaries = 0 }

-- ---- programs that set no mark

map_change : {X Y : Type 0} (g : Change) → (X → Y) → PlainChange g X → Y
map_change (Change.Make component owner fields) f x = absurd x
map_change (Change.Settle n) f x = absurd x
map_change (Change.Discard n) f x = absurd x
map_change (Change.Leave n) f x = absurd x
map_change (Change.Remove n) f x = absurd x
map_change _ f x = f x

map_entry : {X Y : Type 0} (e : Entry) → (X → Y) → PlainEntry e X → Y
map_entry (entries.Event class qualifiers) f x = f x
map_entry (entries.Did a) f x = f x
map_entry (entries.Pick c i) f x = f x
map_entry _ f x = absurd x

abbrev pub Unmarked : {A : Type 0} → Prog A → Type 0
Unmarked (ret a) = Unit {0}
Unmarked (throw x) = Unit {0}
Unmarked (cut cause) = Unit {0}
Unmarked (miss p) = Unmarked p
Unmarked (see k) = (t : Tables) (w : World) → Unmarked (k t w)
Unmarked (change g p) = Unmarked p
Unmarked (tick e p) = Unmarked p
Unmarked (mark n p) = ⊥
Unmarked (act b fields view k) = (a : Act) → Unmarked (k a)
Unmarked (choose n k) = (i : ℕ) → Unmarked (k i)
Unmarked (nested t k) = (c : Completion Given) → Unmarked (k c)

unmarked_handle : {A B : Type 0} (p : Prog A) (f : A → Prog B) (g : Name → Prog B) → Unmarked p → ((a : A) → Unmarked (f a)) → ((x : Name) → Unmarked (g x)) → Unmarked (handle p f g)
unmarked_handle (ret a) f g q qf qg = qf a
unmarked_handle (throw x) f g q qf qg = qg x
unmarked_handle (cut cause) f g q qf qg = tt
unmarked_handle (miss p) f g q qf qg = unmarked_handle p f g q qf qg
unmarked_handle (see k) f g q qf qg = λ t w. unmarked_handle (k t w) f g (q t w) qf qg
unmarked_handle (change x p) f g q qf qg = unmarked_handle p f g q qf qg
unmarked_handle (tick e p) f g q qf qg = unmarked_handle p f g q qf qg
unmarked_handle (mark n p) f g q qf qg = absurd q
unmarked_handle (act b fields view k) f g q qf qg = λ a. unmarked_handle (k a) f g (q a) qf qg
unmarked_handle (choose n k) f g q qf qg = λ i. unmarked_handle (k i) f g (q i) qf qg
unmarked_handle (nested t k) f g q qf qg = λ c. unmarked_handle (k c) f g (q c) qf qg

pub unmarked_of : {A : Type 0} (p : Prog A) → Plain p → Unmarked p
unmarked_of (ret a) q = tt
unmarked_of (throw x) q = tt
unmarked_of (cut cause) q = tt
unmarked_of (miss p) q = unmarked_of p q
unmarked_of (see k) q = λ t w. unmarked_of (k t w) (q t w)
unmarked_of (change g p) q = map_change g (λ y. unmarked_of p y) q
unmarked_of (tick e p) q = map_entry e (λ y. unmarked_of p y) q
unmarked_of (mark n p) q = absurd q
unmarked_of (act b fields view k) q = λ a. unmarked_of (k a) (q a)
unmarked_of (choose n k) q = λ i. unmarked_of (k i) (q i)
unmarked_of (nested t k) q = λ c. unmarked_of (k c) (q c)

walked : {A : Type 0} (p : Prog A) → Walk.Walks bare bare p → Unmarked p
walked p q = unmarked_of p (plain_of bare bare p q)

unmarked_call : (t : Task) → Unmarked (call t)
unmarked_call t (Gave g) = tt
unmarked_call t (Threw x) = tt

unmarked_discard : (n : ℕ) → Unmarked (discard n)
unmarked_discard n = unmarked_handle (call (Task.Release n)) _ throw (unmarked_call (Task.Release n)) (λ _. tt) (λ x. tt)

unmarked_ended : (n : ℕ) (g : Given) → Unmarked (end_creation n g)
unmarked_ended n (Given.Result values.Null) = unmarked_handle (discard n) _ throw (unmarked_discard n) (λ _. tt) (λ x. tt)
unmarked_ended n (Given.Result (values.Int i)) = tt
unmarked_ended n (Given.Result (values.Text i)) = tt
unmarked_ended n (Given.Number m) = tt
unmarked_ended n Given.Empty = tt

unmarked_creating : (n : ℕ) (steps : Prog Given) → Unmarked steps → Unmarked (create_by n steps)
unmarked_creating n steps q = unmarked_handle steps _ _ q (unmarked_ended n) (λ x. unmarked_handle (discard n) _ throw (unmarked_discard n) (λ _. walked (rethrow {A = Given} x built_in.CreationException) (Walk.l_rethrow bare Given x built_in.CreationException)) (λ x. tt))

unmarked_begun : (place : Place) (component : Component) (owner : Owner) (fields : Fields) (f : ℕ → Prog Given) → ((n : ℕ) → Unmarked (f n)) → Unmarked (handle (begin_creation place component owner fields) f throw)
unmarked_begun place component owner fields f q t w = by (nat_lt w.next (2 ^ 32))
  where
    by : (c : Bool) → Unmarked (handle (handle (give_number c w.next) (λ m. handle (note (entries.New m place)) (λ _. handle (alter (Change.Make component owner fields)) (λ _. ret m) throw) throw) throw) f throw)
    by true = q w.next
    by false = tt

unmarked_create : (b : ℕ) (owner : Owner) → Unmarked (create b owner)
unmarked_create b owner t w = by (t.bean b)
  where
    by : (o : Option Bean) → Unmarked (handle (require_present o) (λ x. handle (begin_creation x.place (components.Bean b) owner (first_fields x.kind)) (λ m. create_by m (make m x x.kind)) throw) throw)
    by None = tt
    by (Some x) = unmarked_begun x.place (components.Bean b) owner (first_fields x.kind) (λ m. create_by m (make m x x.kind)) (λ n. unmarked_creating n (make n x x.kind) (walked (make n x x.kind) (Walk.l_made_by bare n x x.kind)))

unmarked_intercept : (i m : ℕ) → Unmarked (intercept i m)
unmarked_intercept i m t w = by (t.interceptor i)
  where
    by : (o : Option Interceptor) → Unmarked (handle (require_present o) (λ x. handle (begin_creation (places.Class x.name) (components.Interceptor i) (owners.Instance m) x.fields) (λ n. create_by n (handle (each x.injected (λ p. inject n p.0 p.1)) (λ _. ret (Given.Number n)) throw)) throw) throw)
    by None = tt
    by (Some x) = unmarked_begun (places.Class x.name) (components.Interceptor i) (owners.Instance m) x.fields (λ n. create_by n (handle (each x.injected (λ p. inject n p.0 p.1)) (λ _. ret (Given.Number n)) throw))
        (λ n. unmarked_creating n (handle (each x.injected (λ p. inject n p.0 p.1)) (λ _. ret (Given.Number n)) throw) (unmarked_handle (each x.injected (λ p. inject n p.0 p.1)) (λ _. ret (Given.Number n)) throw (walked (each x.injected (λ p. inject n p.0 p.1)) (Walk.l_each bare x.injected (λ p. inject n p.0 p.1) (λ p. Walk.l_inject bare n p.0 p.1))) (λ _. tt) (λ x. tt)))

-- an instance of the interceptor
of_interceptor : (i n : ℕ) (w : World) → is_of i (instance_at w n) ≡ true → (c : Core) × (core_at n w.instances ≡ Some c) × (c.component ≡ components.Interceptor i)
of_interceptor i n w e = by (instance_at w n) refl e
  where
    over : (o : Instance) → instance_at w n ≡ Some o → (k : Component) → o.component ≡ k → elim k as (λ _. Bool) [ components.Bean b ↦ false | components.Interceptor j ↦ nat_eq i j ] ≡ true → (c : Core) × (core_at n w.instances ≡ Some c) × (c.component ≡ components.Interceptor i)
    over o q (components.Bean b) s f = absurd (cc)
    over o q (components.Interceptor j) s f = (core_of o, ap (option_map core_of) q, s ∙ ap components.Interceptor (sym (eq_true i j f)))

    by : (o : Option Instance) → instance_at w n ≡ o → is_of i o ≡ true → (c : Core) × (core_at n w.instances ≡ Some c) × (c.component ≡ components.Interceptor i)
    by None q f = absurd (cc)
    by (Some o) q f = over o q o.component refl f

module _ (tables : Tables) (legal : Legal) where
  abbrev B : Item → List Item → Type 0
  B x h = IsRightBehindMark tables x h

  abbrev pub E : List Item → Type 0
  E h = Each (IsRightBehindMark tables) h

  -- whatever is next may stand there
  abbrev pub Calm : List Item → Type 0
  Calm h = (x : Item) → IsRightBehindMark tables x h

  abbrev pub G : World → List Item → Type 0
  G w h = KG tables w h × E h

  -- the first of the members may stand there
  abbrev MembersNext : ℕ → List Code → List Item → Type 0
  MembersNext n [] h = Calm h
  MembersNext n (m ∷ ms) h = B (Wrote (entries.Run n m.place)) h

  -- the first body of the rest of the chain may
  abbrev ChainNext : Invocation → List ℕ → World → List Item → Type 0
  ChainNext v [] w h = MembersNext v.target v.members h
  ChainNext v (i ∷ chain) w h =
      (m : ℕ) (y : Interceptor) (c : Core) → IsIn m (deps_at v.target w.instances) → core_at m w.instances ≡ Some c → c.component ≡ components.Interceptor i → tables.interceptor i ≡ Some y
      → B (Wrote (entries.Run m (places.Interceptor y.name v.role))) h

  abbrev Next : Task → World → List Item → Type 0
  Next (Task.Rest chain) w h = (v : Invocation) (vs : List Invocation) → w.invocations ≡ v ∷ vs → ChainNext v chain w h
  Next (Task.Body r) w h = B (Wrote (entries.Run r.instance r.place)) h
  Next _ w h = Calm h

  abbrev pub Asks : Task → World → List Item → Type 0
  Asks t w h = Pre tables t w h × Next t w h

  abbrev pub Leaves : Task → World → List Item → Completion Given → World → List Item → Type 0
  Leaves t w h c v k = BothPost tables t w h c v k × Calm k

  abbrev D : {A : Type 0} → Prog A → World → List Item → (Completion A → World → List Item → Type 0) → Type 0
  D p w h Q = Does tables (Ok tables) (KG tables) (Pre tables) (BothPost tables) p w h Q

  abbrev pub T : {A : Type 0} → Prog A → World → List Item → (Completion A → World → List Item → Type 0) → Type 0
  T p w h Q = Tells tables legal E G Asks Leaves p w h Q

  calm_members : (n : ℕ) (ms : List Code) (h : List Item) → Calm h → MembersNext n ms h
  calm_members n [] h s = s
  calm_members n (m ∷ ms) h s = s _

  calm_next : (t : Task) (w : World) (h : List Item) → Calm h → Next t w h
  calm_next (Task.Rest []) w h s = λ v vs e. calm_members v.target v.members h s
  calm_next (Task.Rest (i ∷ chain)) w h s = λ v vs e m y c a b d f. s _
  calm_next (Task.Body r) w h s = s _
  calm_next _ w h s = s

  calm_birth : (g : Change) (w : World) (h : List Item) → Calm h → Calm (with_birth g w h)
  calm_birth (Change.Make component owner fields) w h s = λ x. tt
  calm_birth _ w h s = s

  each_birth : (g : Change) (w : World) (h : List Item) → Calm h → E h → E (with_birth g w h)
  each_birth (Change.Make component owner fields) w h s e = (s _, e)
  each_birth _ w h s e = e

  -- from where any item may be next, no program that sets no mark does wrong
  pub calm : {A : Type 0} (p : Prog A) (w : World) (h : List Item) (Q : Completion A → World → List Item → Type 0) → Unmarked p → D p w h Q → Calm h → E h → T p w h (λ c v k. Q c v k × Calm k)
  calm (ret a) w h Q u d s e = (e, ((d.0, e), (d.1, s)))
  calm (throw x) w h Q u d s e = (e, ((d.0, e), (d.1, s)))
  calm (cut cause) w h Q u d s e = e
  calm (miss p) w h Q u d s e = e
  calm (see k) w h Q u d s e = (e, calm (k tables w) w h Q (u tables w) d s e)
  calm (change g p) w h Q u d s e = (e, calm p (after_change g w) (with_birth g w h) Q u (guard_of (Ok tables) g w h d) (calm_birth g w h s) (each_birth g w h s e))
  calm (tick x p) w h Q u d s e = (e, calm p (with_entry x w) (Wrote x ∷ h) Q u (note_of (Ok tables) x w h d.1) (λ y. tt) (s (Wrote x), e))
  calm (mark n p) w h Q u d s e = absurd u
  calm (act b fields view k) w h Q u d s e = (e, λ n x l. (let a = written_act tables x in calm (k a) (with_entry (entries.Did a) w) (Wrote (entries.Did a) ∷ h) Q (u a) (d.1 a) (λ y. tt) (s (Wrote (entries.Did a)), e)))
  calm (choose n k) w h Q u d s e = (e, λ i l. calm (k i) (with_entry (entries.Pick (candidates n) i) w) (Wrote (entries.Pick (candidates n) i) ∷ h) Q (u i) (d.1 i l) (λ y. tt) (s (Wrote (entries.Pick (candidates n) i)), e))
  calm (nested t k) w h Q u d s e = (e, ((d.0, e), ((d.1, calm_next t w h s), λ c w1 h1 g1 p1. calm (k c) w1 h1 Q (u c) (d.2 c w1 h1 g1.0 p1.0) p1.1 g1.1)))

  -- a call by which the first body may start
  starting : {A : Type 0} (t : Task) (k : Completion Given → Prog A) (w : World) (h : List Item) (Q : Completion A → World → List Item → Type 0) → ((c : Completion Given) → Unmarked (k c)) → D (nested t k) w h Q → Next t w h → E h → T (nested t k) w h (λ c v k. Q c v k × Calm k)
  starting t k w h Q u d s e = (e, ((d.0, e), ((d.1, s), λ c w1 h1 g1 p1. calm (k c) w1 h1 Q (u c) (d.2 c w1 h1 g1.0 p1.0) p1.1 g1.1)))

  -- ---- a body

  body_tells : (r : Running) (w : World) (h : List Item) → G w h → Asks (Task.Body r) w h → T (run_body r) w h (Leaves (Task.Body r) w h)
  body_tells r w h g q = (g.1, by (nat_lt (length w.bodies) w.depth) (all_born tables (Task.Body r) w h g.0 q.0))
    where
      rest : Prog Given
      rest = handle (alter (Change.Start r.instance)) (λ _. finally (call (Task.Acts r)) (alter Change.Stop)) throw

      runs : (x : Option Instance) → D (handle (require_present x) (λ _. handle (note (entries.Run r.instance r.place)) (λ _. handle (alter (Change.Start r.instance)) (λ _. finally (call (Task.Acts r)) (alter Change.Stop)) throw) throw) throw) w h (BothPost tables (Task.Body r) w h)
          → T (handle (require_present x) (λ _. handle (note (entries.Run r.instance r.place)) (λ _. handle (alter (Change.Start r.instance)) (λ _. finally (call (Task.Acts r)) (alter Change.Stop)) throw) throw) throw) w h (Leaves (Task.Body r) w h)
      runs None d = g.1
      runs (Some o) d = (
        g.1,
        calm (handle (alter (Change.Start r.instance)) (λ _. finally (call (Task.Acts r)) (alter Change.Stop)) throw) (with_entry (entries.Run r.instance r.place) w) (Wrote (entries.Run r.instance r.place) ∷ h) (BothPost tables (Task.Body r) w h)
            (unmarked_handle (call (Task.Acts r)) _ _ (unmarked_call (Task.Acts r)) (λ _. tt) (λ _. tt)) d.1.1 (λ y. tt) (q.1, g.1),
      )

      by : (c : Bool) → D (handle (require_depth c) (λ _. handle (instance r.instance) (λ _. handle (note (entries.Run r.instance r.place)) (λ _. handle (alter (Change.Start r.instance)) (λ _. finally (call (Task.Acts r)) (alter Change.Stop)) throw) throw) throw) throw) w h (BothPost tables (Task.Body r) w h)
          → T (handle (require_depth c) (λ _. handle (instance r.instance) (λ _. handle (note (entries.Run r.instance r.place)) (λ _. handle (alter (Change.Start r.instance)) (λ _. finally (call (Task.Acts r)) (alter Change.Stop)) throw) throw) throw) throw) w h (Leaves (Task.Body r) w h)
      by false d = g.1
      by true d = (g.1, runs (instance_at w r.instance) d)

  -- ---- the rest of a chain

  unmarked_completed : {A : Type 0} (c : Completion Given) (f : Given → Prog A) → ((a : Given) → Unmarked (f a)) → Unmarked (handle (complete c) f throw)
  unmarked_completed (Gave a) f q = q a
  unmarked_completed (Threw x) f q = tt

  abbrev runs_member : Invocation → Code → Prog Given
  runs_member v m = call (Task.Body (body_at_start v.target m.place m.body v.parameters v.references []))

  abbrev reaches : Invocation → Given → Prog Given
  reaches v g = handle (alter Change.Reach) (λ _. ret (given_by v.role g)) throw

  members_tell : (v : Invocation) (ms : List Code) (w : World) (h : List Item) (Q : Completion Given → World → List Item → Type 0) → MembersNext v.target ms h → E h
      → D (handle (each ms (λ m. call (Task.Body (body_at_start v.target m.place m.body v.parameters v.references [])))) (λ g. handle (alter Change.Reach) (λ _. ret (given_by v.role g)) throw) throw) w h Q
      → T (handle (each ms (λ m. call (Task.Body (body_at_start v.target m.place m.body v.parameters v.references [])))) (λ g. handle (alter Change.Reach) (λ _. ret (given_by v.role g)) throw) throw) w h (λ c v k. Q c v k × Calm k)
  members_tell v [] w h Q s e d = calm (handle (each {X = Code} [] (λ m. runs_member v m)) (λ g. reaches v g) throw) w h Q tt d s e
  members_tell v (m ∷ []) w h Q s e d = starting (Task.Body (body_at_start v.target m.place m.body v.parameters v.references [])) (λ c. handle (complete c) (λ g. reaches v g) throw) w h Q (λ c. unmarked_completed c (λ g. reaches v g) (λ a. tt)) d s e
  members_tell v (m ∷ n ∷ ms) w h Q s e d =
      starting (Task.Body (body_at_start v.target m.place m.body v.parameters v.references [])) (λ c. handle (handle (complete c) (λ _. each (n ∷ ms) (λ m. runs_member v m)) throw) (λ g. reaches v g) throw) w h Q (λ c. unmarked_handle (handle (complete c) (λ _. each (n ∷ ms) (λ m. runs_member v m)) throw) (λ g. reaches v g) throw (unmarked_completed c _ (λ a. unmarked_each (n ∷ ms))) (λ a. tt) (λ x. tt)) d s e
    where
      unmarked_each : (ms : List Code) → Unmarked (each ms (λ m. call (Task.Body (body_at_start v.target m.place m.body v.parameters v.references []))))
      unmarked_each ms = walked (each ms (λ m. runs_member v m)) (Walk.l_each bare ms (λ m. runs_member v m) (λ m. Walk.l_call bare (Task.Body (body_at_start v.target m.place m.body v.parameters v.references []))))

  abbrev behind_chain : Invocation → Interceptor → ℕ → List ℕ → ℕ → Prog Given
  behind_chain v y code chain n = handle (call (Task.Body (body_at_start n (places.Interceptor y.name v.role) code v.parameters [] chain))) (λ g. ret (given_by v.role g)) throw

  -- the instance of the interceptor is looked for among the dependents
  found : (v : Invocation) (y : Interceptor) (i code : ℕ) (chain : List ℕ) (w : World) (h : List Item) (Q : Completion Given → World → List Item → Type 0) → E h → tables.interceptor i ≡ Some y → ChainNext v (i ∷ chain) w h
      → (ns : List ℕ) → ((k : ℕ) → IsIn k ns → IsIn k (deps_at v.target w.instances))
      → D (handle (first_of w i ns) (λ n. behind_chain v y code chain n) throw) w h Q → T (handle (first_of w i ns) (λ n. behind_chain v y code chain n) throw) w h (λ c v k. Q c v k × Calm k)
  found v y i code chain w h Q e known s [] f d = e
  found v y i code chain w h Q e known s (n ∷ ns) f d = by (is_of i (instance_at w n)) refl (λ d. found v y i code chain w h Q e known s ns (λ k z. f k (inr z)) d) d
    where
      by : (b : Bool) → is_of i (instance_at w n) ≡ b
          → (D (handle (first_of w i ns) (λ n. behind_chain v y code chain n) throw) w h Q → T (handle (first_of w i ns) (λ n. behind_chain v y code chain n) throw) w h (λ c v k. Q c v k × Calm k))
          → D (handle (elim b as (λ _. Prog ℕ) [ true ↦ ret n | false ↦ first_of w i ns ]) (λ n. behind_chain v y code chain n) throw) w h Q
          → T (handle (elim b as (λ _. Prog ℕ) [ true ↦ ret n | false ↦ first_of w i ns ]) (λ n. behind_chain v y code chain n) throw) w h (λ c v k. Q c v k × Calm k)
      by true q more d =
          let c = of_interceptor i n w q in
          starting (Task.Body (body_at_start n (places.Interceptor y.name v.role) code v.parameters [] chain)) (λ c. handle (complete c) (λ g. ret (given_by v.role g)) throw) w h Q (λ c. unmarked_completed c (λ g. ret (given_by v.role g)) (λ a. tt)) d (s n y c.0 (f n (inl refl)) c.1 c.2 known) e
      by false q more d = more d

  rest_tells : (chain : List ℕ) (w : World) (h : List Item) → G w h → Asks (Task.Rest chain) w h → T (run_rest chain) w h (Leaves (Task.Rest chain) w h)
  rest_tells [] w h g q = (g.1, by w.invocations refl (all_born tables (Task.Rest []) w h g.0 q.0))
    where
      by : (vs : List Invocation) → w.invocations ≡ vs
          → D (handle (top vs) (λ v. handle (each v.members (λ m. runs_member v m)) (λ g. reaches v g) throw) throw) w h (BothPost tables (Task.Rest []) w h)
          → T (handle (top vs) (λ v. handle (each v.members (λ m. runs_member v m)) (λ g. reaches v g) throw) throw) w h (Leaves (Task.Rest []) w h)
      by [] e d = g.1
      by (v ∷ vs) e d = members_tell v v.members w h (BothPost tables (Task.Rest []) w h) (q.1 v vs e) g.1 d
  rest_tells (i ∷ chain) w h g q = (g.1, by w.invocations refl (all_born tables (Task.Rest (i ∷ chain)) w h g.0 q.0))
    where
      dependents : (v : Invocation) (vs : List Invocation) → w.invocations ≡ v ∷ vs → (y : Interceptor) → tables.interceptor i ≡ Some y → (code : ℕ) → (o : Option Instance) → instance_at w v.target ≡ o
          → D (handle (handle (require_present o) (λ o. see (λ t w. first_of w i o.dependents)) throw) (λ n. behind_chain v y code chain n) throw) w h (BothPost tables (Task.Rest (i ∷ chain)) w h)
          → T (handle (handle (require_present o) (λ o. see (λ t w. first_of w i o.dependents)) throw) (λ n. behind_chain v y code chain n) throw) w h (Leaves (Task.Rest (i ∷ chain)) w h)
      dependents v vs e y known code None f d = g.1
      dependents v vs e y known code (Some o) f d = (g.1, found v y i code chain w h (BothPost tables (Task.Rest (i ∷ chain)) w h) g.1 known (q.1 v vs e) o.dependents (λ k z. subst (IsIn k) (sym (ap list_of f)) z) d)

      coded : (v : Invocation) (vs : List Invocation) → w.invocations ≡ v ∷ vs → (y : Interceptor) → tables.interceptor i ≡ Some y → (b : Option ℕ)
          → D (handle (require_present b) (λ code. handle (Rattle.cdi_machine.specs.Bodies.interceptor_of v.target i) (λ n. behind_chain v y code chain n) throw) throw) w h (BothPost tables (Task.Rest (i ∷ chain)) w h)
          → T (handle (require_present b) (λ code. handle (Rattle.cdi_machine.specs.Bodies.interceptor_of v.target i) (λ n. behind_chain v y code chain n) throw) throw) w h (Leaves (Task.Rest (i ∷ chain)) w h)
      coded v vs e y known None d = g.1
      coded v vs e y known (Some code) d = (g.1, dependents v vs e y known code (instance_at w v.target) refl d)

      known : (v : Invocation) (vs : List Invocation) → w.invocations ≡ v ∷ vs → (o : Option Interceptor) → tables.interceptor i ≡ o
          → D (handle (require_present o) (λ y. handle (require_present (y.body v.role)) (λ code. handle (Rattle.cdi_machine.specs.Bodies.interceptor_of v.target i) (λ n. behind_chain v y code chain n) throw) throw) throw) w h (BothPost tables (Task.Rest (i ∷ chain)) w h)
          → T (handle (require_present o) (λ y. handle (require_present (y.body v.role)) (λ code. handle (Rattle.cdi_machine.specs.Bodies.interceptor_of v.target i) (λ n. behind_chain v y code chain n) throw) throw) throw) w h (Leaves (Task.Rest (i ∷ chain)) w h)
      known v vs e None f d = g.1
      known v vs e (Some y) f d = coded v vs e y f (y.body v.role) d

      by : (vs : List Invocation) → w.invocations ≡ vs
          → D (handle (top vs) (λ v. handle (Rattle.cdi_machine.specs.Programs.interceptor_at i) (λ y. handle (require_present (y.body v.role)) (λ code. handle (Rattle.cdi_machine.specs.Bodies.interceptor_of v.target i) (λ n. behind_chain v y code chain n) throw) throw) throw) throw) w h (BothPost tables (Task.Rest (i ∷ chain)) w h)
          → T (handle (top vs) (λ v. handle (Rattle.cdi_machine.specs.Programs.interceptor_at i) (λ y. handle (require_present (y.body v.role)) (λ code. handle (Rattle.cdi_machine.specs.Bodies.interceptor_of v.target i) (λ n. behind_chain v y code chain n) throw) throw) throw) throw) w h (Leaves (Task.Rest (i ∷ chain)) w h)
      by [] e d = g.1
      by (v ∷ vs) e d = (g.1, known v vs e (tables.interceptor i) refl d)

  -- ---- a destruction

  -- the class of an instance is that of its bean
  same_class : (n b : ℕ) (w : World) (h : List Item) (k : Core) (c : Managed) → Known tables w h → core_at n w.instances ≡ Some k → IsOfClass tables h n c → (k.component ≡ components.Bean b) → (x : Bean) → tables.bean b ≡ Some x → x.kind ≡ Kind.Class c
  same_class n b w h k c known e is s x f =
      let y : components.Bean b ≡ components.Bean is.index = sym s ∙ (known.once n k.component (components.Bean is.index) k.owner is.owner (known.lives n k e) is.born).0 in
      let z : b ≡ is.index = cc in
      let u : Some x ≡ Some is.bean = sym f ∙ subst (λ i. tables.bean i ≡ Some is.bean) (sym z) is.known in
      let v : x ≡ is.bean = cc in
      ap (λ (q : Bean). q.kind) v ∙ is.is

  no_class : (n i : ℕ) (w : World) (h : List Item) (k : Core) (c : Managed) → Known tables w h → core_at n w.instances ≡ Some k → IsOfClass tables h n c → k.component ≡ components.Interceptor i → ⊥
  no_class n i w h k c known e is s =
      let y : components.Interceptor i ≡ components.Bean is.index = sym s ∙ (known.once n k.component (components.Bean is.index) k.owner is.owner (known.lives n k e) is.born).0 in
      cc

  abbrev behind : ℕ → Prog Given
  behind n = handle (call (Task.Release n)) (λ _. handle (note (entries.Gone n)) (λ _. handle (alter (Change.Remove n)) (λ _. finish) throw) throw) throw

  unmarked_behind : (n : ℕ) → Unmarked (behind n)
  unmarked_behind n = unmarked_handle (call (Task.Release n)) _ throw (unmarked_call (Task.Release n)) (λ _. tt) (λ x. tt)

  module _ (n : ℕ) (w : World) (h : List Item) (k : Core) (known : Known tables w h) (e : core_at n w.instances ≡ Some k) (so : E h) (s : Calm h) (Q : Completion Given → World → List Item → Type 0) where
    abbrev h0 : List Item
    h0 = Wrote (entries.End n) ∷ h

    abbrev h1 : List Item
    h1 = Between n ∷ Wrote (entries.End n) ∷ h

    each1 : E h1
    each1 = (tt, (s (Wrote (entries.End n)), so))

    born : IsBorn n h0
    born = (k.component, k.owner, inr (known.lives n k e))

    earlier : (c : Managed) → IsOfClass tables h0 n c → IsOfClass tables h n c
    earlier c is = record { index = is.index; owner = is.owner; born = (elim is.born [ inl q ↦ cc | inr q ↦ q ]); bean = is.bean; known = is.known; is = is.is }

    in_h0 : (m i : ℕ) → IsIn (Born m (components.Interceptor i) (owners.Instance n)) h1 → IsIn (Born m (components.Interceptor i) (owners.Instance n)) h0
    in_h0 m i (inl q) = cc
    in_h0 m i (inr q) = q

    -- it has the first body of its class
    starts : (c d : Managed) → c ≡ d → (x : Item) → IsFirstStart tables h0 n d.pre_destroy.chain d.pre_destroy.callbacks x → IsFirstStart tables h0 n c.pre_destroy.chain c.pre_destroy.callbacks x
    starts c d q x f = subst (λ (z : Managed). IsFirstStart tables h0 n z.pre_destroy.chain z.pre_destroy.callbacks x) (sym q) f

    member_next : (b : ℕ) (x : Bean) (d : Managed) → k.component ≡ components.Bean b → tables.bean b ≡ Some x → x.kind ≡ Kind.Class d → d.pre_destroy.chain ≡ [] → MembersNext n d.pre_destroy.callbacks h1
    member_next b x d is f y none = by d.pre_destroy.callbacks refl
      where
        same : (c : Managed) → IsOfClass tables h0 n c → c ≡ d
        same c o = let z : Kind.Class c ≡ Kind.Class d = sym (same_class n b w h k c known e (earlier c o) is x f) ∙ y in cc

        by : (ms : List Code) → d.pre_destroy.callbacks ≡ ms → MembersNext n ms h1
        by [] q = λ x. (born, λ c o. starts c d (same c o) x (subst (λ z. IsFirstStart tables h0 n z d.pre_destroy.callbacks x) (sym none) (subst (λ z. IsFirstStart tables h0 n [] z x) (sym q) tt)))
        by (m ∷ ms) q = (born, λ c o. starts c d (same c o) (Wrote (entries.Run n m.place)) (subst (λ z. IsFirstStart tables h0 n z d.pre_destroy.callbacks (Wrote (entries.Run n m.place))) (sym none) (subst (λ z. IsFirstStart tables h0 n [] z (Wrote (entries.Run n m.place))) (sym q) refl)))

    chain_next : (b : ℕ) (x : Bean) (d : Managed) → k.component ≡ components.Bean b → tables.bean b ≡ Some x → x.kind ≡ Kind.Class d → (u : World) → KG tables u h1 → (chain : List ℕ) → d.pre_destroy.chain ≡ chain → ChainNext (invocation_at_start n roles.PreDestroy d.pre_destroy.callbacks []) chain u h1
    chain_next b x d is f y u g [] q = member_next b x d is f y q
    chain_next b x d is f y u g (i ∷ chain) q = λ m z t a c o p. (born, λ j v. starts j d (same j v) (Wrote (entries.Run m (places.Interceptor z.name roles.PreDestroy))) (subst (λ l. IsFirstStart tables h0 n l d.pre_destroy.callbacks (Wrote (entries.Run m (places.Interceptor z.name roles.PreDestroy)))) (sym q) (m, z, in_h0 m i (owned m t a c o), p, refl)))
      where
        same : (c : Managed) → IsOfClass tables h0 n c → c ≡ d
        same c o = let z : Kind.Class c ≡ Kind.Class d = sym (same_class n b w h k c known e (earlier c o) is x f) ∙ y in cc

        -- a dependent of the instance was born as its
        owned : (m : ℕ) (t : Core) → IsIn m (deps_at n u.instances) → core_at m u.instances ≡ Some t → t.component ≡ components.Interceptor i → IsIn (Born m (components.Interceptor i) (owners.Instance n)) h1
        owned m t a c o =
            let r = g.0.0.depends n m a in
            let l : Some (record { component = r.0; owner = owners.Instance n; phase = Rattle.cdi_store.specs.declared.instance.Phase.TheVariants.Ready }) ≡ Some t = sym r.1 ∙ c in
            let v : record { component = r.0; owner = owners.Instance n; phase = Rattle.cdi_store.specs.declared.instance.Phase.TheVariants.Ready } ≡ t = cc in
            subst (λ z. IsIn (Born m z (owners.Instance n)) h1) o (subst (λ z. IsIn (Born m t.component z) h1) (sym (ap (λ (z : Core). z.owner) v)) (g.1.lives m t c))

    cleaned : (o : Instance) (component : Component) → k.component ≡ component → (w1 : World)
        → D (handle (quietly (clean_up n o.value component)) (λ _. behind n) throw) w1 h1 Q → T (handle (quietly (clean_up n o.value component)) (λ _. behind n) throw) w1 h1 (λ c v k. Q c v k × Calm k)
    cleaned o (components.Interceptor i) is w1 d = calm (handle (quietly (clean_up n o.value (components.Interceptor i))) (λ _. behind n) throw) w1 h1 Q (unmarked_behind n) d (λ x. (born, λ c z. absurd (no_class n i w h k c known e (earlier c z) is))) each1
    cleaned o (components.Bean b) is w1 d = (each1, of_bean (tables.bean b) refl d)
      where
        of_kind : (x : Bean) → tables.bean b ≡ Some x → (t : Kind) → x.kind ≡ t
            → D (handle (quietly (clean_up_bean n o.value t)) (λ _. behind n) throw) w1 h1 Q → T (handle (quietly (clean_up_bean n o.value t)) (λ _. behind n) throw) w1 h1 (λ c v k. Q c v k × Calm k)
        of_kind x f (Kind.Producer p) y d = calm (handle (quietly (clean_up_bean n o.value (Kind.Producer p))) (λ _. behind n) throw) w1 h1 Q (unmarked_handle (quietly (clean_up_bean n o.value (Kind.Producer p))) (λ _. behind n) throw (walked (quietly (clean_up_bean n o.value (Kind.Producer p))) (Walk.l_quietly bare (clean_up_bean n o.value (Kind.Producer p)) (Walk.l_each bare p.disposers (dispose p o.value) (λ d. Walk.l_served bare p.declaring d (o.value ∷ []) owners.Borrower)))) (λ _. unmarked_behind n) (λ x. tt)) d
            (λ z. (born, λ c i. absurd (let u : Kind.Producer p ≡ Kind.Class c = sym y ∙ same_class n b w h k c known e (earlier c i) is x f in cc))) each1
        of_kind x f (Kind.Class c) y d = (
          each1,
          starting (Task.Rest c.pre_destroy.chain) _ (after_change (Change.Enter (invocation_at_start n roles.PreDestroy c.pre_destroy.callbacks [])) w1) h1 Q (λ r. left r) d.1
              (λ v vs q. (let u : invocation_at_start n roles.PreDestroy c.pre_destroy.callbacks [] ≡ v = cc in
              subst (λ z. ChainNext z c.pre_destroy.chain (after_change (Change.Enter (invocation_at_start n roles.PreDestroy c.pre_destroy.callbacks [])) w1) h1) u (chain_next b x c is f y (after_change (Change.Enter (invocation_at_start n roles.PreDestroy c.pre_destroy.callbacks [])) w1) d.1.0 c.pre_destroy.chain refl))) each1,
        )
          where
            left : (r : Completion Given) → Unmarked (handle (handle (handle (complete r) (λ a. handle (alter Change.Exit) (λ _. ret a) throw) (λ x. handle (alter Change.Exit) (λ _. throw x) throw)) (λ _. Rattle.cdi_machine.specs.Programs.do_nothing) (λ _. Rattle.cdi_machine.specs.Programs.do_nothing)) (λ _. behind n) throw)
            left (Gave a) = unmarked_behind n
            left (Threw x) = unmarked_behind n

        of_bean : (x : Option Bean) → tables.bean b ≡ x
            → D (handle (quietly (handle (require_present x) (λ bean. clean_up_bean n o.value bean.kind) throw)) (λ _. behind n) throw) w1 h1 Q → T (handle (quietly (handle (require_present x) (λ bean. clean_up_bean n o.value bean.kind) throw)) (λ _. behind n) throw) w1 h1 (λ c v k. Q c v k × Calm k)
        of_bean None f d = each1
        of_bean (Some x) f d = of_kind x f x.kind refl d

    begun : (o : Instance) → k.component ≡ o.component → D (destroy_ready n o) w h Q → T (destroy_ready n o) w h (λ c v k. Q c v k × Calm k)
    begun o is d = (so, ((s (Wrote (entries.End n)), so), ((s (Wrote (entries.End n)), so), cleaned o o.component is (after_change (Change.Leave n) (with_entry (entries.End n) w)) d.1.1)))

  destroy_tells : (n : ℕ) (w : World) (h : List Item) → G w h → Asks (Task.Destroy n) w h → T (destroy n) w h (Leaves (Task.Destroy n) w h)
  destroy_tells n w h g q = (g.1, by (instance_at w n) refl (all_born tables (Task.Destroy n) w h g.0 q.0))
    where
      over : (o : Instance) → instance_at w n ≡ Some o → (x : Option Instance) → ((z : Instance) → x ≡ Some z → z ≡ o) → D (handle (require_present x) (λ o. destroy_ready n o) throw) w h (BothPost tables (Task.Destroy n) w h) → T (handle (require_present x) (λ o. destroy_ready n o) throw) w h (Leaves (Task.Destroy n) w h)
      over o e None f d = g.1
      over o e (Some z) f d = begun n w h (core_of o) g.0.1 (ap (option_map core_of) e) g.1 q.1 (BothPost tables (Task.Destroy n) w h) z (ap (λ (y : Instance). y.component) (sym (f z refl))) d

      is_it : (o : Instance) (p : Rattle.cdi_store.specs.declared.instance.Phase.Phase) (z : Instance) → elim p as (λ _. Option Instance) [ Rattle.cdi_store.specs.declared.instance.Phase.TheVariants.New ↦ None | Rattle.cdi_store.specs.declared.instance.Phase.TheVariants.Ready ↦ Some o | Rattle.cdi_store.specs.declared.instance.Phase.TheVariants.Leaving ↦ None ] ≡ Some z → z ≡ o
      is_it o Rattle.cdi_store.specs.declared.instance.Phase.TheVariants.New z e = absurd (cc)
      is_it o Rattle.cdi_store.specs.declared.instance.Phase.TheVariants.Ready z e = cc
      is_it o Rattle.cdi_store.specs.declared.instance.Phase.TheVariants.Leaving z e = absurd (cc)

      by : (x : Option Instance) → instance_at w n ≡ x → D (handle (require_present (only_ready x)) (λ o. destroy_ready n o) throw) w h (BothPost tables (Task.Destroy n) w h) → T (handle (require_present (only_ready x)) (λ o. destroy_ready n o) throw) w h (Leaves (Task.Destroy n) w h)
      by None e d = g.1
      by (Some o) e d = over o e (only_ready (Some o)) (λ z f. is_it o o.phase z f) d

  -- ---- all tasks

  tells_calmly : (t : Task) (w : World) (h : List Item) → Unmarked (machine t) → G w h → Pre tables t w h → Calm h → T (machine t) w h (Leaves t w h)
  tells_calmly t w h u g q s = calm (machine t) w h (BothPost tables t w h) u (all_born tables t w h g.0 q) s g.1

  pub all_tell : (t : Task) (w : World) (h : List Item) → G w h → Asks t w h → T (machine t) w h (Leaves t w h)
  all_tell (Task.Obtain b) w h g q = tells_calmly (Task.Obtain b) w h (walked (machine (Task.Obtain b)) (Walk.l_obtain bare b)) g q.0 q.1
  all_tell (Task.Create b owner) w h g q = tells_calmly (Task.Create b owner) w h (unmarked_create b owner) g q.0 q.1
  all_tell (Task.Intercept i m) w h g q = tells_calmly (Task.Intercept i m) w h (unmarked_intercept i m) g q.0 q.1
  all_tell (Task.Rest chain) w h g q = rest_tells chain w h g q
  all_tell (Task.Body r) w h g q = body_tells r w h g q
  all_tell (Task.Acts r) w h g q = tells_calmly (Task.Acts r) w h (walked (machine (Task.Acts r)) (Walk.l_acts bare r)) g q.0 q.1
  all_tell (Task.Destroy n) w h g q = destroy_tells n w h g q
  all_tell (Task.Release n) w h g q = tells_calmly (Task.Release n) w h (walked (machine (Task.Release n)) (Walk.l_releases bare n)) g q.0 q.1
  all_tell (Task.Fire class qualifiers v) w h g q = tells_calmly (Task.Fire class qualifiers v) w h (walked (machine (Task.Fire class qualifiers v)) (Walk.l_fire bare class qualifiers v)) g q.0 q.1
  all_tell (Task.Notify os v) w h g q = tells_calmly (Task.Notify os v) w h (walked (machine (Task.Notify os v)) (Walk.l_notify bare os v)) g q.0 q.1
  all_tell Task.Dismiss w h g q = tells_calmly Task.Dismiss w h (walked (machine Task.Dismiss) (Walk.l_dismiss bare)) g q.0 q.1
  all_tell (Task.Clear c) w h g q = tells_calmly (Task.Clear c) w h (walked (machine (Task.Clear c)) (Walk.l_clears bare c)) g q.0 q.1
