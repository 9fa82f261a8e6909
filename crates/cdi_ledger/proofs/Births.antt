-- What lives was born so; and of one bean a context has one instance at a time.
use Rattle.std.proofs.Common.{ℕ, ◌≡◌, ◌≢◌, ◌<◌, List, [], ◌∷◌, inl, inr, Option, Some, None, Bool, true, false, refl, sym, ap, ◌∙◌, subst, arith, length}
use Rattle.std.specs.Prelude.{nat_eq, nat_lt, option_map, ◌^◌}
use Rattle.std.proofs.lemmas.Bool.Decides.{nat_tests}
use Rattle.cdi_base.specs.declared.value.Value.TheVariants as values
use Rattle.cdi_base.specs.declared.act.Act.{Act}
use Rattle.cdi_base.specs.declared.entry.Entry.{Entry}
use Rattle.cdi_base.specs.declared.entry.Entry.TheVariants as entries
use Rattle.cdi_base.specs.declared.place.Place.{Place}
use Rattle.cdi_base.specs.declared.place.Place.TheVariants as places
use Rattle.cdi_base.specs.declared.scope.Scope.TheVariants as scopes
use Rattle.cdi_base.specs.declared.built_in.BuiltIn.TheVariants as built_in
use Rattle.cdi_store.specs.declared.instance.Component.{Component}
use Rattle.cdi_store.specs.declared.instance.Component.TheVariants as components
use Rattle.cdi_store.specs.declared.instance.Context.{Context}
use Rattle.cdi_store.specs.declared.instance.Context.TheVariants.{Application}
use Rattle.cdi_store.specs.declared.instance.Owner.{Owner}
use Rattle.cdi_store.specs.declared.instance.Owner.TheVariants as owners
use Rattle.cdi_store.specs.declared.instance.Instance.{Instance}
use Rattle.cdi_store.specs.declared.instance.Phase.{Phase}
use Rattle.cdi_store.specs.declared.instance.Phase.TheVariants as phases
use Rattle.cdi_store.specs.Live.{with_ready, with_leaving}
use Rattle.cdi_store.proofs.Numbers.{equal_or_not}
use Rattle.cdi_base.specs.Maps.{at, without}
use Rattle.cdi_contexts.specs.Contexts.{context_at}
use Rattle.cdi_machine.specs.Words.{Name, Fields}
use Rattle.cdi_machine.specs.Tables.{Tables, Bean, Interceptor}
use Rattle.cdi_machine.specs.World.{World, Change, after_change, with_entry, instance_at, at_begin, for_instance, with_owned, without_owned, without_making, with_instances}
use Rattle.cdi_machine.specs.Programs.{Task, Given, Completion, Gave, Threw, Running, Prog, ret, throw, cut, miss, see, change, tick, mark, act, choose, nested, candidates, handle, call, quietly, note, alter, finally, require_present, require_depth, give_number, each, instance, rethrow}
use Rattle.cdi_machine.specs.Bodies.{run_body}
use Rattle.cdi_machine.specs.Creation.{create, intercept, create_by, end_creation, discard, begin_creation, make, first_fields, inject}
use Rattle.cdi_machine.specs.Destruction.{destroy, destroy_ready, only_ready, clean_up}
use Rattle.cdi_machine.specs.Commands.{Command, task}
use Rattle.cdi_machine.specs.Machine.{machine}
use Rattle.cdi_machine.specs.Runs.{Legal, Outcome, Runs}
use Rattle.cdi_machine.specs.Container.{State}
use Rattle.cdi_machine.proofs.Refused.{refused}
use Rattle.cdi_machine.proofs.Walk
use Rattle.cdi_machine.proofs.Walk.{Plain, PlainChange, PlainEntry, plain_of}
use Rattle.cdi_machine.proofs.Levels.{Height}
use Rattle.cdi_ledger.specs.Ledger.{Item, Wrote, Between, Born, with_birth, Fate, Unborn, Made, Readied, Ended, Left, Lost, Wrong, fate, if_is, by_new, items_of}
use Rattle.cdi_ledger.specs.Stories.{Story}
use Rattle.cdi_ledger.specs.Whose.{IsIn}
use Rattle.cdi_ledger.specs.Ends.{Each, IsOver, IsNamed, IsBornAsWritten, IsBirth, IsBirthBehindNew, IsNoNew, OneAtATime, Suits, SuitsItsScope, OneInAContext, OneInAContextIfShort, PlacesAreApart, OnceByPlace, OneOfTheApplication}
use Rattle.cdi_ledger.proofs.Judge.{Does, sound, guard_map, note_map}
use Rattle.cdi_ledger.proofs.Phases.{phase_at, phase_of}
use Rattle.cdi_ledger.proofs.Plain.{Sane, Kept, standing, stands}
use Rattle.cdi_ledger.proofs.Ledgered as ledgered
use Rattle.cdi_ledger.proofs.Holdings.{IsFree, free_none, free_apart}
use Rattle.cdi_ledger.proofs.Cores.{Core, core_of, core_at, with_phase, when, core_same, core_ready, core_leaving, core_gone, core_left}
use Rattle.cdi_ledger.proofs.Homes.{Inv}
use Rattle.cdi_ledger.proofs.Spans.{CanBegin, Begun, begins}
use Rattle.cdi_ledger.proofs.Owed.{Ok, Pre, CanOwn}
use Rattle.cdi_ledger.proofs.Fine as fine
use Rattle.cdi_ledger.proofs.Tops.{Tidy, LeftTidy, command_does}
use Rattle.cdi_ledger.proofs.Settled.{tidy_story, sane_story, begin_tidy, not_halted}
use Rattle.cdi_ledger.proofs.Fronts.{anything, also_short}
use Rattle.cdi_ledger.proofs.Nesting.{Both, BothPost, pair, both_do}

bare : Height
bare = record { invocations = 0; bodies = 0; temporaries = 0 }

-- ---- what holds of births

pub record Kin (tables : Tables) (x : Item) (h : List Item) : Type 0 where
  pub one : OneAtATime x h
  pub suits : SuitsItsScope tables x h
  pub born : IsBornAsWritten tables x h
  pub followed : IsBirthBehindNew x h

pub record Known (tables : Tables) (w : World) (h : List Item) : Type 0 where
  pub lives : (k : ℕ) (c : Core) → core_at k w.instances ≡ Some c → IsIn (Born k c.component c.owner) h
  pub below : (k : ℕ) (component : Component) (owner : Owner) → IsIn (Born k component owner) h → k < w.next
  pub once : (k : ℕ) (c d : Component) (o p : Owner) → IsIn (Born k c o) h → IsIn (Born k d p) h → (c ≡ d) × (o ≡ p)
  pub each : Each (Kin tables) h
  pub ends : IsNoNew h

pub each_map : {P Q : Item → List Item → Type 0} (h : List Item) → ((x : Item) (k : List Item) → P x k → Q x k) → Each P h → Each Q h
each_map [] f e = tt
each_map (x ∷ h) f e = (f x h e.0, each_map h f e.1)

followed_any : (x : Item) (h : List Item) → IsNoNew h → IsBirthBehindNew x h
followed_any x (Wrote (entries.New n place) ∷ h) q = absurd q
followed_any x _ q = tt

-- ---- programs in which nothing is born

abbrev pub NotNew : Entry → Type 0 → Type 0
NotNew (entries.New m place) X = ⊥
NotNew _ X = X

abbrev pub NotMake : Change → Type 0 → Type 0
NotMake (Change.Make component owner fields) X = ⊥
NotMake _ X = X

abbrev pub Barren : {A : Type 0} → Prog A → Type 0
Barren (ret a) = Unit {0}
Barren (throw x) = Unit {0}
Barren (cut cause) = Unit {0}
Barren (miss p) = Barren p
Barren (see k) = (t : Tables) (w : World) → Barren (k t w)
Barren (change g p) = NotMake g (Barren p)
Barren (tick e p) = NotNew e (Barren p)
Barren (mark n p) = Barren p
Barren (act b fields view k) = (a : Act) → Barren (k a)
Barren (choose n k) = (i : ℕ) → Barren (k i)
Barren (nested t k) = (c : Completion Given) → Barren (k c)

not_new_map : {X Y : Type 0} (e : Entry) → (X → Y) → NotNew e X → NotNew e Y
not_new_map (entries.New m place) f x = x
not_new_map _ f x = f x

not_make_map : {X Y : Type 0} (g : Change) → (X → Y) → NotMake g X → NotMake g Y
not_make_map (Change.Make component owner fields) f x = x
not_make_map _ f x = f x

pub barren_handle : {A B : Type 0} (p : Prog A) (f : A → Prog B) (g : Name → Prog B) → Barren p → ((a : A) → Barren (f a)) → ((x : Name) → Barren (g x)) → Barren (handle p f g)
barren_handle (ret a) f g q qf qg = qf a
barren_handle (throw x) f g q qf qg = qg x
barren_handle (cut cause) f g q qf qg = tt
barren_handle (miss p) f g q qf qg = barren_handle p f g q qf qg
barren_handle (see k) f g q qf qg = λ t w. barren_handle (k t w) f g (q t w) qf qg
barren_handle (change x p) f g q qf qg = not_make_map x (λ y. barren_handle p f g y qf qg) q
barren_handle (tick e p) f g q qf qg = not_new_map e (λ y. barren_handle p f g y qf qg) q
barren_handle (mark n p) f g q qf qg = barren_handle p f g q qf qg
barren_handle (act b fields view k) f g q qf qg = λ a. barren_handle (k a) f g (q a) qf qg
barren_handle (choose n k) f g q qf qg = λ i. barren_handle (k i) f g (q i) qf qg
barren_handle (nested t k) f g q qf qg = λ c. barren_handle (k c) f g (q c) qf qg

plain_entry : {X Y : Type 0} (e : Entry) → (X → Y) → PlainEntry e X → NotNew e Y
plain_entry (entries.Event class qualifiers) f x = f x
plain_entry (entries.Did a) f x = f x
plain_entry (entries.Pick c i) f x = f x
plain_entry _ f x = absurd x

plain_make : {X Y : Type 0} (g : Change) → (X → Y) → PlainChange g X → NotMake g Y
plain_make (Change.Make component owner fields) f x = x
plain_make (Change.Settle n) f x = absurd x
plain_make (Change.Discard n) f x = absurd x
plain_make (Change.Leave n) f x = absurd x
plain_make (Change.Remove n) f x = absurd x
plain_make _ f x = f x

pub barren_of : {A : Type 0} (p : Prog A) → Plain p → Barren p
barren_of (ret a) q = tt
barren_of (throw x) q = tt
barren_of (cut cause) q = tt
barren_of (miss p) q = barren_of p q
barren_of (see k) q = λ t w. barren_of (k t w) (q t w)
barren_of (change g p) q = plain_make g (λ y. barren_of p y) q
barren_of (tick e p) q = plain_entry e (λ y. barren_of p y) q
barren_of (mark n p) q = absurd q
barren_of (act b fields view k) q = λ a. barren_of (k a) (q a)
barren_of (choose n k) q = λ i. barren_of (k i) (q i)
barren_of (nested t k) q = λ c. barren_of (k c) (q c)

pub barren_call : (t : Task) → Barren (call t)
barren_call t (Gave g) = tt
barren_call t (Threw x) = tt

barren_present : {A : Type 0} (o : Option A) → Barren (require_present o)
barren_present None = tt
barren_present (Some a) = tt

pub barren_body : (r : Running) → Barren (run_body r)
barren_body r t w = by (nat_lt (length w.bodies) w.depth)
  where
    by : (c : Bool) → Barren (handle (require_depth c) (λ _. handle (instance r.instance) (λ _. handle (note (entries.Run r.instance r.place)) (λ _. handle (alter (Change.Start r.instance)) (λ _. finally (call (Task.Acts r)) (alter Change.Stop)) throw) throw) throw) throw)
    by true = barren_handle (instance r.instance) _ throw (λ t w. barren_present (instance_at w r.instance)) (λ _. barren_handle (call (Task.Acts r)) _ _ (barren_call (Task.Acts r)) (λ _. tt) (λ _. tt)) (λ x. tt)
    by false = tt

barren_discard : (n : ℕ) → Barren (discard n)
barren_discard n = barren_handle (call (Task.Release n)) _ throw (barren_call (Task.Release n)) (λ _. tt) (λ x. tt)

barren_ended : (n : ℕ) (g : Given) → Barren (end_creation n g)
barren_ended n (Given.Result values.Null) = barren_handle (discard n) _ throw (barren_discard n) (λ _. tt) (λ x. tt)
barren_ended n (Given.Result (values.Int i)) = tt
barren_ended n (Given.Result (values.Text i)) = tt
barren_ended n (Given.Number m) = tt
barren_ended n Given.Empty = tt

pub barren_creating : (n : ℕ) (steps : Prog Given) → Barren steps → Barren (create_by n steps)
barren_creating n steps q = barren_handle steps _ _ q (barren_ended n) (λ x. barren_handle (discard n) _ throw (barren_discard n) (λ _. barren_of (rethrow {A = Given} x built_in.CreationException) (plain_of bare bare (rethrow {A = Given} x built_in.CreationException) (Walk.l_rethrow bare Given x built_in.CreationException))) (λ x. tt))

barren_left : (n : ℕ) (o : Instance) → Barren (destroy_ready n o)
barren_left n o = barren_handle (quietly (clean_up n o.value o.component)) _ throw (barren_of (quietly (clean_up n o.value o.component)) (plain_of bare bare (quietly (clean_up n o.value o.component)) (Walk.l_quietly bare (clean_up n o.value o.component) (Walk.l_farewell bare n o.value o.component))))
    (λ _. barren_handle (call (Task.Release n)) _ throw (barren_call (Task.Release n)) (λ _. tt) (λ x. tt)) (λ x. tt)

pub barren_destroy : (n : ℕ) → Barren (destroy n)
barren_destroy n t w = by (only_ready (instance_at w n))
  where
    by : (o : Option Instance) → Barren (handle (require_present o) (λ o. destroy_ready n o) throw)
    by None = tt
    by (Some o) = barren_left n o

-- ---- what lived before

abbrev pub WasSo : World → ℕ → Core → Type 0
WasSo w k c = (d : Core) × (core_at k w.instances ≡ Some d) × (d.component ≡ c.component) × (d.owner ≡ c.owner)

was_same : (w : World) (k : ℕ) (c : Core) (x : Option Core) → x ≡ core_at k w.instances → x ≡ Some c → WasSo w k c
was_same w k c x e f = (c, sym e ∙ f, refl, refl)

was_phased : (w : World) (p : Phase) (b : Bool) (k : ℕ) (c : Core) (x : Option Core) → x ≡ when b (with_phase p) (core_at k w.instances) → x ≡ Some c → WasSo w k c
was_phased w p b k c x e f = by b (core_at k w.instances) refl (sym e ∙ f)
  where
    by : (b : Bool) (o : Option Core) → core_at k w.instances ≡ o → when b (with_phase p) o ≡ Some c → WasSo w k c
    by true None q z = absurd (cc)
    by false None q z = absurd (cc)
    by true (Some d) q z = let y : with_phase p d ≡ c = cc in (d, q, ap (λ (u : Core). u.component) y, ap (λ (u : Core). u.owner) y)
    by false (Some d) q z = (c, q ∙ z, refl, refl)

was_left : (w : World) (n k : ℕ) (c : Core) → core_at k (without n w.instances) ≡ Some c → WasSo w k c
was_left w n k c e = elim (equal_or_not k n) [
  | inl s ↦ let q : ◌≡◌ {A = Option Core} None (Some c) = sym (core_gone w.instances n) ∙ subst (λ z. core_at z (without n w.instances) ≡ Some c) s.1 e in absurd (cc)
  | inr s ↦ (c, sym (core_left w.instances n k s.1) ∙ e, refl, refl)
]

pub record Alike (w v : World) : Type 0 where
  pub next : v.next ≡ w.next
  pub was : (k : ℕ) (c : Core) → core_at k v.instances ≡ Some c → WasSo w k c

alike_same : (w v : World) → v.next ≡ w.next → v.instances ≡ w.instances → Alike w v
alike_same w v e i = record { next = e; was = λ k c f. was_same w k c (core_at k v.instances) (ap (core_at k) i) f }

pub alike_change : (g : Change) (w : World) (X : Type 0) → NotMake g X → Alike w (after_change g w) × X
alike_change (Change.Make component owner fields) w X x = absurd x
alike_change (Change.Settle n) w X x = (by (instance_at w n), x)
  where
    owned : (component : Component) (owner : Owner) → Alike w (with_owned n component owner (with_instances (with_ready n) w))
    owned component (owners.Context c) = record { next = refl; was = λ k c f. was_phased w phases.Ready (nat_eq k n) k c _ (core_ready n w.instances k) f }
    owned component (owners.Instance m) = record { next = refl; was = λ k c f. was_phased w phases.Ready (nat_eq k n) k c _ (core_ready n w.instances k) f }
    owned component owners.Borrower = record { next = refl; was = λ k c f. was_phased w phases.Ready (nat_eq k n) k c _ (core_ready n w.instances k) f }

    by : (o : Option Instance) → Alike w (for_instance w o (λ o. with_owned n o.component o.owner (with_instances (with_ready n) w)))
    by None = alike_same w w refl refl
    by (Some o) = owned o.component o.owner
alike_change (Change.Discard n) w X x = (by (instance_at w n), x)
  where
    owned : (component : Component) (owner : Owner) → Alike w (without_making component owner (with_instances (without n) w))
    owned component (owners.Context c) = record { next = refl; was = λ k c f. was_left w n k c f }
    owned component (owners.Instance m) = record { next = refl; was = λ k c f. was_left w n k c f }
    owned component owners.Borrower = record { next = refl; was = λ k c f. was_left w n k c f }

    by : (o : Option Instance) → Alike w (for_instance w o (λ o. without_making o.component o.owner (with_instances (without n) w)))
    by None = alike_same w w refl refl
    by (Some o) = owned o.component o.owner
alike_change (Change.Leave n) w X x = (by (instance_at w n), x)
  where
    owned : (component : Component) (owner : Owner) → Alike w (without_owned n component owner (with_instances (with_leaving n) w))
    owned component (owners.Context c) = record { next = refl; was = λ k c f. was_phased w phases.Leaving (nat_eq k n) k c _ (core_leaving n w.instances k) f }
    owned component (owners.Instance m) = record { next = refl; was = λ k c f. was_phased w phases.Leaving (nat_eq k n) k c _ (core_leaving n w.instances k) f }
    owned component owners.Borrower = record { next = refl; was = λ k c f. was_phased w phases.Leaving (nat_eq k n) k c _ (core_leaving n w.instances k) f }

    by : (o : Option Instance) → Alike w (for_instance w o (λ o. without_owned n o.component o.owner (with_instances (with_leaving n) w)))
    by None = alike_same w w refl refl
    by (Some o) = owned o.component o.owner
alike_change (Change.Remove n) w X x = (record { next = refl; was = λ k c f. was_left w n k c f }, x)
alike_change (Change.Assign m field v) w X x = (record { next = refl; was = λ k c f. was_same w k c _ (core_same w.instances m _ (λ o. refl) k) f }, x)
alike_change (Change.Refer m field r) w X x = (record { next = refl; was = λ k c f. was_same w k c _ (core_same w.instances m _ (λ o. refl) k) f }, x)
alike_change (Change.Hold m v) w X x = (record { next = refl; was = λ k c f. was_same w k c _ (core_same w.instances m _ (λ o. refl) k) f }, x)
alike_change g w X x = (alike_same w (after_change g w) refl refl, x)

not_birth : (g : Change) (w : World) (h : List Item) (X : Type 0) → NotMake g X → with_birth g w h ≡ h
not_birth (Change.Make component owner fields) w h X x = absurd x
not_birth _ w h X x = refl

module _ (tables : Tables) where
  known_alike : (w v : World) (h : List Item) → Alike w v → Known tables w h → Known tables v h
  known_alike w v h a g = record {
    lives = λ k c e. (let d = a.was k c e in subst (λ z. IsIn (Born k z c.owner) h) d.2 (subst (λ z. IsIn (Born k d.0.component z) h) d.3 (g.lives k d.0 d.1)));
    below = λ k c o i. subst (λ z. k < z) (sym a.next) (g.below k c o i);
    once = g.once;
    each = g.each;
    ends = g.ends;
  }

  -- an item that is no `new` and no birth
  abbrev IsOther : Item → Type 0
  IsOther x = ((h : List Item) → IsNoNew (x ∷ h)) × ((h : List Item) → IsNoNew h → Kin tables x h) × ((k : ℕ) (c : Component) (o : Owner) → x ≡ Born k c o → ⊥)

  known_item : (x : Item) (w : World) (h : List Item) → IsOther x → Known tables w h → Known tables w (x ∷ h)
  known_item x w h f g = record {
    lives = λ k c e. inr (g.lives k c e);
    below = λ k c o i. elim i [ inl q ↦ absurd (f.2 k c o q) | inr q ↦ g.below k c o q ];
    once = λ k c d o p i j. elim i [ inl q ↦ absurd (f.2 k c o q) | inr q ↦ elim j [ inl z ↦ absurd (f.2 k d p z) | inr z ↦ g.once k c d o p q z ] ];
    each = (f.1 h g.ends, g.each);
    ends = f.0 h;
  }

  other_mark : (n : ℕ) → IsOther (Between n)
  other_mark n = (λ h. tt, (λ h e. record { one = tt; suits = tt; born = tt; followed = followed_any (Between n) h e }), λ k c o q. cc)

  other_entry : (e : Entry) (X : Type 0) → NotNew e X → IsOther (Wrote e) × X
  other_entry (entries.New m place) X x = absurd x
  other_entry (entries.Ready m) X x = ((λ h. tt, (λ h e. record { one = tt; suits = tt; born = tt; followed = followed_any (Wrote (entries.Ready m)) h e }), λ k c o q. cc), x)
  other_entry (entries.Drop m) X x = ((λ h. tt, (λ h e. record { one = tt; suits = tt; born = tt; followed = followed_any (Wrote (entries.Drop m)) h e }), λ k c o q. cc), x)
  other_entry (entries.Run m place) X x = ((λ h. tt, (λ h e. record { one = tt; suits = tt; born = tt; followed = followed_any (Wrote (entries.Run m place)) h e }), λ k c o q. cc), x)
  other_entry (entries.Did a) X x = ((λ h. tt, (λ h e. record { one = tt; suits = tt; born = tt; followed = followed_any (Wrote (entries.Did a)) h e }), λ k c o q. cc), x)
  other_entry (entries.Pick c i) X x = ((λ h. tt, (λ h e. record { one = tt; suits = tt; born = tt; followed = followed_any (Wrote (entries.Pick c i)) h e }), λ k c o q. cc), x)
  other_entry (entries.Event class qualifiers) X x = ((λ h. tt, (λ h e. record { one = tt; suits = tt; born = tt; followed = followed_any (Wrote (entries.Event class qualifiers)) h e }), λ k c o q. cc), x)
  other_entry (entries.End m) X x = ((λ h. tt, (λ h e. record { one = tt; suits = tt; born = tt; followed = followed_any (Wrote (entries.End m)) h e }), λ k c o q. cc), x)
  other_entry (entries.Gone m) X x = ((λ h. tt, (λ h e. record { one = tt; suits = tt; born = tt; followed = followed_any (Wrote (entries.Gone m)) h e }), λ k c o q. cc), x)

  abbrev pub KG : World → List Item → Type 0
  KG w h = Both tables w h × Known tables w h

  pub with_births : {A : Type 0} (p : Prog A) (w : World) (h : List Item) (Q : Completion A → World → List Item → Type 0) → Barren p → Does tables (Ok tables) (Both tables) (Pre tables) (BothPost tables) p w h Q → Known tables w h → Does tables (Ok tables) KG (Pre tables) (BothPost tables) p w h Q
  with_births (ret a) w h Q q d e = ((d.0, e), d.1)
  with_births (throw x) w h Q q d e = ((d.0, e), d.1)
  with_births (cut cause) w h Q q d e = (d, e)
  with_births (miss p) w h Q q d e = with_births p w h Q q d e
  with_births (see k) w h Q q d e = with_births (k tables w) w h Q (q tables w) d e
  with_births (change x p) w h Q q d e =
      let a = alike_change x w (Barren p) q in
      guard_map (Ok tables) x w h (λ y. with_births p (after_change x w) (with_birth x w h) Q a.1 y (subst (Known tables (after_change x w)) (sym (not_birth x w h (Barren p) q)) (known_alike w (after_change x w) h a.0 e))) d
  with_births (tick x p) w h Q q d e = let z = other_entry x (Barren p) q in ((d.0, e), note_map (Ok tables) x w h (λ y. with_births p (with_entry x w) (Wrote x ∷ h) Q z.1 y (known_item (Wrote x) (with_entry x w) h z.0 (known_alike w (with_entry x w) h (alike_same w (with_entry x w) refl refl) e))) d.1)
  with_births (mark m p) w h Q q d e = with_births p w (Between m ∷ h) Q q d (known_item (Between m) w h (other_mark m) e)
  with_births (act b fields view k) w h Q q d e = ((d.0, e), λ a. with_births (k a) (with_entry (entries.Did a) w) (Wrote (entries.Did a) ∷ h) Q (q a) (d.1 a) (known_item (Wrote (entries.Did a)) (with_entry (entries.Did a) w) h (other_entry (entries.Did a) (Unit {0}) tt).0 (known_alike w (with_entry (entries.Did a) w) h (alike_same w (with_entry (entries.Did a) w) refl refl) e)))
  with_births (choose m k) w h Q q d e = ((d.0, e), λ i l. with_births (k i) (with_entry (entries.Pick (candidates m) i) w) (Wrote (entries.Pick (candidates m) i) ∷ h) Q (q i) (d.1 i l) (known_item (Wrote (entries.Pick (candidates m) i)) (with_entry (entries.Pick (candidates m) i) w) h (other_entry (entries.Pick (candidates m) i) (Unit {0}) tt).0 (known_alike w (with_entry (entries.Pick (candidates m) i) w) h (alike_same w (with_entry (entries.Pick (candidates m) i) w) refl refl) e)))
  with_births (nested t k) w h Q q d e = ((d.0, e), d.1, λ c v j g z. with_births (k c) v j Q (q c) (d.2 c v j g.0 z) g.1)

  -- ---- a birth

  over_stands : (l : Bool) (p : Option Phase) → l ≡ true → (p ≡ Some phases.New → ⊥) → (p ≡ Some phases.Ready → ⊥) → IsOver (stands l p)
  over_stands true None e f g = tt
  over_stands false None e f g = absurd (cc)
  over_stands l (Some phases.New) e f g = absurd (f refl)
  over_stands l (Some phases.Ready) e f g = absurd (g refl)
  over_stands l (Some phases.Leaving) e f g = tt

  lt_true : (m n : ℕ) → m < n → nat_lt m n ≡ true
  lt_true m n l = grind (arith, nat_tests)

  core_phase : (m : ℕ) (w : World) (p : Phase) → phase_at m w.instances ≡ Some p → (c : Core) × (core_at m w.instances ≡ Some c) × (c.phase ≡ p)
  core_phase m w p e = by (at w.instances m) refl e
    where
      by : (o : Option Instance) → at w.instances m ≡ o → phase_of o ≡ Some p → (c : Core) × (core_at m w.instances ≡ Some c) × (c.phase ≡ p)
      by None q f = absurd (cc)
      by (Some o) q f = (core_of o, ap (option_map core_of) q, let z : o.phase ≡ p = cc in z)

  other_new : (n m : ℕ) (place : Place) (h : List Item) → m ≢ n → fate m (Wrote (entries.New n place) ∷ h) ≡ fate m h
  other_new n m place h d = elim (equal_or_not n m) [ inl s ↦ absurd (d (sym s.1)) | inr s ↦ ap (λ b. if_is b (by_new (fate m h)) (fate m h)) s.0 ]

  module _ (place : Place) (component : Component) (owner : Owner) (fields : Fields) (w : World) (h : List Item) (g : Inv w) (sane : (m : ℕ) → Sane m w h) (known : Known tables w h) where
    abbrev n : ℕ
    n = w.next

    abbrev w0 : World
    w0 = with_entry (entries.New n place) w

    abbrev w1 : World
    w1 = after_change (Change.Make component owner fields) w0

    abbrev h1 : List Item
    h1 = Wrote (entries.New n place) ∷ h

    -- of what is still there a context that is free has none
    over : (m b : ℕ) (x : Context) → IsFree (context_at w.contexts x) b → IsIn (Born m (components.Bean b) (owners.Context x)) h → IsOver (fate m h)
    over m b x free i = subst IsOver (sym (sane m).fate) (over_stands (nat_lt m w.next) (phase_at m w.instances) (lt_true m w.next (known.below m _ _ i)) making ready)
      where
        is : (p : Phase) → phase_at m w.instances ≡ Some p → core_at m w.instances ≡ Some (record { component = components.Bean b; owner = owners.Context x; phase = p })
        is p e =
            let c = core_phase m w p e in
            let s = known.once m (c.0).component (components.Bean b) (c.0).owner (owners.Context x) (known.lives m c.0 c.1) i in
            c.1 ∙ ap (λ t. Some t) (ap (λ t. record { component = t; owner = (c.0).owner; phase = (c.0).phase }) s.0 ∙ (ap (λ t. record { component = components.Bean b; owner = t; phase = (c.0).phase }) s.1 ∙ ap (λ t. record { component = components.Bean b; owner = owners.Context x; phase = t }) c.2))

        making : phase_at m w.instances ≡ Some phases.New → ⊥
        making e = free_apart (context_at w.contexts x) b b free (g.made m x b (is phases.New e)) refl

        ready : phase_at m w.instances ≡ Some phases.Ready → ⊥
        ready e = free_none (context_at w.contexts x) b free m (g.placed m _ (is phases.Ready e) refl)

    module _ (can : CanBegin w0 component owner) (named : IsNamed tables component place) (suits : SuitsItsScope tables (Born n component owner) h1) where
      begun : Begun w0 w1 component owner
      begun = begins w0 (fine.inv_entry (entries.New n place) w g) component fields owner can

      in_context : (c : Component) (x : Context) → CanBegin w0 c (owners.Context x) → (m : ℕ) → IsIn (Born m c (owners.Context x)) h1 → IsOver (fate m h1)
      in_context c x can m (inl q) = cc
      in_context c x can m (inr q) =
          let y = subst (λ z. IsIn (Born m z (owners.Context x)) h) can.1 q in
          subst IsOver (sym (other_new n m place h (λ e. let l = known.below m (components.Bean can.0) (owners.Context x) y in omega (arith, e)))) (over m can.0 x can.2 y)

      one_at_a_time : (c : Component) (o : Owner) → CanBegin w0 c o → OneAtATime (Born n c o) h1
      one_at_a_time c (owners.Instance m) can = tt
      one_at_a_time c owners.Borrower can = tt
      one_at_a_time c (owners.Context x) can = in_context c x can

      born_known : Known tables w1 (Born n component owner ∷ h1)
      born_known = record {
        lives = λ k c e. elim (equal_or_not k n) [
          | inl s ↦ inl (let q : Some (record { component = component; owner = owner; phase = phases.New }) ≡ Some c = sym begun.moves.own ∙ subst (λ z. core_at z w1.instances ≡ Some c) s.1 e in
              let y : record { component = component; owner = owner; phase = phases.New } ≡ c = cc in
              ap (λ z. Born z component owner) (sym s.1) ∙ (ap (λ (z : Core). Born k z.component owner) y ∙ ap (λ (z : Core). Born k c.component z.owner) y))
          | inr s ↦ inr (inr (known.lives k c (sym (begun.moves.other k s.1) ∙ e)))
        ];
        below = λ k c o i. (let x = begun.next in elim i [
          | inl q ↦ (let y : n ≡ k = cc in omega (arith, y))
          | inr q ↦ elim q [ inl z ↦ cc | inr z ↦ let l = known.below k c o z in omega arith ]
        ]);
        once = λ k c d o p i j. elim i [
          | inl q ↦ elim j [
            | inl z ↦ (let a : component ≡ c = cc in let b : component ≡ d = cc in sym a ∙ b, let a : owner ≡ o = cc in let b : owner ≡ p = cc in sym a ∙ b)
            | inr z ↦ absurd (let y : n ≡ k = cc in old k d p y z)
          ]
          | inr q ↦ elim j [
            | inl z ↦ absurd (let y : n ≡ k = cc in old k c o y q)
            | inr z ↦ elim q [ inl y ↦ cc | inr y ↦ elim z [ inl u ↦ cc | inr u ↦ known.once k c d o p y u ] ]
          ]
        ];
        each = (record { one = one_at_a_time component owner can; suits = suits; born = (refl, named); followed = refl }, (record { one = tt; suits = tt; born = tt; followed = followed_any (Wrote (entries.New n place)) h known.ends }, known.each));
        ends = tt;
      }
        where
          old : (k : ℕ) (c : Component) (o : Owner) → n ≡ k → IsIn (Born k c o) h1 → ⊥
          old k c o e i = elim i [ inl z ↦ cc | inr z ↦ let l = known.below k c o z in omega (arith, e) ]

  born_with : (place : Place) (component : Component) (owner : Owner) (fields : Fields) (f : ℕ → Prog Given) (w : World) (h : List Item) (Q : Completion Given → World → List Item → Type 0)
      → KG w h → CanBegin (with_entry (entries.New w.next place) w) component owner → IsNamed tables component place → SuitsItsScope tables (Born w.next component owner) (Wrote (entries.New w.next place) ∷ h) → ((n : ℕ) → Barren (f n))
      → Does tables (Ok tables) (Both tables) (Pre tables) (BothPost tables) (handle (begin_creation place component owner fields) f throw) w h Q → Does tables (Ok tables) KG (Pre tables) (BothPost tables) (handle (begin_creation place component owner fields) f throw) w h Q
  born_with place component owner fields f w h Q g can named suits q d = by (nat_lt w.next (2 ^ 32)) d
    where
      by : (c : Bool) → Does tables (Ok tables) (Both tables) (Pre tables) (BothPost tables) (handle (handle (give_number c w.next) (λ m. handle (note (entries.New m place)) (λ _. handle (alter (Change.Make component owner fields)) (λ _. ret m) throw) throw) throw) f throw) w h Q
          → Does tables (Ok tables) KG (Pre tables) (BothPost tables) (handle (handle (give_number c w.next) (λ m. handle (note (entries.New m place)) (λ _. handle (alter (Change.Make component owner fields)) (λ _. ret m) throw) throw) throw) f throw) w h Q
      by false d = (d, g.1)
      by true d = (
        (d.0, g.1),
        with_births (f w.next) (after_change (Change.Make component owner fields) (with_entry (entries.New w.next place) w)) (Born w.next component owner ∷ Wrote (entries.New w.next place) ∷ h) Q (q w.next) d.1
            (born_known place component owner fields w h g.0.0 g.0.1 g.1 can named suits),
      )

  -- ---- all tasks

  can_begin : (w : World) (place : Place) (b : ℕ) (owner : Owner) → Inv w → CanOwn w b owner → CanBegin (with_entry (entries.New w.next place) w) (components.Bean b) owner
  can_begin w place b (owners.Context x) g can = (b, refl, can)
  can_begin w place b (owners.Instance m) g can = g.below m can.0 can.1
  can_begin w place b owners.Borrower g can = tt

  births_do : (t : Task) (w : World) (h : List Item) → Barren (machine t) → KG w h → Pre tables t w h → Does tables (Ok tables) KG (Pre tables) (BothPost tables) (machine t) w h (BothPost tables t w h)
  births_do t w h q g pre = with_births (machine t) w h (BothPost tables t w h) q (both_do tables t w h g.0 pre) g.1

  created : (b : ℕ) (owner : Owner) (w : World) (h : List Item) → KG w h → Pre tables (Task.Create b owner) w h → Does tables (Ok tables) KG (Pre tables) (BothPost tables) (create b owner) w h (BothPost tables (Task.Create b owner) w h)
  created b owner w h g pre = by (tables.bean b) refl (both_do tables (Task.Create b owner) w h g.0 pre)
    where
      by : (o : Option Bean) → tables.bean b ≡ o
          → Does tables (Ok tables) (Both tables) (Pre tables) (BothPost tables) (handle (require_present o) (λ x. handle (begin_creation x.place (components.Bean b) owner (first_fields x.kind)) (λ m. create_by m (make m x x.kind)) throw) throw) w h (BothPost tables (Task.Create b owner) w h)
          → Does tables (Ok tables) KG (Pre tables) (BothPost tables) (handle (require_present o) (λ x. handle (begin_creation x.place (components.Bean b) owner (first_fields x.kind)) (λ m. create_by m (make m x x.kind)) throw) throw) w h (BothPost tables (Task.Create b owner) w h)
      by None e d = ((d.0, g.1), d.1)
      by (Some x) e d = born_with x.place (components.Bean b) owner (first_fields x.kind) (λ m. create_by m (make m x x.kind)) w h _ g (can_begin w x.place b owner g.0.0 pre.0)
          (record { bean = λ a q. (x, (let y : b ≡ a = cc in subst (λ z. tables.bean z ≡ Some x) y e), refl); interceptor = λ i q. absurd (cc) })
          pre.1
          (λ n. barren_creating n (make n x x.kind) (barren_of (make n x x.kind) (plain_of bare bare (make n x x.kind) (Walk.l_made_by bare n x x.kind)))) d

  intercepted : (i m : ℕ) (w : World) (h : List Item) → KG w h → Pre tables (Task.Intercept i m) w h → Does tables (Ok tables) KG (Pre tables) (BothPost tables) (intercept i m) w h (BothPost tables (Task.Intercept i m) w h)
  intercepted i m w h g pre = by (tables.interceptor i) refl (both_do tables (Task.Intercept i m) w h g.0 pre)
    where
      by : (o : Option Interceptor) → tables.interceptor i ≡ o
          → Does tables (Ok tables) (Both tables) (Pre tables) (BothPost tables) (handle (require_present o) (λ x. handle (begin_creation (places.Class x.name) (components.Interceptor i) (owners.Instance m) x.fields) (λ n. create_by n (handle (each x.injected (λ p. inject n p.0 p.1)) (λ _. ret (Given.Number n)) throw)) throw) throw) w h (BothPost tables (Task.Intercept i m) w h)
          → Does tables (Ok tables) KG (Pre tables) (BothPost tables) (handle (require_present o) (λ x. handle (begin_creation (places.Class x.name) (components.Interceptor i) (owners.Instance m) x.fields) (λ n. create_by n (handle (each x.injected (λ p. inject n p.0 p.1)) (λ _. ret (Given.Number n)) throw)) throw) throw) w h (BothPost tables (Task.Intercept i m) w h)
      by None e d = ((d.0, g.1), d.1)
      by (Some x) e d = born_with (places.Class x.name) (components.Interceptor i) (owners.Instance m) x.fields (λ n. create_by n (handle (each x.injected (λ p. inject n p.0 p.1)) (λ _. ret (Given.Number n)) throw)) w h _ g (g.0.0.below m pre.0 pre.1)
          (record { bean = λ a q. absurd (cc); interceptor = λ j q. (x, (let y : i ≡ j = cc in subst (λ z. tables.interceptor z ≡ Some x) y e), refl) })
          (m, refl)
          (λ n. barren_creating n (handle (each x.injected (λ p. inject n p.0 p.1)) (λ _. ret (Given.Number n)) throw) (barren_handle (each x.injected (λ p. inject n p.0 p.1)) (λ _. ret (Given.Number n)) throw (barren_of (each x.injected (λ p. inject n p.0 p.1)) (plain_of bare bare (each x.injected (λ p. inject n p.0 p.1)) (Walk.l_each bare x.injected (λ p. inject n p.0 p.1) (λ p. Walk.l_inject bare n p.0 p.1)))) (λ _. tt) (λ x. tt))) d

  walked : (t : Task) → Walk.Walks bare bare (machine t) → Barren (machine t)
  walked t q = barren_of (machine t) (plain_of bare bare (machine t) q)

  pub all_born : (t : Task) (w : World) (h : List Item) → KG w h → Pre tables t w h → Does tables (Ok tables) KG (Pre tables) (BothPost tables) (machine t) w h (BothPost tables t w h)
  all_born (Task.Destroy n) w h g q = births_do (Task.Destroy n) w h (barren_destroy n) g q
  all_born (Task.Obtain b) w h g q = births_do (Task.Obtain b) w h (walked (Task.Obtain b) (Walk.l_obtain bare b)) g q
  all_born (Task.Create b owner) w h g q = created b owner w h g q
  all_born (Task.Intercept i m) w h g q = intercepted i m w h g q
  all_born (Task.Rest chain) w h g q = births_do (Task.Rest chain) w h (walked (Task.Rest chain) (Walk.l_rest bare chain)) g q
  all_born (Task.Body r) w h g q = births_do (Task.Body r) w h (barren_body r) g q
  all_born (Task.Acts r) w h g q = births_do (Task.Acts r) w h (walked (Task.Acts r) (Walk.l_acts bare r)) g q
  all_born (Task.Release n) w h g q = births_do (Task.Release n) w h (walked (Task.Release n) (Walk.l_releases bare n)) g q
  all_born (Task.Fire class qualifiers v) w h g q = births_do (Task.Fire class qualifiers v) w h (walked (Task.Fire class qualifiers v) (Walk.l_fire bare class qualifiers v)) g q
  all_born (Task.Notify os v) w h g q = births_do (Task.Notify os v) w h (walked (Task.Notify os v) (Walk.l_notify bare os v)) g q
  all_born Task.Dismiss w h g q = births_do Task.Dismiss w h (walked Task.Dismiss (Walk.l_dismiss bare)) g q
  all_born (Task.Clear c) w h g q = births_do (Task.Clear c) w h (walked (Task.Clear c) (Walk.l_clears bare c)) g q

  -- ---- commands

  pub born_command : (c : Command) (w : World) (h : List Item) → Tidy w → ((n : ℕ) → Sane n w h) → Known tables w h → Does tables (Ok tables) KG (Pre tables) (BothPost tables) (task c) w h (λ c v k. LeftTidy tables c v k × ((n : ℕ) → Kept (standing n w) (standing n v)))
  born_command c w h g s e = with_births (task c) w h _ (barren_of (task c) (plain_of bare bare (task c) (Walk.l_task bare c)))
      (pair tables (task c) w h (LeftTidy tables) (λ n c v k. Kept (standing n w) (standing n v)) (command_does tables c w h g) (λ n. ledgered.command_does tables n c w h (s n))) e

  pub known_begin : (w : World) (h : List Item) → Known tables w h → Known tables (at_begin w) h
  known_begin w h k = known_alike w (at_begin w) h (alike_same w (at_begin w) refl refl) k

  module _ (legal : Legal) where
    pub run_known : (c : Command) (w v : World) (o : Outcome) (h : List Item) (r : Runs tables legal ⊥ (task c) w o v) → Tidy w → ((n : ℕ) → Sane n w h) → Known tables w h → Known tables v (items_of h r)
    run_known c w v o h r g s e = (sound tables (Ok tables) KG (Pre tables) (BothPost tables) legal all_born h _ r (born_command c w h g s e)).0.1

    pub known_story : {s : State} {h : List Item} → Story tables legal s h → Known tables s.world h
    known_story (Story.begins ticks depth) = record { lives = λ k c e. absurd (cc); below = λ k c o i. absurd i; once = λ k c d o p i j. absurd i; each = tt; ends = tt }
    known_story (Story.refuses {s = s} {h = h} c r l q) = refused (λ t. Known tables t.world h) s (known_story l) (known_begin s.world h (known_story l))
    known_story (Story.goes {s = s} {h = h} {o = o} {v = v} c l q r) =
        run_known c (at_begin s.world) v o h r (begin_tidy s.world (tidy_story tables legal l (not_halted s.halted _ _ q))) (λ n. ledgered.at_rest n s.world h (sane_story tables legal n l)) (known_alike s.world (at_begin s.world) h (alike_same s.world (at_begin s.world) refl refl) (known_story l))

    pub one_in_a_context : OneInAContext tables legal
    one_in_a_context s h l =
        let k = known_story l in (
          each_map h (λ x j q. q.one) k.each,
          each_map h (λ x j q. q.suits) k.each,
          each_map h (λ x j q. q.born) k.each,
          each_map h (λ x j q. q.followed) k.each,
          k.ends,
        )

  -- ---- over entries alone

  over_new : (n m : ℕ) (place : Place) (k : List Item) → IsOver (fate m (Wrote (entries.New n place) ∷ k)) → IsOver (fate m k)
  over_new n m place k q = by (nat_eq n m) (fate m k) q
    where
      not : (f : Fate) → IsOver (by_new f) → ⊥
      not Unborn z = z
      not Made z = z
      not Readied z = z
      not Ended z = z
      not Left z = z
      not Lost z = z
      not Wrong z = z

      by : (b : Bool) (f : Fate) → IsOver (if_is b (by_new f) f) → IsOver f
      by true f z = absurd (not f z)
      by false f z = z

  no_new_behind : (x : Item) (k : List Item) → ((n : ℕ) → IsBirth x n → ⊥) → IsBirthBehindNew x k → IsNoNew k
  no_new_behind x (Wrote (entries.New n place) ∷ k) f q = f n q
  no_new_behind x _ f q = tt

  module _ (apart : PlacesAreApart tables) (b : ℕ) (bean : Bean) (known : tables.bean b ≡ Some bean) (scope : bean.scope ≡ scopes.ApplicationScoped) where
    -- what has the bean's place is the application's
    is_ours : (n : ℕ) (component : Component) (owner : Owner) (place : Place) (h : List Item) → bean.place ≡ place → IsNamed tables component place → SuitsItsScope tables (Born n component owner) h → (component ≡ components.Bean b) × (owner ≡ owners.Context Application)
    is_ours n (components.Bean a) owner place h e named suits =
        let x = named.bean a refl in
        let s : a ≡ b = apart.beans a b x.0 bean x.1 known (x.2 ∙ sym e) in
        (ap components.Bean s, subst (λ z. Suits z owner) scope (suits bean (subst (λ z. tables.bean z ≡ Some bean) (sym s) known)))
    is_ours n (components.Interceptor i) owner place h e named suits =
        let x = named.interceptor i refl in
        absurd (apart.interceptors b i bean x.0 known x.1 (e ∙ sym x.2))

    announced : (h : List Item) (m : ℕ) → Each (Kin tables) h → IsNoNew h → IsIn (Wrote (entries.New m bean.place)) h → IsIn (Born m (components.Bean b) (owners.Context Application)) h
    announced [] m e q i = absurd i
    announced (Born n component owner ∷ []) m e q i = absurd ((e.0).born)
    announced (Born n component owner ∷ Born j c o ∷ k) m e q i = absurd ((e.0).born)
    announced (Born n component owner ∷ Between j ∷ k) m e q i = absurd ((e.0).born)
    announced (Born n component owner ∷ Wrote (entries.New j place) ∷ k) m e q (inl i) = cc
    announced (Born n component owner ∷ Wrote (entries.New j place) ∷ k) m e q (inr (inl i)) =
        let x = (e.0).born in
        let p : place ≡ bean.place = cc in
        let y : j ≡ m = cc in
        let u = is_ours n component owner place (Wrote (entries.New j place) ∷ k) (sym p) x.1 (e.0).suits in
        inl (ap (λ z. Born z component owner) (sym x.0 ∙ y) ∙ (ap (λ z. Born m z owner) u.0 ∙ ap (λ z. Born m (components.Bean b) z) u.1))
    announced (Born n component owner ∷ Wrote (entries.New j place) ∷ k) m e q (inr (inr i)) = inr (inr (announced k m e.1.1 (no_new_behind (Wrote (entries.New j place)) k (λ n z. z) (e.1.0).followed) i))
    announced (Born n component owner ∷ Wrote x ∷ k) m e q i = absurd ((e.0).born)
    announced (Between n ∷ k) m e q i = elim i [ inl z ↦ cc | inr z ↦ inr (announced k m e.1 (no_new_behind (Between n) k (λ n z. z) (e.0).followed) z) ]
    announced (Wrote x ∷ k) m e q i = elim i [ inl z ↦ absurd (let y : x ≡ entries.New m bean.place = cc in subst (λ u. IsNoNew (Wrote u ∷ k)) y q) | inr z ↦ inr (announced k m e.1 (no_new_behind (Wrote x) k (λ n z. z) (e.0).followed) z) ]

  by_place : PlacesAreApart tables → (h : List Item) → Each (Kin tables) h → IsNoNew h → Each (OnceByPlace tables) h
  by_place apart [] e q = tt
  by_place apart (Born n component owner ∷ []) e q = absurd ((e.0).born)
  by_place apart (Born n component owner ∷ Born j c o ∷ k) e q = absurd ((e.0).born)
  by_place apart (Born n component owner ∷ Between j ∷ k) e q = absurd ((e.0).born)
  by_place apart (Born n component owner ∷ Wrote (entries.New j place) ∷ k) e q = (tt, (once, by_place apart k e.1.1 none))
    where
      none : IsNoNew k
      none = no_new_behind (Wrote (entries.New j place)) k (λ n z. z) (e.1.0).followed

      once : OnceByPlace tables (Wrote (entries.New j place)) k
      once b bean known at scope m i =
          let u = is_ours apart b bean known scope n component owner place (Wrote (entries.New j place) ∷ k) at (e.0).born.1 (e.0).suits in
          let o = subst (λ z. OneAtATime (Born n component z) (Wrote (entries.New j place) ∷ k)) u.1 (e.0).one in
          over_new j m place k (o m (inr (subst (λ z. IsIn (Born m z (owners.Context Application)) k) (sym u.0) (announced apart b bean known scope k m e.1.1 none (subst (λ z. IsIn (Wrote (entries.New m z)) k) (sym at) i)))))
  by_place apart (Born n component owner ∷ Wrote x ∷ k) e q = absurd ((e.0).born)
  by_place apart (Between n ∷ k) e q = (tt, by_place apart k e.1 (no_new_behind (Between n) k (λ n z. z) (e.0).followed))
  by_place apart (Wrote (entries.New j place) ∷ k) e q = absurd q
  by_place apart (Wrote x ∷ k) e q = (tt, by_place apart k e.1 (no_new_behind (Wrote x) k (λ n z. z) (e.0).followed))

  module _ (legal : Legal) where
    pub one_of_the_application : OneOfTheApplication tables legal
    one_of_the_application apart s h l = let k = known_story legal l in by_place apart h k.each k.ends

  module _ (legal : Legal) where
    pub one_if_short : OneInAContextIfShort tables legal
    one_if_short s h c o v l q r =
        let k = also_short tables (Each (Kin tables)) (λ x k e. e.1) legal (task c) (at_begin s.world) v o h all r in (
          each_map (items_of h r) (λ x j q. q.one) k,
          each_map (items_of h r) (λ x j q. q.suits) k,
          each_map (items_of h r) (λ x j q. q.born) k,
          each_map (items_of h r) (λ x j q. q.followed) k,
        )
      where
        all : (o' : Outcome) (v' : World) (z : Runs tables anything ⊥ (task c) (at_begin s.world) o' v') → Each (Kin tables) (items_of h z)
        all o' v' z = (run_known anything c (at_begin s.world) v' o' h z (begin_tidy s.world (tidy_story tables legal l (not_halted s.halted _ _ q))) (λ n. ledgered.at_rest n s.world h (sane_story tables legal n l))
            (known_begin s.world h (known_story legal l))).each
