-- Destructions are nested: the law over the items, from what each task leaves and from the fates.
use Rattle.std.proofs.Common.{ℕ, ◌≡◌, List, ◌∷◌, inl, inr, Option, Some, None, Bool, true, false, refl, sym, ap, ◌∙◌, subst, length}
use Rattle.std.specs.Prelude.{nat_eq, nat_lt, option_map, ◌^◌}
use Rattle.cdi_base.specs.declared.value.Value.TheVariants as values
use Rattle.cdi_base.specs.declared.act.Act.{Act}
use Rattle.cdi_base.specs.declared.entry.Entry.{Entry}
use Rattle.cdi_base.specs.declared.entry.Entry.TheVariants as entries
use Rattle.cdi_base.specs.declared.place.Place.{Place}
use Rattle.cdi_base.specs.declared.place.Place.TheVariants as places
use Rattle.cdi_base.specs.declared.built_in.BuiltIn.TheVariants as built_in
use Rattle.cdi_store.specs.declared.instance.Component.{Component}
use Rattle.cdi_store.specs.declared.instance.Component.TheVariants as components
use Rattle.cdi_store.specs.declared.instance.Owner.{Owner}
use Rattle.cdi_store.specs.declared.instance.Owner.TheVariants as owners
use Rattle.cdi_store.specs.declared.instance.Instance.{Instance}
use Rattle.cdi_store.specs.declared.instance.Phase.{Phase}
use Rattle.cdi_store.specs.declared.instance.Phase.TheVariants as phases
use Rattle.cdi_store.specs.Live.{Instances}
use Rattle.cdi_store.proofs.Numbers.{equal_or_not}
use Rattle.cdi_base.specs.Maps.{at}
use Rattle.cdi_machine.specs.Words.{Name, Fields}
use Rattle.cdi_machine.specs.Tables.{Tables, Bean, Interceptor}
use Rattle.cdi_machine.specs.World.{World, Change, after_change, with_entry, instance_at, at_begin}
use Rattle.cdi_machine.specs.Programs.{Task, Given, Completion, Gave, Threw, Running, Prog, ret, throw, cut, miss, see, change, tick, mark, act, choose, nested, candidates, handle, call, complete, quietly, note, alter, finish, finally, require_present, require_depth, give_number, each, instance, rethrow}
use Rattle.cdi_machine.specs.Bodies.{run_body}
use Rattle.cdi_machine.specs.Creation.{create, intercept, create_by, end_creation, discard, begin_creation, make, first_fields, inject}
use Rattle.cdi_machine.specs.Destruction.{destroy, destroy_ready, only_ready, clean_up}
use Rattle.cdi_machine.specs.Commands.{Command, task}
use Rattle.cdi_machine.specs.Machine.{machine}
use Rattle.cdi_machine.specs.Runs.{Legal, Outcome, Runs}
use Rattle.cdi_machine.specs.Container.{State}
use Rattle.cdi_machine.proofs.Walk
use Rattle.cdi_machine.proofs.Walk.{Plain, PlainChange, PlainEntry, plain_of}
use Rattle.cdi_machine.proofs.Levels.{Height}
use Rattle.cdi_ledger.specs.Ledger.{Item, Wrote, Between, Born, with_birth, Wrong, fate, step_of, if_is, by_end, items_of}
use Rattle.cdi_ledger.specs.Stories.{Story}
use Rattle.cdi_ledger.specs.Ends.{Each, IsNestedEnd, IsEnding, before_end, if_ended, EndsNested, EndsNestedIfShort}
use Rattle.cdi_ledger.proofs.Judge.{Free, Does, sound, guard_map, guard_both, note_map, note_both}
use Rattle.cdi_ledger.proofs.Fronts.{anything, also_short}
use Rattle.cdi_ledger.proofs.Phases.{phase_at, phase_of}
use Rattle.cdi_ledger.proofs.Past.{Past, past_step, past_end, past_begun}
use Rattle.cdi_ledger.proofs.Plain as plain
use Rattle.cdi_ledger.proofs.Plain.{Sane, Kept, standing, stands, plain_change}
use Rattle.cdi_ledger.proofs.Ledgered as ledgered
use Rattle.cdi_ledger.proofs.Cores.{Core, core_of, core_at}
use Rattle.cdi_ledger.proofs.Homes.{Inv, Rel, lt_or}
use Rattle.cdi_ledger.proofs.Owed.{Ok, Pre, Post, post_rel, IsIdle}
use Rattle.cdi_ledger.proofs.Fine as fine
use Rattle.cdi_ledger.proofs.Creations
use Rattle.cdi_ledger.proofs.Tops.{Tidy, LeftTidy, command_does}
use Rattle.cdi_ledger.proofs.Settled.{tidy_story, sane_story, begin_tidy, not_halted}

-- ---- a list behind another

data Tail (h0 : List Item) : List Item → Type 0 where
  here : Tail h0 h0
  more : (x : Item) (h : List Item) → Tail h0 h → Tail h0 (x ∷ h)

tail_then : {a b c : List Item} → Tail a b → Tail b c → Tail a c
tail_then s Tail.here = s
tail_then s (Tail.more x h t) = Tail.more x h (tail_then s t)

tail_birth : {h0 : List Item} (g : Change) (w : World) (h : List Item) → Tail h0 h → Tail h0 (with_birth g w h)
tail_birth (Change.Make component owner fields) w h t = Tail.more (Born w.next component owner) h t
tail_birth _ w h t = t

each_birth : (g : Change) (w : World) (h : List Item) → Each IsNestedEnd h → Each IsNestedEnd (with_birth g w h)
each_birth (Change.Make component owner fields) w h e = (tt, e)
each_birth _ w h e = e

-- ---- the fate of one whose destruction has begun

for_one : (b : Bool) → if_is b Wrong Wrong ≡ Wrong
for_one true = refl
for_one false = refl

wrong_stays : (n : ℕ) (x : Item) → step_of n x Wrong ≡ Wrong
wrong_stays n (Wrote (entries.New m place)) = for_one (nat_eq m n)
wrong_stays n (Wrote (entries.Ready m)) = for_one (nat_eq m n)
wrong_stays n (Wrote (entries.Drop m)) = for_one (nat_eq m n)
wrong_stays n (Wrote (entries.Run m place)) = for_one (nat_eq m n)
wrong_stays n (Wrote (entries.Did a)) = refl
wrong_stays n (Wrote (entries.Pick c i)) = refl
wrong_stays n (Wrote (entries.Event class qualifiers)) = refl
wrong_stays n (Wrote (entries.End m)) = for_one (nat_eq m n)
wrong_stays n (Wrote (entries.Gone m)) = for_one (nat_eq m n)
wrong_stays n (Between m) = for_one (nat_eq m n)
wrong_stays n (Born m component owner) = refl

module _ (n : ℕ) (h0 : List Item) where
  abbrev base : List Item
  base = Between n ∷ Wrote (entries.End n) ∷ h0

  past_base : Past (fate n base)
  past_base = past_begun n h0

  past_tail : (h : List Item) → Tail base h → Past (fate n h)
  past_tail h Tail.here = past_base
  past_tail h (Tail.more x k t) = past_step n x (fate n k) (past_tail k t)

  -- the end of n isn't written again
  before_is : (h : List Item) → Tail base h → (fate n h ≡ Wrong → ⊥) → before_end n h ≡ h0
  before_is h Tail.here f = elim (equal_or_not n n) [ inl s ↦ ap (λ b. if_ended b h0 (before_end n h0)) s.0 | inr s ↦ absurd (s.1 refl) ]
  before_is h (Tail.more x k t) f = by x (λ e. f (ap (step_of n x) e ∙ wrong_stays n x)) f (before_is k t)
    where
      ended : (m : ℕ) (b : Bool) → nat_eq m n ≡ b → (fate n (Wrote (entries.End m) ∷ k) ≡ Wrong → ⊥) → before_end n k ≡ h0 → if_ended b k (before_end n k) ≡ h0
      ended m true e f q = absurd (f (ap (λ b. if_is b (by_end (fate n k)) (fate n k)) e ∙ past_end (fate n k) (past_tail k t)))
      ended m false e f q = q

      by : (x : Item) → (fate n k ≡ Wrong → ⊥) → (fate n (x ∷ k) ≡ Wrong → ⊥) → ((fate n k ≡ Wrong → ⊥) → before_end n k ≡ h0) → before_end n (x ∷ k) ≡ h0
      by (Wrote (entries.End m)) u f q = ended m (nat_eq m n) refl f (q u)
      by (Wrote (entries.New m place)) u f q = q u
      by (Wrote (entries.Ready m)) u f q = q u
      by (Wrote (entries.Drop m)) u f q = q u
      by (Wrote (entries.Run m place)) u f q = q u
      by (Wrote (entries.Did a)) u f q = q u
      by (Wrote (entries.Pick c i)) u f q = q u
      by (Wrote (entries.Event class qualifiers)) u f q = q u
      by (Wrote (entries.Gone m)) u f q = q u
      by (Between m) u f q = q u
      by (Born m component owner) u f q = q u

-- ---- what is leaving in a world

abbrev pub IsLeaving : ℕ → World → Type 0
IsLeaving m w = phase_at m w.instances ≡ Some phases.Leaving

pub ending_leaving : (l : Bool) (p : Option Phase) → IsEnding (stands l p) → p ≡ Some phases.Leaving
ending_leaving true None e = absurd e
ending_leaving false None e = absurd e
ending_leaving l (Some phases.New) e = absurd e
ending_leaving l (Some phases.Ready) e = absurd e
ending_leaving l (Some phases.Leaving) e = refl

leaving_ending : (l : Bool) (p : Option Phase) → p ≡ Some phases.Leaving → IsEnding (stands l p)
leaving_ending l p e = subst (λ z. IsEnding (stands l z)) (sym e) tt

phase_core : (m : ℕ) (live : Instances) → phase_at m live ≡ option_map (λ c. c.phase) (core_at m live)
phase_core m live = by (at live m)
  where
    by : (o : Option Instance) → phase_of o ≡ option_map (λ (c : Core). c.phase) (option_map core_of o)
    by None = refl
    by (Some o) = refl

pub leaving_core : (m : ℕ) (w : World) → IsLeaving m w → (c : Core) × (core_at m w.instances ≡ Some c) × (c.phase ≡ phases.Leaving)
leaving_core m w e = by (core_at m w.instances) refl (sym (phase_core m w.instances) ∙ e)
  where
    by : (o : Option Core) → core_at m w.instances ≡ o → option_map (λ (c : Core). c.phase) o ≡ Some phases.Leaving → (c : Core) × (core_at m w.instances ≡ Some c) × (c.phase ≡ phases.Leaving)
    by None q f = absurd (cc)
    by (Some c) q f = (c, q, let z : c.phase ≡ phases.Leaving = cc in z)

core_leaving : (m : ℕ) (w : World) (c : Core) → core_at m w.instances ≡ Some c → c.phase ≡ phases.Leaving → IsLeaving m w
core_leaving m w c e f = phase_core m w.instances ∙ (ap (option_map (λ c. c.phase)) e ∙ ap (λ z. Some z) f)

record SameLeaving (w v : World) : Type 0 where
  was : (m : ℕ) → IsLeaving m v → IsLeaving m w
  stays : (m : ℕ) → IsLeaving m w → IsLeaving m v

same_then : (w v u : World) → SameLeaving w v → SameLeaving v u → SameLeaving w u
same_then w v u a b = record { was = λ m e. a.was m (b.was m e); stays = λ m e. b.stays m (a.stays m e) }

rel_same : (w v : World) → Rel w v → SameLeaving w v
rel_same w v r = record {
  was = λ m e. (let c = leaving_core m v e in elim (lt_or m w.next) [
    | inl l ↦ core_leaving m w c.0 (r.old m c.0 l c.1) c.2
    | inr l ↦ let q = r.new m c.0 l c.1 in let z : phases.Leaving ≡ phases.Ready = sym c.2 ∙ q in absurd (cc)
  ]);
  stays = λ m e. (let c = leaving_core m w e in core_leaving m v c.0 (r.stay m c.0 c.1 (inr (inl c.2))) c.2);
}

phase_same : (w v : World) → ((m : ℕ) → phase_at m v.instances ≡ phase_at m w.instances) → SameLeaving w v
phase_same w v f = record { was = λ m e. sym (f m) ∙ e; stays = λ m e. f m ∙ e }

same_entry : (e : Entry) (w v : World) → SameLeaving w v → SameLeaving w (with_entry e v)
same_entry e w v b = record { was = b.was; stays = b.stays }

-- ---- programs that write no `gone`, and those that write one at their end

abbrev NotGone : Entry → Type 0 → Type 0
NotGone (entries.Gone m) X = ⊥
NotGone _ X = X

abbrev Quiet : {A : Type 0} → Prog A → Type 0
Quiet (ret a) = Unit {0}
Quiet (throw x) = Unit {0}
Quiet (cut cause) = Unit {0}
Quiet (miss p) = Quiet p
Quiet (see k) = (t : Tables) (w : World) → Quiet (k t w)
Quiet (change g p) = Quiet p
Quiet (tick e p) = NotGone e (Quiet p)
Quiet (mark n p) = Quiet p
Quiet (act b fields view k) = (a : Act) → Quiet (k a)
Quiet (choose n k) = (i : ℕ) → Quiet (k i)
Quiet (nested t k) = (c : Completion Given) → Quiet (k c)

not_gone_map : {X Y : Type 0} (e : Entry) → (X → Y) → NotGone e X → NotGone e Y
not_gone_map (entries.Gone m) f x = x
not_gone_map (entries.New m place) f x = f x
not_gone_map (entries.Ready m) f x = f x
not_gone_map (entries.Drop m) f x = f x
not_gone_map (entries.Run m place) f x = f x
not_gone_map (entries.Did a) f x = f x
not_gone_map (entries.Pick c i) f x = f x
not_gone_map (entries.Event class qualifiers) f x = f x
not_gone_map (entries.End m) f x = f x

quiet_handle : {A B : Type 0} (p : Prog A) (f : A → Prog B) (g : Name → Prog B) → Quiet p → ((a : A) → Quiet (f a)) → ((x : Name) → Quiet (g x)) → Quiet (handle p f g)
quiet_handle (ret a) f g q qf qg = qf a
quiet_handle (throw x) f g q qf qg = qg x
quiet_handle (cut cause) f g q qf qg = tt
quiet_handle (miss p) f g q qf qg = quiet_handle p f g q qf qg
quiet_handle (see k) f g q qf qg = λ t w. quiet_handle (k t w) f g (q t w) qf qg
quiet_handle (change x p) f g q qf qg = quiet_handle p f g q qf qg
quiet_handle (tick e p) f g q qf qg = not_gone_map e (λ y. quiet_handle p f g y qf qg) q
quiet_handle (mark n p) f g q qf qg = quiet_handle p f g q qf qg
quiet_handle (act b fields view k) f g q qf qg = λ a. quiet_handle (k a) f g (q a) qf qg
quiet_handle (choose n k) f g q qf qg = λ i. quiet_handle (k i) f g (q i) qf qg
quiet_handle (nested t k) f g q qf qg = λ c. quiet_handle (k c) f g (q c) qf qg

plain_entry : {X Y : Type 0} (e : Entry) → (X → Y) → PlainEntry e X → NotGone e Y
plain_entry (entries.Event class qualifiers) f x = f x
plain_entry (entries.Did a) f x = f x
plain_entry (entries.Pick c i) f x = f x
plain_entry (entries.Gone m) f x = absurd x
plain_entry (entries.New m place) f x = absurd x
plain_entry (entries.Ready m) f x = absurd x
plain_entry (entries.Drop m) f x = absurd x
plain_entry (entries.Run m place) f x = absurd x
plain_entry (entries.End m) f x = absurd x

of_change : {X : Type 0} (g : Change) → PlainChange g X → X
of_change g x = (plain_change 0 g (Rattle.cdi_machine.specs.World.before_boot 0 0) _ x).1

quiet_of : {A : Type 0} (p : Prog A) → Plain p → Quiet p
quiet_of (ret a) q = tt
quiet_of (throw x) q = tt
quiet_of (cut cause) q = tt
quiet_of (miss p) q = quiet_of p q
quiet_of (see k) q = λ t w. quiet_of (k t w) (q t w)
quiet_of (change g p) q = quiet_of p (of_change g q)
quiet_of (tick e p) q = plain_entry e (λ y. quiet_of p y) q
quiet_of (mark n p) q = absurd q
quiet_of (act b fields view k) q = λ a. quiet_of (k a) (q a)
quiet_of (choose n k) q = λ i. quiet_of (k i) (q i)
quiet_of (nested t k) q = λ c. quiet_of (k c) (q c)

abbrev AtGone : ℕ → Entry → Type 0 → Type 0 → Type 0
AtGone n (entries.Gone m) X Y = (m ≡ n) × Y
AtGone n (entries.Event class qualifiers) X Y = X
AtGone n (entries.Did a) X Y = X
AtGone n (entries.Pick c i) X Y = X
AtGone n _ X Y = ⊥

abbrev Closing : {A : Type 0} → ℕ → Prog A → Type 0
Closing n (ret a) = Unit {0}
Closing n (throw x) = Unit {0}
Closing n (cut cause) = Unit {0}
Closing n (miss p) = Closing n p
Closing n (see k) = (t : Tables) (w : World) → Closing n (k t w)
Closing n (change g p) = PlainChange g (Closing n p)
Closing n (tick e p) = AtGone n e (Closing n p) (Quiet p)
Closing n (mark m p) = ⊥
Closing n (act b fields view k) = (a : Act) → Closing n (k a)
Closing n (choose m k) = (i : ℕ) → Closing n (k i)
Closing n (nested t k) = (c : Completion Given) → Closing n (k c)

at_gone : {X Z : Type 0} (n : ℕ) (e : Entry) (Y : Type 0) → (X → Z) → PlainEntry e X → AtGone n e Z Y
at_gone n (entries.Event class qualifiers) Y f x = f x
at_gone n (entries.Did a) Y f x = f x
at_gone n (entries.Pick c i) Y f x = f x
at_gone n (entries.Gone m) Y f x = absurd x
at_gone n (entries.New m place) Y f x = absurd x
at_gone n (entries.Ready m) Y f x = absurd x
at_gone n (entries.Drop m) Y f x = absurd x
at_gone n (entries.Run m place) Y f x = absurd x
at_gone n (entries.End m) Y f x = absurd x

closing_handle : {A B : Type 0} (n : ℕ) (p : Prog A) (f : A → Prog B) (g : Name → Prog B) → Plain p → ((a : A) → Closing n (f a)) → ((x : Name) → Closing n (g x)) → Closing n (handle p f g)
closing_handle n (ret a) f g q qf qg = qf a
closing_handle n (throw x) f g q qf qg = qg x
closing_handle n (cut cause) f g q qf qg = tt
closing_handle n (miss p) f g q qf qg = closing_handle n p f g q qf qg
closing_handle n (see k) f g q qf qg = λ t w. closing_handle n (k t w) f g (q t w) qf qg
closing_handle n (change x p) f g q qf qg = Rattle.cdi_machine.proofs.Walk.map_change x (λ y. closing_handle n p f g y qf qg) q
closing_handle n (tick e p) f g q qf qg = at_gone n e _ (λ y. closing_handle n p f g y qf qg) q
closing_handle n (mark m p) f g q qf qg = absurd q
closing_handle n (act b fields view k) f g q qf qg = λ a. closing_handle n (k a) f g (q a) qf qg
closing_handle n (choose m k) f g q qf qg = λ i. closing_handle n (k i) f g (q i) qf qg
closing_handle n (nested t k) f g q qf qg = λ c. closing_handle n (k c) f g (q c) qf qg

-- the next item of those that are no `gone`
next_entry : (e : Entry) (X : Type 0) (h : List Item) → NotGone e X → IsNestedEnd (Wrote e) h × X
next_entry (entries.Gone m) X h x = absurd x
next_entry (entries.New m place) X h x = (tt, x)
next_entry (entries.Ready m) X h x = (tt, x)
next_entry (entries.Drop m) X h x = (tt, x)
next_entry (entries.Run m place) X h x = (tt, x)
next_entry (entries.Did a) X h x = (tt, x)
next_entry (entries.Pick c i) X h x = (tt, x)
next_entry (entries.Event class qualifiers) X h x = (tt, x)
next_entry (entries.End m) X h x = (tt, x)

-- ---- both judgements at once

module _ (tables : Tables) where
  abbrev pub Both : World → List Item → Type 0
  Both w h = Inv w × ((n : ℕ) → Sane n w h)

  abbrev pub BothPost : Task → World → List Item → Completion Given → World → List Item → Type 0
  BothPost t w h c v k = Post t w h c v k × ((n : ℕ) → Kept (standing n w) (standing n v))

  pub pair : {A : Type 0} (p : Prog A) (w : World) (h : List Item) (Q : Completion A → World → List Item → Type 0) (R : ℕ → Completion A → World → List Item → Type 0)
      → Does tables (Ok tables) fine.G (Pre tables) Post p w h Q → ((n : ℕ) → Does tables Free (Sane n) plain.Pre (plain.Post n) p w h (R n)) → Does tables (Ok tables) Both (Pre tables) BothPost p w h (λ c v k. Q c v k × ((n : ℕ) → R n c v k))
  pair (ret a) w h Q R d e = ((d.0, λ n. (e n).0), (d.1, λ n. (e n).1))
  pair (throw x) w h Q R d e = ((d.0, λ n. (e n).0), (d.1, λ n. (e n).1))
  pair (cut cause) w h Q R d e = (d, λ n. e n)
  pair (miss p) w h Q R d e = pair p w h Q R d e
  pair (see k) w h Q R d e = pair (k tables w) w h Q R d e
  pair (change x p) w h Q R d e = guard_both (Ok tables) x w h (λ y z. pair p (after_change x w) (with_birth x w h) Q R y z) d e
  pair (tick x p) w h Q R d e = ((d.0, λ n. (e n).0), note_both (Ok tables) x w h (λ y z. pair p (with_entry x w) (Wrote x ∷ h) Q R y z) d.1 (λ n. (e n).1))
  pair (mark m p) w h Q R d e = pair p w (Between m ∷ h) Q R d e
  pair (act b fields view k) w h Q R d e = ((d.0, λ n. (e n).0), λ a. pair (k a) _ _ Q R (d.1 a) (λ n. (e n).1 a))
  pair (choose m k) w h Q R d e = ((d.0, λ n. (e n).0), λ i l. pair (k i) _ _ Q R (d.1 i l) (λ n. (e n).1 i l))
  pair (nested t k) w h Q R d e = ((d.0, λ n. (e n).0), d.1, λ c v j g q. pair (k c) v j Q R (d.2 c v j g.0 q.0) (λ n. (e n).2 c v j (g.1 n) (q.1 n)))

  -- ---- and the history

  abbrev HG : World → List Item → Type 0
  HG w h = Both w h × Each IsNestedEnd h

  abbrev HPost : Task → World → List Item → Completion Given → World → List Item → Type 0
  HPost t w h c v k = BothPost t w h c v k × Tail h k

  lift : {A : Type 0} (h0 : List Item) (p : Prog A) (w : World) (h : List Item) (Q : Completion A → World → List Item → Type 0) → Quiet p → Does tables (Ok tables) Both (Pre tables) BothPost p w h Q → Each IsNestedEnd h → Tail h0 h → Does tables (Ok tables) HG (Pre tables) HPost p w h (λ c v k. Q c v k × Tail h0 k)
  lift h0 (ret a) w h Q q d e s = ((d.0, e), (d.1, s))
  lift h0 (throw x) w h Q q d e s = ((d.0, e), (d.1, s))
  lift h0 (cut cause) w h Q q d e s = (d, e)
  lift h0 (miss p) w h Q q d e s = lift h0 p w h Q q d e s
  lift h0 (see k) w h Q q d e s = lift h0 (k tables w) w h Q (q tables w) d e s
  lift h0 (change x p) w h Q q d e s = guard_map (Ok tables) x w h (λ y. lift h0 p (after_change x w) (with_birth x w h) Q q y (each_birth x w h e) (tail_birth x w h s)) d
  lift h0 (tick x p) w h Q q d e s = let z = next_entry x (Quiet p) h q in ((d.0, e), note_map (Ok tables) x w h (λ y. lift h0 p (with_entry x w) (Wrote x ∷ h) Q z.1 y (z.0, e) (Tail.more (Wrote x) h s)) d.1)
  lift h0 (mark m p) w h Q q d e s = lift h0 p w (Between m ∷ h) Q q d (tt, e) (Tail.more (Between m) h s)
  lift h0 (act b fields view k) w h Q q d e s = ((d.0, e), λ a. lift h0 (k a) (with_entry (entries.Did a) w) (Wrote (entries.Did a) ∷ h) Q (q a) (d.1 a) (tt, e) (Tail.more (Wrote (entries.Did a)) h s))
  lift h0 (choose m k) w h Q q d e s = ((d.0, e), λ i l. lift h0 (k i) (with_entry (entries.Pick (candidates m) i) w) (Wrote (entries.Pick (candidates m) i) ∷ h) Q (q i) (d.1 i l) (tt, e) (Tail.more (Wrote (entries.Pick (candidates m) i)) h s))
  lift h0 (nested t k) w h Q q d e s = ((d.0, e), d.1, λ c v j g z. lift h0 (k c) v j Q (q c) (d.2 c v j g.0 z.0) g.1 (tail_then s z.1))

  -- ---- a destruction

  module _ (n : ℕ) (w0 w1 : World) (h0 : List Item) (sane0 : (m : ℕ) → Sane m w0 h0) (other : (m : ℕ) → (m ≡ n → ⊥) → phase_at m w1.instances ≡ phase_at m w0.instances) (own : IsLeaving n w1) where
    back : List Item
    back = h0

    from_base : {h : List Item} → Tail (Between n ∷ Wrote (entries.End n) ∷ h0) h → Tail h0 h
    from_base t = tail_then (Tail.more (Between n) (Wrote (entries.End n) ∷ h0) (Tail.more (Wrote (entries.End n)) h0 Tail.here)) t

    gone_nested : (w : World) (h : List Item) → ((m : ℕ) → Sane m w h) → Tail (Between n ∷ Wrote (entries.End n) ∷ h0) h → SameLeaving w1 w → IsNestedEnd (Wrote (entries.Gone n)) h
    gone_nested w h sane t s m d =
        let e : before_end n h ≡ h0 = before_is n h0 h t not_wrong in (
          λ x. subst (λ z. IsEnding (fate m z)) (sym e) (subst IsEnding (sym (sane0 m).fate) (leaving_ending _ _ (sym (other m d) ∙ s.was m (ending_leaving _ _ (subst IsEnding (sane m).fate x))))),
          λ x. subst IsEnding (sym (sane m).fate) (leaving_ending _ _ (s.stays m (other m d ∙ ending_leaving _ _ (subst IsEnding (sane0 m).fate (subst (λ z. IsEnding (fate m z)) e x))))),
        )
      where
        not_wrong : fate n h ≡ Wrong → ⊥
        not_wrong e = let f : IsEnding (fate n h) = subst IsEnding (sym (sane n).fate) (leaving_ending _ _ (s.stays n own)) in subst IsEnding e f

    close_lift : {A : Type 0} (p : Prog A) (w : World) (h : List Item) (Q : Completion A → World → List Item → Type 0) → Closing n p → Does tables (Ok tables) Both (Pre tables) BothPost p w h Q → Each IsNestedEnd h → Tail (Between n ∷ Wrote (entries.End n) ∷ h0) h → SameLeaving w1 w → Does tables (Ok tables) HG (Pre tables) HPost p w h (λ c v k. Q c v k × Tail h0 k)
    close_lift (ret a) w h Q q d e s b = ((d.0, e), (d.1, from_base s))
    close_lift (throw x) w h Q q d e s b = ((d.0, e), (d.1, from_base s))
    close_lift (cut cause) w h Q q d e s b = (d, e)
    close_lift (miss p) w h Q q d e s b = close_lift p w h Q q d e s b
    close_lift (see k) w h Q q d e s b = close_lift (k tables w) w h Q (q tables w) d e s b
    close_lift (change x p) w h Q q d e s b = guard_map (Ok tables) x w h (λ y. close_lift p (after_change x w) (with_birth x w h) Q (plain_change 0 x w (Closing n p) q).1 y (each_birth x w h e) (tail_birth x w h s) (same_then w1 w (after_change x w) b (phase_same w (after_change x w) (λ m. (plain_change m x w (Closing n p) q).0.phase)))) d
    close_lift (tick (entries.Gone m) p) w h Q q d e s b = ((d.0, e), lift h0 p (with_entry (entries.Gone m) w) (Wrote (entries.Gone m) ∷ h) Q q.1 d.1 (subst (λ z. IsNestedEnd (Wrote (entries.Gone z)) h) (sym q.0) (gone_nested w h d.0.1 s b), e) (Tail.more (Wrote (entries.Gone m)) h (from_base s)))
    close_lift (tick (entries.Event class qualifiers) p) w h Q q d e s b = ((d.0, e), close_lift p (with_entry (entries.Event class qualifiers) w) (Wrote (entries.Event class qualifiers) ∷ h) Q q d.1 (tt, e) (Tail.more (Wrote (entries.Event class qualifiers)) h s) (same_entry (entries.Event class qualifiers) w1 w b))
    close_lift (tick (entries.Did a) p) w h Q q d e s b = ((d.0, e), close_lift p (with_entry (entries.Did a) w) (Wrote (entries.Did a) ∷ h) Q q d.1 (tt, e) (Tail.more (Wrote (entries.Did a)) h s) (same_entry (entries.Did a) w1 w b))
    close_lift (tick (entries.Pick c i) p) w h Q q d e s b = ((d.0, e), close_lift p (with_entry (entries.Pick c i) w) (Wrote (entries.Pick c i) ∷ h) Q q d.1 (tt, e) (Tail.more (Wrote (entries.Pick c i)) h s) (same_entry (entries.Pick c i) w1 w b))
    close_lift (tick (entries.New m place) p) w h Q q d e s b = absurd q
    close_lift (tick (entries.Ready m) p) w h Q q d e s b = absurd q
    close_lift (tick (entries.Drop m) p) w h Q q d e s b = absurd q
    close_lift (tick (entries.Run m place) p) w h Q q d e s b = absurd q
    close_lift (tick (entries.End m) p) w h Q q d e s b = absurd q
    close_lift (mark m p) w h Q q d e s b = absurd q
    close_lift (act c fields view k) w h Q q d e s b = ((d.0, e), λ a. close_lift (k a) (with_entry (entries.Did a) w) (Wrote (entries.Did a) ∷ h) Q (q a) (d.1 a) (tt, e) (Tail.more (Wrote (entries.Did a)) h s) (same_entry (entries.Did a) w1 w b))
    close_lift (choose m k) w h Q q d e s b = ((d.0, e), λ i l. close_lift (k i) (with_entry (entries.Pick (candidates m) i) w) (Wrote (entries.Pick (candidates m) i) ∷ h) Q (q i) (d.1 i l) (tt, e) (Tail.more (Wrote (entries.Pick (candidates m) i)) h s) (same_entry (entries.Pick (candidates m) i) w1 w b))
    close_lift (nested t k) w h Q q d e s b = ((d.0, e), d.1, λ c v j g z. close_lift (k c) v j Q (q c) (d.2 c v j g.0 z.0) g.1 (tail_then s z.1) (same_then w1 w v b (rel_same w v (post_rel t w v h j c z.0.0))))

  pub bare : Height
  bare = record { invocations = 0; bodies = 0; temporaries = 0 }

  pub plainly : {A : Type 0} (p : Prog A) → Walk.Walks bare bare p → Plain p
  plainly p q = plain_of bare bare p q

  -- both judgements of a task
  pub both_do : (t : Task) (w : World) (h : List Item) → Both w h → Pre tables t w h → Does tables (Ok tables) Both (Pre tables) BothPost (machine t) w h (BothPost t w h)
  both_do t w h g q = pair (machine t) w h (Post t w h) (λ n c v k. Kept (standing n w) (standing n v)) (Creations.task_does tables t w h g.0 q) (λ n. ledgered.task_does tables n t w h (g.1 n))

  -- a destruction of one that is ready
  destroying : (n : ℕ) (w : World) (h : List Item) → HG w h → IsIdle w n → Does tables (Ok tables) HG (Pre tables) HPost (destroy n) w h (HPost (Task.Destroy n) w h)
  destroying n w h g idle = by (only_ready (instance_at w n)) refl (both_do (Task.Destroy n) w h g.0 idle)
    where
      w0 : World
      w0 = with_entry (entries.End n) w

      same : (c : Core) → core_at n w.instances ≡ Some c → c.phase ≡ phases.Ready → (m : ℕ) → (m ≡ n → ⊥) → phase_at m (after_change (Change.Leave n) (with_entry (entries.End n) w)).instances ≡ phase_at m w.instances
      same c e r m d =
          let lv = Rattle.cdi_ledger.proofs.Changes.leaves (with_entry (entries.End n) w) n (fine.inv_entry (entries.End n) w g.0.0) c e r in
          phase_core m (after_change (Change.Leave n) (with_entry (entries.End n) w)).instances ∙ (ap (option_map (λ c. c.phase)) (lv.1.other m d) ∙ sym (phase_core m w.instances))

      own : (c : Core) → core_at n w.instances ≡ Some c → c.phase ≡ phases.Ready → IsLeaving n (after_change (Change.Leave n) (with_entry (entries.End n) w))
      own c e r =
          let lv = Rattle.cdi_ledger.proofs.Changes.leaves (with_entry (entries.End n) w) n (fine.inv_entry (entries.End n) w g.0.0) c e r in
          core_leaving n (after_change (Change.Leave n) (with_entry (entries.End n) w)) _ lv.1.own refl

      rest : Instance → Prog Given
      rest o = handle (quietly (clean_up n o.value o.component)) (λ _. handle (call (Task.Release n)) (λ _. handle (note (entries.Gone n)) (λ _. handle (alter (Change.Remove n)) (λ _. finish) throw) throw) throw) throw

      released : (c : Completion Given) → Closing n (handle (complete c) (λ _. handle (note (entries.Gone n)) (λ _. handle (alter (Change.Remove n)) (λ _. finish) throw) throw) throw)
      released (Gave g) = (refl, tt)
      released (Threw x) = tt

      closing : (o : Instance) → Closing n (handle (quietly (clean_up n o.value o.component)) (λ _. handle (call (Task.Release n)) (λ _. handle (note (entries.Gone n)) (λ _. handle (alter (Change.Remove n)) (λ _. finish) throw) throw) throw) throw)
      closing o = closing_handle n (quietly (clean_up n o.value o.component)) _ throw (plainly (quietly (clean_up n o.value o.component)) (Walk.l_quietly bare (clean_up n o.value o.component) (Walk.l_farewell bare n o.value o.component))) (λ _ c. released c) (λ x. tt)

      by : (x : Option Instance) → only_ready (instance_at w n) ≡ x → Does tables (Ok tables) Both (Pre tables) BothPost (handle (require_present x) (λ o. destroy_ready n o) throw) w h (BothPost (Task.Destroy n) w h)
          → Does tables (Ok tables) HG (Pre tables) HPost (handle (require_present x) (λ o. destroy_ready n o) throw) w h (HPost (Task.Destroy n) w h)
      by None e d = ((d.0, g.1), (d.1, Tail.here))
      by (Some o) e d = (
        (d.0, g.1),
        (
          d.1.0,
          close_lift n w (after_change (Change.Leave n) (with_entry (entries.End n) w)) h g.0.1 (same idle.0 idle.1 idle.2) (own idle.0 idle.1 idle.2)
              (handle (quietly (clean_up n o.value o.component)) (λ _. handle (call (Task.Release n)) (λ _. handle (note (entries.Gone n)) (λ _. handle (alter (Change.Remove n)) (λ _. finish) throw) throw) throw) throw)
              (after_change (Change.Leave n) (with_entry (entries.End n) w)) (Between n ∷ Wrote (entries.End n) ∷ h) (BothPost (Task.Destroy n) w h) (closing o) d.1.1 (tt, (tt, g.1)) Tail.here (record { was = λ m z. z; stays = λ m z. z }),
        ),
      )

  -- ---- the other tasks that aren't plain

  quiet_call : (t : Task) → Quiet (call t)
  quiet_call t (Gave g) = tt
  quiet_call t (Threw x) = tt

  quiet_present : {A : Type 0} (o : Option A) → Quiet (require_present o)
  quiet_present None = tt
  quiet_present (Some a) = tt

  quiet_body : (r : Running) → Quiet (run_body r)
  quiet_body r t w = by (nat_lt (length w.bodies) w.depth)
    where
      by : (c : Bool) → Quiet (handle (require_depth c) (λ _. handle (instance r.instance) (λ _. handle (note (entries.Run r.instance r.place)) (λ _. handle (alter (Change.Start r.instance)) (λ _. finally (call (Task.Acts r)) (alter Change.Stop)) throw) throw) throw) throw)
      by true = quiet_handle (instance r.instance) _ throw (λ t w. quiet_present (instance_at w r.instance)) (λ _. quiet_handle (call (Task.Acts r)) _ _ (quiet_call (Task.Acts r)) (λ _. tt) (λ _. tt)) (λ x. tt)
      by false = tt

  quiet_discard : (n : ℕ) → Quiet (discard n)
  quiet_discard n = quiet_handle (call (Task.Release n)) _ throw (quiet_call (Task.Release n)) (λ _. tt) (λ x. tt)

  quiet_ended : (n : ℕ) (g : Given) → Quiet (end_creation n g)
  quiet_ended n (Given.Result values.Null) = quiet_handle (discard n) _ throw (quiet_discard n) (λ _. tt) (λ x. tt)
  quiet_ended n (Given.Result (values.Int i)) = tt
  quiet_ended n (Given.Result (values.Text i)) = tt
  quiet_ended n (Given.Number m) = tt
  quiet_ended n Given.Empty = tt

  quiet_creating : (n : ℕ) (steps : Prog Given) → Quiet steps → Quiet (create_by n steps)
  quiet_creating n steps q = quiet_handle steps _ _ q (quiet_ended n) (λ x. quiet_handle (discard n) _ throw (quiet_discard n) (λ _. quiet_of (rethrow {A = Given} x built_in.CreationException) (plainly (rethrow {A = Given} x built_in.CreationException) (Walk.l_rethrow bare Given x built_in.CreationException))) (λ x. tt))

  quiet_new : (place : Place) (component : Component) (owner : Owner) (fields : Fields) → Quiet (begin_creation place component owner fields)
  quiet_new place component owner fields t w = by (nat_lt w.next (2 ^ 32)) w.next
    where
      by : (c : Bool) (n : ℕ) → Quiet (handle (give_number c n) (λ m. handle (note (entries.New m place)) (λ _. handle (alter (Change.Make component owner fields)) (λ _. ret m) throw) throw) throw)
      by true n = tt
      by false n = tt

  quiet_create : (b : ℕ) (owner : Owner) → Quiet (create b owner)
  quiet_create b owner t w = by (t.bean b)
    where
      by : (x : Option Bean) → Quiet (handle (require_present x) (λ x. handle (begin_creation x.place (components.Bean b) owner (first_fields x.kind)) (λ m. create_by m (make m x x.kind)) throw) throw)
      by None = tt
      by (Some x) = quiet_handle (begin_creation x.place (components.Bean b) owner (first_fields x.kind)) _ throw (quiet_new x.place (components.Bean b) owner (first_fields x.kind)) (λ n. quiet_creating n (make n x x.kind) (quiet_of (make n x x.kind) (plainly (make n x x.kind) (Walk.l_made_by bare n x x.kind)))) (λ x. tt)

  quiet_intercept : (i m : ℕ) → Quiet (intercept i m)
  quiet_intercept i m t w = by (t.interceptor i)
    where
      steps : Interceptor → ℕ → Prog Given
      steps x n = handle (each x.injected (λ p. inject n p.0 p.1)) (λ _. ret (Given.Number n)) throw

      by : (x : Option Interceptor) → Quiet (handle (require_present x) (λ x. handle (begin_creation (places.Class x.name) (components.Interceptor i) (owners.Instance m) x.fields) (λ n. create_by n (handle (each x.injected (λ p. inject n p.0 p.1)) (λ _. ret (Given.Number n)) throw)) throw) throw)
      by None = tt
      by (Some x) = quiet_handle (begin_creation (places.Class x.name) (components.Interceptor i) (owners.Instance m) x.fields) _ throw (quiet_new (places.Class x.name) (components.Interceptor i) (owners.Instance m) x.fields)
          (λ n. quiet_creating n (handle (each x.injected (λ p. inject n p.0 p.1)) (λ _. ret (Given.Number n)) throw) (quiet_handle (each x.injected (λ p. inject n p.0 p.1)) (λ _. ret (Given.Number n)) throw (quiet_of (each x.injected (λ p. inject n p.0 p.1)) (plainly (each x.injected (λ p. inject n p.0 p.1)) (Walk.l_each bare x.injected (λ p. inject n p.0 p.1) (λ p. Walk.l_inject bare n p.0 p.1)))) (λ _. tt) (λ x. tt))) (λ x. tt)

  quiet_task : (t : Task) → Walk.Walks bare bare (machine t) → Quiet (machine t)
  quiet_task t q = quiet_of (machine t) (plainly (machine t) q)

  quiet_do : (t : Task) (w : World) (h : List Item) → Quiet (machine t) → HG w h → Pre tables t w h → Does tables (Ok tables) HG (Pre tables) HPost (machine t) w h (HPost t w h)
  quiet_do t w h u g q = lift h (machine t) w h (BothPost t w h) u (both_do t w h g.0 q) g.1 Tail.here

  all_do : (t : Task) (w : World) (h : List Item) → HG w h → Pre tables t w h → Does tables (Ok tables) HG (Pre tables) HPost (machine t) w h (HPost t w h)
  all_do (Task.Destroy n) w h g q = destroying n w h g q
  all_do (Task.Obtain b) w h g q = quiet_do (Task.Obtain b) w h (quiet_task (Task.Obtain b) (Walk.l_obtain bare b)) g q
  all_do (Task.Create b owner) w h g q = quiet_do (Task.Create b owner) w h (quiet_create b owner) g q
  all_do (Task.Intercept i m) w h g q = quiet_do (Task.Intercept i m) w h (quiet_intercept i m) g q
  all_do (Task.Rest chain) w h g q = quiet_do (Task.Rest chain) w h (quiet_task (Task.Rest chain) (Walk.l_rest bare chain)) g q
  all_do (Task.Body r) w h g q = quiet_do (Task.Body r) w h (quiet_body r) g q
  all_do (Task.Acts r) w h g q = quiet_do (Task.Acts r) w h (quiet_task (Task.Acts r) (Walk.l_acts bare r)) g q
  all_do (Task.Release n) w h g q = quiet_do (Task.Release n) w h (quiet_task (Task.Release n) (Walk.l_releases bare n)) g q
  all_do (Task.Fire class qualifiers v) w h g q = quiet_do (Task.Fire class qualifiers v) w h (quiet_task (Task.Fire class qualifiers v) (Walk.l_fire bare class qualifiers v)) g q
  all_do (Task.Notify os v) w h g q = quiet_do (Task.Notify os v) w h (quiet_task (Task.Notify os v) (Walk.l_notify bare os v)) g q
  all_do Task.Dismiss w h g q = quiet_do Task.Dismiss w h (quiet_task Task.Dismiss (Walk.l_dismiss bare)) g q
  all_do (Task.Clear c) w h g q = quiet_do (Task.Clear c) w h (quiet_task (Task.Clear c) (Walk.l_clears bare c)) g q

  module _ (legal : Legal) where
    run_nested : (c : Command) (w v : World) (o : Outcome) (h : List Item) (r : Runs tables legal ⊥ (task c) w o v) → Tidy w → ((n : ℕ) → Sane n w h) → Each IsNestedEnd h → Each IsNestedEnd (items_of h r)
    run_nested c w v o h r g s e =
        (sound tables (Ok tables) HG (Pre tables) HPost legal all_do h (λ c v k. (Tidy v × ((n : ℕ) → Kept (standing n w) (standing n v))) × Tail h k) r
        (lift h (task c) w h (λ c v k. Tidy v × ((n : ℕ) → Kept (standing n w) (standing n v))) (quiet_of (task c) (plainly (task c) (Walk.l_task bare c)))
        (pair (task c) w h (LeftTidy tables) (λ n c v k. Kept (standing n w) (standing n v)) (command_does tables c w h g) (λ n. ledgered.command_does tables n c w h (s n))) e Tail.here)).0.1

    nested_story : {s : State} {h : List Item} → Story tables legal s h → Each IsNestedEnd h
    nested_story (Story.begins ticks depth) = tt
    nested_story (Story.refuses c r l q) = nested_story l
    nested_story (Story.goes {s = s} {h = h} {o = o} {v = v} c l q r) = run_nested c (at_begin s.world) v o h r (begin_tidy s.world (tidy_story tables legal l (not_halted s.halted _ _ q))) (λ n. ledgered.at_rest n s.world h (sane_story tables legal n l)) (nested_story l)

    pub ends_nested : EndsNested tables legal
    ends_nested s h l = nested_story l

  module _ (legal : Legal) where
    pub nested_if_short : EndsNestedIfShort tables legal
    nested_if_short s h c o v l q r = also_short tables (Each IsNestedEnd) (λ x k e. e.1) legal (task c) (at_begin s.world) v o h all r
      where
        all : (o' : Outcome) (v' : World) (z : Runs tables anything ⊥ (task c) (at_begin s.world) o' v') → Each IsNestedEnd (items_of h z)
        all o' v' z = run_nested anything c (at_begin s.world) v' o' h z (begin_tidy s.world (tidy_story tables legal l (not_halted s.halted _ _ q))) (λ n. ledgered.at_rest n s.world h (sane_story tables legal n l)) (nested_story legal l)
