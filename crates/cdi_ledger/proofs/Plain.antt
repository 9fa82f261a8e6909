-- Programs that by themselves begin and end no instance: what they leave to a number is what their calls leave.
use Rattle.std.proofs.Common.{ℕ, ◌≡◌, List, ◌∷◌, refl, sym, ap, ◌∙◌, subst, Option, Some, None, Bool, true, false, ◌⊎◌, inl, inr}
use Rattle.std.specs.Prelude.{nat_lt}
use Rattle.cdi_base.specs.declared.entry.Entry.{Entry}
use Rattle.cdi_base.specs.declared.entry.Entry.TheVariants as entries
use Rattle.cdi_store.specs.declared.instance.Phase.{Phase}
use Rattle.cdi_store.specs.declared.instance.Phase.TheVariants as phases
use Rattle.cdi_machine.specs.Words.{Name}
use Rattle.cdi_machine.specs.Tables.{Tables}
use Rattle.cdi_machine.specs.World.{World, Change, after_change, with_entry}
use Rattle.cdi_machine.specs.Programs.{Task, Given, Completion, Prog, ret, throw, cut, miss, see, change, tick, mark, act, choose, nested, candidates, handle}
use Rattle.cdi_machine.proofs.Walk.{PlainChange, PlainEntry, Plain, map_change, map_entry}
use Rattle.cdi_ledger.specs.Ledger.{Item, Wrote, with_birth, Fate, Unborn, Made, Readied, Left, Lost, fate, numbers, InSequence}
use Rattle.cdi_ledger.proofs.Phases.{phase_at, adjusted_same}
use Rattle.cdi_ledger.proofs.Judge.{Free, guard_free, note_free, Does}

pub plainly : {A B : Type 0} (p : Prog A) (f : A → Prog B) (g : Name → Prog B) → Plain p → ((a : A) → Plain (f a)) → ((x : Name) → Plain (g x)) → Plain (handle p f g)
plainly (ret a) f g q qf qg = qf a
plainly (throw x) f g q qf qg = qg x
plainly (cut cause) f g q qf qg = tt
plainly (miss p) f g q qf qg = plainly p f g q qf qg
plainly (see k) f g q qf qg = λ t w. plainly (k t w) f g (q t w) qf qg
plainly (change x p) f g q qf qg = map_change x (λ y. plainly p f g y qf qg) q
plainly (tick x p) f g q qf qg = map_entry x (λ y. plainly p f g y qf qg) q
plainly (mark n p) f g q qf qg = q
plainly (act b fields view k) f g q qf qg = λ a. plainly (k a) f g (q a) qf qg
plainly (choose n k) f g q qf qg = λ i. plainly (k i) f g (q i) qf qg
plainly (nested t k) f g q qf qg = λ c. plainly (k c) f g (q c) qf qg

-- ---- what holds of each world, for one number

abbrev pub stands : Bool → Option Phase → Fate
stands true None = Lost
stands false None = Unborn
stands b (Some phases.New) = Made
stands b (Some phases.Ready) = Readied
stands b (Some phases.Leaving) = Left

-- what has become of n, by the world
abbrev pub standing : ℕ → World → Fate
standing n w = stands (nat_lt n w.next) (phase_at n w.instances)

pub record Sane (n : ℕ) (w : World) (h : List Item) : Type 0 where
  pub fate : fate n h ≡ standing n w
  pub later : nat_lt n w.next ≡ false → phase_at n w.instances ≡ None
  pub count : w.next ≡ numbers h
  pub sequence : InSequence h

-- what a task may do to a number that it wasn't begun for
abbrev pub Kept : Fate → Fate → Type 0
Kept Unborn g = Unit {0}
Kept Readied g = (g ≡ Readied) ⊎ ((g ≡ Left) ⊎ (g ≡ Lost))
Kept f g = g ≡ f

pub kept_then : (f g k : Fate) → Kept f g → Kept g k → Kept f k
kept_then Unborn g k a b = tt
kept_then Readied g k (inl e) b = subst (λ z. Kept z k) e b
kept_then Readied g k (inr (inl e)) b = inr (inl (subst (λ z. Kept z k) e b))
kept_then Readied g k (inr (inr e)) b = inr (inr (subst (λ z. Kept z k) e b))
kept_then Made g k a b = subst (λ z. Kept z k) a b
kept_then Fate.Ended g k a b = subst (λ z. Kept z k) a b
kept_then Left g k a b = subst (λ z. Kept z k) a b
kept_then Lost g k a b = subst (λ z. Kept z k) a b
kept_then Fate.Wrong g k a b = subst (λ z. Kept z k) a b

pub kept_same : (n : ℕ) (w : World) → Kept (standing n w) (standing n w)
kept_same n w = by (nat_lt n w.next) (phase_at n w.instances)
  where
    by : (b : Bool) (p : Option Phase) → Kept (stands b p) (stands b p)
    by true None = refl
    by false None = tt
    by b (Some phases.New) = refl
    by b (Some phases.Ready) = inl refl
    by b (Some phases.Leaving) = refl

-- the parts of the world that the ledger looks at are the same
pub record Still (n : ℕ) (w v : World) : Type 0 where
  pub phase : phase_at n v.instances ≡ phase_at n w.instances
  pub next : v.next ≡ w.next

pub still_standing : (n : ℕ) (w v : World) → Still n w v → standing n v ≡ standing n w
still_standing n w v s = ap (λ x. stands (nat_lt n x) (phase_at n v.instances)) s.next ∙ ap (stands (nat_lt n w.next)) s.phase

pub sane_still : (n : ℕ) (w v : World) (h : List Item) → Still n w v → Sane n w h → Sane n v h
sane_still n w v h s g = record {
  fate = g.fate ∙ sym (still_standing n w v s);
  later = λ e. s.phase ∙ g.later (ap (nat_lt n) (sym s.next) ∙ e);
  count = s.next ∙ g.count;
  sequence = g.sequence;
}

pub same_still : (n : ℕ) (w : World) → Still n w w
same_still n w = record { phase = refl; next = refl }

pub plain_change : (n : ℕ) (g : Change) (w : World) (X : Type 0) → PlainChange g X → Still n w (after_change g w) × X
plain_change n (Change.Make component owner fields) w X x = absurd x
plain_change n (Change.Settle m) w X x = absurd x
plain_change n (Change.Discard m) w X x = absurd x
plain_change n (Change.Leave m) w X x = absurd x
plain_change n (Change.Remove m) w X x = absurd x
plain_change n (Change.Assign m field v) w X x = (record { phase = adjusted_same n m _ (λ o. refl) w.instances; next = refl }, x)
plain_change n (Change.Refer m field r) w X x = (record { phase = adjusted_same n m _ (λ o. refl) w.instances; next = refl }, x)
plain_change n (Change.Hold m v) w X x = (record { phase = adjusted_same n m _ (λ o. refl) w.instances; next = refl }, x)
plain_change n (Change.BeginRequest name session) w X x = (record { phase = refl; next = refl }, x)
plain_change n (Change.BeginSession name) w X x = (record { phase = refl; next = refl }, x)
plain_change n (Change.Finish c) w X x = (record { phase = refl; next = refl }, x)
plain_change n (Change.Close c) w X x = (record { phase = refl; next = refl }, x)
plain_change n (Change.Mark s) w X x = (record { phase = refl; next = refl }, x)
plain_change n (Change.Stand e) w X x = (record { phase = refl; next = refl }, x)
plain_change n (Change.Enter i) w X x = (record { phase = refl; next = refl }, x)
plain_change n (Change.Provide rs) w X x = (record { phase = refl; next = refl }, x)
plain_change n (Change.Replace vs) w X x = (record { phase = refl; next = refl }, x)
plain_change n (Change.Keep key v) w X x = (record { phase = refl; next = refl }, x)
plain_change n Change.Reach w X x = (record { phase = refl; next = refl }, x)
plain_change n Change.Exit w X x = (record { phase = refl; next = refl }, x)
plain_change n (Change.Start m) w X x = (record { phase = refl; next = refl }, x)
plain_change n Change.Stop w X x = (record { phase = refl; next = refl }, x)
plain_change n Change.Borrow w X x = (record { phase = refl; next = refl }, x)
plain_change n Change.Return w X x = (record { phase = refl; next = refl }, x)
plain_change n Change.Down w X x = (record { phase = refl; next = refl }, x)

pub plain_birth : (g : Change) (w : World) (h : List Item) (X : Type 0) → PlainChange g X → with_birth g w h ≡ h
plain_birth (Change.Make component owner fields) w h X x = absurd x
plain_birth _ w h X x = refl

pub sane_entry : (n : ℕ) (e : Entry) (w : World) (h : List Item) (X : Type 0) → PlainEntry e X → Sane n w h → Sane n (with_entry e w) (Wrote e ∷ h) × X
sane_entry n (entries.Event class qualifiers) w h X x g = (record { fate = g.fate; later = g.later; count = g.count; sequence = (tt, g.sequence) }, x)
sane_entry n (entries.Did a) w h X x g = (record { fate = g.fate; later = g.later; count = g.count; sequence = (tt, g.sequence) }, x)
sane_entry n (entries.Pick c i) w h X x g = (record { fate = g.fate; later = g.later; count = g.count; sequence = (tt, g.sequence) }, x)
sane_entry n (entries.New m place) w h X x g = absurd x
sane_entry n (entries.Ready m) w h X x g = absurd x
sane_entry n (entries.Drop m) w h X x g = absurd x
sane_entry n (entries.Run m place) w h X x g = absurd x
sane_entry n (entries.End m) w h X x g = absurd x
sane_entry n (entries.Gone m) w h X x g = absurd x

abbrev pub Pre : Task → World → List Item → Type 0
Pre t w h = Unit {0}

abbrev pub Post : ℕ → Task → World → List Item → Completion Given → World → List Item → Type 0
Post n t w h c w1 h1 = Kept (standing n w) (standing n w1)

module _ (tables : Tables) (n : ℕ) where
  abbrev pub Doing : {A : Type 0} → Prog A → World → List Item → (Completion A → World → List Item → Type 0) → Type 0
  Doing p w h Q = Does tables Free (Sane n) Pre (Post n) p w h Q

  abbrev pub From : {A : Type 0} → Fate → Completion A → World → List Item → Type 0
  From f c w h = Kept f (standing n w)

  -- a plain program keeps
  pub keeps : {A : Type 0} (p : Prog A) (f : Fate) (w : World) (h : List Item) → Plain p → Sane n w h → Kept f (standing n w) → Doing p w h (From f)
  keeps (ret a) f w h q g k = (g, k)
  keeps (throw x) f w h q g k = (g, k)
  keeps (cut cause) f w h q g k = g
  keeps (miss p) f w h q g k = keeps p f w h q g k
  keeps (see p) f w h q g k = keeps (p tables w) f w h (q tables w) g k
  keeps (change x p) f w h q g k =
      let s = plain_change n x w (Plain p) q in
      guard_free x w h (subst (λ z. Doing p (after_change x w) z (From f)) (sym (plain_birth x w h (Plain p) q)) (keeps p f (after_change x w) h s.1 (sane_still n w (after_change x w) h s.0 g) (subst (λ z. Kept f z) (sym (still_standing n w (after_change x w) s.0)) k)))
  keeps (tick e p) f w h q g k = let s = sane_entry n e w h (Plain p) q g in (g, note_free e w h (keeps p f (with_entry e w) (Wrote e ∷ h) s.1 s.0 k))
  keeps (mark m p) f w h q g k = absurd q
  keeps (act b fields view p) f w h q g k = (g, λ a. keeps (p a) f (with_entry (entries.Did a) w) (Wrote (entries.Did a) ∷ h) (q a) (sane_entry n (entries.Did a) w h (Unit {0}) tt g).0 k)
  keeps (choose m p) f w h q g k = (g, λ i l. keeps (p i) f (with_entry (entries.Pick (candidates m) i) w) (Wrote (entries.Pick (candidates m) i) ∷ h) (q i) (sane_entry n (entries.Pick (candidates m) i) w h (Unit {0}) tt g).0 k)
  keeps (nested t p) f w h q g k = (g, tt, λ c w1 h1 g1 p1. keeps (p c) f w1 h1 (q c) g1 (kept_then f (standing n w) (standing n w1) k p1))
