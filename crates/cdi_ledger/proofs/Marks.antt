-- The mark of a destruction stands once where the instance is gone, and never twice: from the order of its items.
use Rattle.std.proofs.Common.{ℕ, ◌+◌, ◌≡◌, ◌≤◌, List, [], ◌∷◌, ◌⊎◌, inl, inr, Bool, true, false, refl, sym, ap, ◌∙◌, subst, arith}
use Rattle.std.specs.Prelude.{nat_eq, nat_lt}
use Rattle.cdi_base.specs.declared.entry.Entry.TheVariants as entries
use Rattle.cdi_machine.specs.Tables.{Tables}
use Rattle.cdi_machine.specs.World.{World, at_begin}
use Rattle.cdi_machine.specs.Commands.{task}
use Rattle.cdi_machine.specs.Runs.{Legal, Outcome, Runs}
use Rattle.cdi_ledger.specs.Whose.{IsIn}
use Rattle.cdi_ledger.specs.Ledger.{Item, Wrote, Between, Born, Fate, Unborn, Made, Readied, Ended, Left, Lost, Wrong, fate, if_is, by_new, by_ready, by_drop, by_run, by_end, by_between, by_gone, InOrder, items_of}
use Rattle.cdi_ledger.specs.Ends.{marks, one_more_if, MarksOnce, MarksOnceIfShort}
use Rattle.cdi_ledger.proofs.Phases.{eq_same}
use Rattle.cdi_ledger.proofs.Fronts.{anything, also_short}
use Rattle.cdi_ledger.proofs.Ledgered as ledgered
use Rattle.cdi_ledger.proofs.Settled.{sane_story}

-- how often the mark stands, and whether the instance is gone, by what has become of it
abbrev Tally : Fate → ℕ → Type 0 → Type 0
Tally Left k X = (k ≡ 1) × (X → ⊥)
Tally Lost k X = ((k ≡ 0) × (X → ⊥)) ⊎ (k ≡ 1)
Tally Wrong k X = Unit {0}
Tally _ k X = (k ≡ 0) × (X → ⊥)

-- where nothing is added to what it is gone by
tally_map : (f : Fate) (k : ℕ) (X Y : Type 0) → (Y → X) → Tally f k X → Tally f k Y
tally_map Unborn k X Y g t = (t.0, λ y. t.1 (g y))
tally_map Made k X Y g t = (t.0, λ y. t.1 (g y))
tally_map Readied k X Y g t = (t.0, λ y. t.1 (g y))
tally_map Ended k X Y g t = (t.0, λ y. t.1 (g y))
tally_map Left k X Y g t = (t.0, λ y. t.1 (g y))
tally_map Lost k X Y g (inl t) = inl (t.0, λ y. t.1 (g y))
tally_map Lost k X Y g (inr t) = inr t
tally_map Wrong k X Y g t = tt

tally_new : (f : Fate) (k : ℕ) (X : Type 0) → Tally f k X → Tally (by_new f) k X
tally_new Unborn k X t = t
tally_new Made k X t = tt
tally_new Readied k X t = tt
tally_new Ended k X t = tt
tally_new Left k X t = tt
tally_new Lost k X t = tt
tally_new Wrong k X t = tt

tally_ready : (f : Fate) (k : ℕ) (X : Type 0) → Tally f k X → Tally (by_ready f) k X
tally_ready Unborn k X t = tt
tally_ready Made k X t = t
tally_ready Readied k X t = tt
tally_ready Ended k X t = tt
tally_ready Left k X t = tt
tally_ready Lost k X t = tt
tally_ready Wrong k X t = tt

tally_drop : (f : Fate) (k : ℕ) (X : Type 0) → Tally f k X → Tally (by_drop f) k X
tally_drop Unborn k X t = tt
tally_drop Made k X t = inl t
tally_drop Readied k X t = tt
tally_drop Ended k X t = tt
tally_drop Left k X t = tt
tally_drop Lost k X t = tt
tally_drop Wrong k X t = tt

tally_run : (f : Fate) (k : ℕ) (X : Type 0) → Tally f k X → Tally (by_run f) k X
tally_run Unborn k X t = tt
tally_run Made k X t = t
tally_run Readied k X t = t
tally_run Ended k X t = t
tally_run Left k X t = t
tally_run Lost k X t = tt
tally_run Wrong k X t = tt

tally_end : (f : Fate) (k : ℕ) (X : Type 0) → Tally f k X → Tally (by_end f) k X
tally_end Unborn k X t = tt
tally_end Made k X t = tt
tally_end Readied k X t = t
tally_end Ended k X t = tt
tally_end Left k X t = tt
tally_end Lost k X t = tt
tally_end Wrong k X t = tt

tally_between : (f : Fate) (k : ℕ) (X : Type 0) → Tally f k X → Tally (by_between f) (k + 1) X
tally_between Unborn k X t = tt
tally_between Made k X t = tt
tally_between Readied k X t = tt
tally_between Ended k X t = (ap (λ z. z + 1) t.0, t.1)
tally_between Left k X t = tt
tally_between Lost k X t = tt
tally_between Wrong k X t = tt

tally_gone : (f : Fate) (k : ℕ) (X Y : Type 0) → Tally f k X → Tally (by_gone f) k Y
tally_gone Unborn k X Y t = tt
tally_gone Made k X Y t = tt
tally_gone Readied k X Y t = tt
tally_gone Ended k X Y t = tt
tally_gone Left k X Y t = inr t.0
tally_gone Lost k X Y t = tt
tally_gone Wrong k X Y t = tt

tally_if : (b : Bool) (f g : Fate) (k : ℕ) (X : Type 0) → Tally f k X → Tally g k X → Tally (if_is b g f) k X
tally_if true f g k X t u = u
tally_if false f g k X t u = t

abbrev IsGone : ℕ → List Item → Type 0
IsGone n h = IsIn (Wrote (entries.Gone n)) h

marked : (n m : ℕ) (b : Bool) (f : Fate) (k : ℕ) (X : Type 0) → Tally f k X → Tally (if_is b (by_between f) f) (one_more_if b k) X
marked n m true f k X t = tally_between f k X t
marked n m false f k X t = t

gone : (n m : ℕ) (b : Bool) → nat_eq m n ≡ b → (f : Fate) (k : ℕ) (h : List Item) → Tally f k (IsGone n h) → Tally (if_is b (by_gone f) f) k (IsGone n (Wrote (entries.Gone m) ∷ h))
gone n m true e f k h t = tally_gone f k (IsGone n h) _ t
gone n m false e f k h t = tally_map f k (IsGone n h) (IsGone n (Wrote (entries.Gone m) ∷ h)) (λ i. elim i [ inl q ↦ absurd (let y : m ≡ n = cc in let z : true ≡ false = sym (eq_same n) ∙ subst (λ j. nat_eq j n ≡ false) y e in cc) | inr q ↦ q ]) t

tally : (n : ℕ) (h : List Item) → Tally (fate n h) (marks n h) (IsGone n h)
tally n [] = by (nat_lt n 1)
  where
    by : (b : Bool) → Tally (if_is b Lost Unborn) 0 ⊥
    by true = inl (refl, λ x. x)
    by false = (refl, λ x. x)
tally n (Wrote (entries.New m place) ∷ h) = let t = later (tally n h) in tally_if (nat_eq m n) (fate n h) _ _ _ t (tally_new (fate n h) _ _ t)
  where
    later : Tally (fate n h) (marks n h) (IsGone n h) → Tally (fate n h) (marks n h) (IsGone n (Wrote (entries.New m place) ∷ h))
    later t = tally_map (fate n h) (marks n h) (IsGone n h) _ (λ i. elim i [ inl q ↦ cc | inr q ↦ q ]) t
tally n (Wrote (entries.Ready m) ∷ h) = let t = later (tally n h) in tally_if (nat_eq m n) (fate n h) _ _ _ t (tally_ready (fate n h) _ _ t)
  where
    later : Tally (fate n h) (marks n h) (IsGone n h) → Tally (fate n h) (marks n h) (IsGone n (Wrote (entries.Ready m) ∷ h))
    later t = tally_map (fate n h) (marks n h) (IsGone n h) _ (λ i. elim i [ inl q ↦ cc | inr q ↦ q ]) t
tally n (Wrote (entries.Drop m) ∷ h) = let t = later (tally n h) in tally_if (nat_eq m n) (fate n h) _ _ _ t (tally_drop (fate n h) _ _ t)
  where
    later : Tally (fate n h) (marks n h) (IsGone n h) → Tally (fate n h) (marks n h) (IsGone n (Wrote (entries.Drop m) ∷ h))
    later t = tally_map (fate n h) (marks n h) (IsGone n h) _ (λ i. elim i [ inl q ↦ cc | inr q ↦ q ]) t
tally n (Wrote (entries.Run m place) ∷ h) = let t = later (tally n h) in tally_if (nat_eq m n) (fate n h) _ _ _ t (tally_run (fate n h) _ _ t)
  where
    later : Tally (fate n h) (marks n h) (IsGone n h) → Tally (fate n h) (marks n h) (IsGone n (Wrote (entries.Run m place) ∷ h))
    later t = tally_map (fate n h) (marks n h) (IsGone n h) _ (λ i. elim i [ inl q ↦ cc | inr q ↦ q ]) t
tally n (Wrote (entries.Did a) ∷ h) = tally_map (fate n h) (marks n h) (IsGone n h) (IsGone n (Wrote (entries.Did a) ∷ h)) (λ i. elim i [ inl q ↦ cc | inr q ↦ q ]) (tally n h)
tally n (Wrote (entries.Pick c j) ∷ h) = tally_map (fate n h) (marks n h) (IsGone n h) (IsGone n (Wrote (entries.Pick c j) ∷ h)) (λ i. elim i [ inl q ↦ cc | inr q ↦ q ]) (tally n h)
tally n (Wrote (entries.Event class qualifiers) ∷ h) = tally_map (fate n h) (marks n h) (IsGone n h) (IsGone n (Wrote (entries.Event class qualifiers) ∷ h)) (λ i. elim i [ inl q ↦ cc | inr q ↦ q ]) (tally n h)
tally n (Wrote (entries.End m) ∷ h) = let t = later (tally n h) in tally_if (nat_eq m n) (fate n h) _ _ _ t (tally_end (fate n h) _ _ t)
  where
    later : Tally (fate n h) (marks n h) (IsGone n h) → Tally (fate n h) (marks n h) (IsGone n (Wrote (entries.End m) ∷ h))
    later t = tally_map (fate n h) (marks n h) (IsGone n h) _ (λ i. elim i [ inl q ↦ cc | inr q ↦ q ]) t
tally n (Wrote (entries.Gone m) ∷ h) = gone n m (nat_eq m n) refl (fate n h) (marks n h) h (tally n h)
tally n (Between m ∷ h) = marked n m (nat_eq m n) (fate n h) (marks n h) _ (tally_map (fate n h) (marks n h) (IsGone n h) (IsGone n (Between m ∷ h)) (λ i. elim i [ inl q ↦ cc | inr q ↦ q ]) (tally n h))
tally n (Born m component owner ∷ h) = tally_map (fate n h) (marks n h) (IsGone n h) (IsGone n (Born m component owner ∷ h)) (λ i. elim i [ inl q ↦ cc | inr q ↦ q ]) (tally n h)

abbrev Once : ℕ → List Item → Type 0
Once n h = (marks n h ≤ 1) × (IsGone n h → marks n h ≡ 1)

none : (k : ℕ) (X : Type 0) → k ≡ 0 → (X → ⊥) → (k ≤ 1) × (X → k ≡ 1)
none k X e f = (omega (arith, e), λ x. absurd (f x))

counted : (f : Fate) (k : ℕ) (X : Type 0) → (f ≡ Wrong → ⊥) → Tally f k X → (k ≤ 1) × (X → k ≡ 1)
counted Unborn k X r t = none k X t.0 t.1
counted Made k X r t = none k X t.0 t.1
counted Readied k X r t = none k X t.0 t.1
counted Ended k X r t = none k X t.0 t.1
counted Left k X r t = (let e = t.0 in omega (arith, e), λ x. absurd (t.1 x))
counted Lost k X r (inl t) = none k X t.0 t.1
counted Lost k X r (inr e) = (omega (arith, e), λ x. e)
counted Wrong k X r t = absurd (r refl)

pub once_in : (h : List Item) → InOrder h → (n : ℕ) → (marks n h ≤ 1) × (IsIn (Wrote (entries.Gone n)) h → marks n h ≡ 1)
once_in h q n = counted (fate n h) (marks n h) (IsGone n h) (q.each_way n) (tally n h)

pub marks_once : (tables : Tables) (legal : Legal) → MarksOnce tables legal
marks_once tables legal s h l n = once_in h (ledgered.in_order s.world h (λ k. sane_story tables legal k l)) n

pub marks_if_short : (tables : Tables) (legal : Legal) → MarksOnceIfShort tables legal
marks_if_short tables legal s h c o v l q r n = once_in (items_of h r) (also_short tables InOrder ledgered.shorter legal (task c) (at_begin s.world) v o h all r) n
  where
    all : (o' : Outcome) (v' : World) (z : Runs tables anything ⊥ (task c) (at_begin s.world) o' v') → InOrder (items_of h z)
    all o' v' z = ledgered.in_order v' (items_of h z) (λ k. ledgered.command_keeps tables k anything c (at_begin s.world) v' o' h z (ledgered.at_rest k s.world h (sane_story tables legal k l)))
