-- The runs of observers that stand by ascending priority are groups.
use Rattle.std.proofs.Common.{◌≡◌, ◌≢◌, ◌∙◌, ℤ, Bool, true, false, cond, List, [], ◌∷◌, ◌++◌, map, filter, Less, Equal, Greater, refl, sym, ap, subst, inl, inr, append-nil, append_assoc, arith}
use Rattle.std.proofs.lemmas.Bool.{true≢false}
use Rattle.std.proofs.lemmas.Bool.Decides.{Decides-int_eq}
use Rattle.std.proofs.lemmas.Int.{ints}
use Rattle.std.proofs.lemmas.List.{map-append}
use Rattle.std.proofs.lemmas.List.Elements.{Contains-append_right, Contains-append_cases, filter-append}
use Rattle.std.specs.List.{AllByRecursion, Contains}
use Rattle.std.specs.List.Sorted.{IsStrictlySortedBy}
use Rattle.std.specs.Ordering.{int_cmp, int_eq, is_eq}
use Rattle.std.specs.Prelude.{int_lt}
use Rattle.cdi_types.proofs.Listed.{first_or_later}
use Rattle.cdi_observers.specs.Order.{IsAscending}
use Rattle.cdi_observers.specs.Runs.{group_with, groups_from, groups_in}
use Rattle.cdi_observers.specs.declared.group.ObserverGroup.{ObserverGroup}
use Rattle.cdi_observers.specs.declared.order.RankedObserver.{RankedObserver}
use Rattle.cdi_observers.proofs.Groupings.{AreGroupsBy, with_priority}
use Rattle.cdi_observers.proofs.Rising.{at_one, at_each, not_itself}

-- the observers stand in these groups
abbrev pub Groups : List RankedObserver → List ObserverGroup → Type 0
Groups = AreGroupsBy (λ r. r.priority) (λ r. r.index)

less_from_lt : (p q : ℤ) → int_lt p q ≡ true → int_cmp p q ≡ Less
less_from_lt p q lt = ap (λ b. cond b Less (cond (int_lt q p) Greater Equal)) lt

apart : (p q : ℤ) → int_cmp p q ≡ Less → int_eq p q ≡ false
apart p q less = ap is_eq less

apart_back : (p q : ℤ) → int_cmp p q ≡ Less → int_eq q p ≡ false
apart_back p q less = by (int_eq q p) refl
  where
    by : (b : Bool) → int_eq q p ≡ b → b ≡ false
    by true is = absurd (not_itself p (let P : ℤ → Type 0 = λ r. int_cmp p r ≡ Less in subst P ((Decides-int_eq q p).0 is) less))
    by false is = refl

-- not below, and not the same
above : (p q : ℤ) → int_lt q p ≡ false → int_eq q p ≡ false → int_lt p q ≡ true
above p q not_below other = by (int_lt q p) (int_lt p q) not_below other
  where
    by : (b c : Bool) → b ≡ false → is_eq (cond b Less (cond c Greater Equal)) ≡ false → c ≡ true
    by b true e f = refl
    by true false e f = absurd (true≢false e)
    by false false e f = absurd (true≢false f)

above_too : (p q r : ℤ) → int_lt p q ≡ true → int_lt r q ≡ false → int_lt p r ≡ true
above_too p q r lt not_below = grind (arith, ints)

all_above : (p q : ℤ) (rs : List RankedObserver) → int_lt p q ≡ true → AllByRecursion (λ r. int_lt r.priority q ≡ false) rs → AllByRecursion (λ r. int_cmp p r.priority ≡ Less) rs
all_above p q [] lt all = tt
all_above p q (r ∷ rs) lt all = (less_from_lt p r.priority (above_too p q r.priority lt all.0), all_above p q rs lt all.1)

-- those of one priority are left as they stand
all_left : (p : ℤ) (rs : List RankedObserver) → AllByRecursion (λ r. r.priority ≡ p) rs → filter (λ r. int_eq r.priority p) rs ≡ rs
all_left p [] all = refl
all_left p (r ∷ rs) all = by (int_eq r.priority p) ((Decides-int_eq r.priority p).1 all.0) (all_left p rs all.1)
  where
    by : (b : Bool) → b ≡ true → filter (λ s. int_eq s.priority p) rs ≡ rs → cond b (r ∷ filter (λ s. int_eq s.priority p) rs) (filter (λ s. int_eq s.priority p) rs) ≡ r ∷ rs
    by true e rest = ap (λ ss. r ∷ ss) rest
    by false e rest = absurd (true≢false (sym e))

none_left : (p : ℤ) (rs : List RankedObserver) → AllByRecursion (λ r. int_eq r.priority p ≡ false) rs → filter (λ r. int_eq r.priority p) rs ≡ []
none_left p [] all = refl
none_left p (r ∷ rs) all = by (int_eq r.priority p) all.0 (none_left p rs all.1)
  where
    by : (b : Bool) → b ≡ false → filter (λ s. int_eq s.priority p) rs ≡ [] → cond b (r ∷ filter (λ s. int_eq s.priority p) rs) (filter (λ s. int_eq s.priority p) rs) ≡ []
    by true e rest = absurd (true≢false e)
    by false e rest = rest

changed : {X : Type 0} (P Q : X → Type 0) → ((x : X) → P x → Q x) → (xs : List X) → AllByRecursion P xs → AllByRecursion Q xs
changed P Q f [] all = tt
changed P Q f (x ∷ xs) all = (f x all.0, changed P Q f xs all.1)

mapped : {X Y : Type 0} (f : X → Y) (P : Y → Type 0) (xs : List X) → AllByRecursion (λ x. P (f x)) xs → AllByRecursion P (map f xs)
mapped f P [] all = tt
mapped f P (x ∷ xs) all = (all.0, mapped f P xs all.1)

-- a run, and groups of observers of higher priority behind it
module _ (g : ObserverGroup) (run rest : List RankedObserver) (some : run ≢ []) (all : AllByRecursion (λ r. r.priority ≡ g.priority) run) (listed : g.observers ≡ map (λ r. r.index) run) (higher : AllByRecursion (λ r. int_cmp g.priority r.priority ≡ Less) rest) where
  split_at : (p : ℤ) → with_priority (λ (r : RankedObserver). r.priority) (λ r. r.index) (run ++ rest) p ≡ map (λ r. r.index) (filter (λ r. int_eq r.priority p) run ++ filter (λ r. int_eq r.priority p) rest)
  split_at p = ap (map (λ (r : RankedObserver). r.index)) (filter-append (λ (r : RankedObserver). int_eq r.priority p) run rest)

  of_run : g.observers ≡ with_priority (λ (r : RankedObserver). r.priority) (λ r. r.index) (run ++ rest) g.priority
  of_run =
      let none = none_left g.priority rest (changed (λ (r : RankedObserver). int_cmp g.priority r.priority ≡ Less) (λ r. int_eq r.priority g.priority ≡ false) (λ r less. apart_back g.priority r.priority less) rest higher) in
      listed ∙ sym (split_at g.priority ∙ ap (λ (rs : List RankedObserver). map (λ r. r.index) (rs ++ filter (λ r. int_eq r.priority g.priority) rest)) (all_left g.priority run all) ∙ ap (λ (rs : List RankedObserver). map (λ r. r.index) (run ++ rs)) none ∙ ap (map (λ (r : RankedObserver). r.index)) (append-nil run))

  of_rest : (p : ℤ) → int_cmp g.priority p ≡ Less → with_priority (λ (r : RankedObserver). r.priority) (λ r. r.index) rest p ≡ with_priority (λ (r : RankedObserver). r.priority) (λ r. r.index) (run ++ rest) p
  of_rest p less =
      let other : (r : RankedObserver) → r.priority ≡ g.priority → int_eq r.priority p ≡ false = λ r is. ap (λ q. int_eq q p) is ∙ apart g.priority p less in
      let none = none_left p run (changed (λ (r : RankedObserver). r.priority ≡ g.priority) (λ r. int_eq r.priority p ≡ false) other run all) in
      sym (split_at p ∙ ap (λ (rs : List RankedObserver). map (λ r. r.index) (rs ++ filter (λ r. int_eq r.priority p) rest)) none)

  behind_each : (gs : List ObserverGroup) → AllByRecursion (λ p. int_cmp g.priority p ≡ Less) (map (λ h. h.priority) gs) → AllByRecursion (λ h. h.observers ≡ with_priority (λ (r : RankedObserver). r.priority) (λ r. r.index) rest h.priority) gs
      → AllByRecursion (λ h. h.observers ≡ with_priority (λ (r : RankedObserver). r.priority) (λ r. r.index) (run ++ rest) h.priority) gs
  behind_each [] less each = tt
  behind_each (h ∷ hs) less each = (each.0 ∙ of_rest h.priority less.0, behind_each hs less.1 each.1)

  run_has : Contains (map (λ r. r.priority) (run ++ rest)) g.priority
  run_has = by run some all
    where
      by : (rs : List RankedObserver) → rs ≢ [] → AllByRecursion (λ r. r.priority ≡ g.priority) rs → Contains (map (λ r. r.priority) (rs ++ rest)) g.priority
      by [] some all = absurd (some refl)
      by (r ∷ rs) some all = (let P : ℤ → Type 0 = λ p. Contains (r.priority ∷ map (λ r. r.priority) (rs ++ rest)) p in subst P all.0 (0, omega arith, refl))

  pub run_first : (gs : List ObserverGroup) → Groups rest gs → Groups (run ++ rest) (g ∷ gs)
  unfolding IsStrictlySortedBy
  run_first gs are =
      let priorities : List RankedObserver → List ℤ = map (λ r. r.priority) in
      let joined : priorities (run ++ rest) ≡ priorities run ++ priorities rest = map-append (λ (r : RankedObserver). r.priority) run rest in
      let In : ℤ → List ℤ → Type 0 = λ p ps. Contains ps p in
      let less : AllByRecursion (λ p. int_cmp g.priority p ≡ Less) (map (λ (h : ObserverGroup). h.priority) gs) = at_each (λ p. int_cmp g.priority p ≡ Less) (map (λ (h : ObserverGroup). h.priority) gs) (λ p there. at_one (λ p. int_cmp g.priority p ≡ Less) (priorities rest) p (mapped (λ (r : RankedObserver). r.priority) (λ p. int_cmp g.priority p ≡ Less) rest higher) ((are.priorities.same p).0 there)) in
      record {
        priorities = record {
          rising = (less, are.priorities.rising);
          same = λ p. (
            λ there. elim (first_or_later g.priority (map (λ (h : ObserverGroup). h.priority) gs) p there) [
              | inl same ↦ (let P : ℤ → Type 0 = λ q. Contains (priorities (run ++ rest)) q in subst P same run_has)
              | inr later ↦ subst (In p) (sym joined) (Contains-append_right (priorities run) (priorities rest) p ((are.priorities.same p).0 later))
            ],
            λ there. elim (Contains-append_cases (priorities run) (priorities rest) p (subst (In p) joined there)) [
              | inl of_run ↦ (
                  let is : p ≡ g.priority = at_one (λ p. p ≡ g.priority) (priorities run) p (mapped (λ (r : RankedObserver). r.priority) (λ p. p ≡ g.priority) run all) of_run in
                  let P : ℤ → Type 0 = λ q. Contains (g.priority ∷ map (λ (h : ObserverGroup). h.priority) gs) q in
                  subst P (sym is) (0, omega arith, refl)
                  )
              | inr behind ↦ Contains-append_right (g.priority ∷ []) (map (λ (h : ObserverGroup). h.priority) gs) p ((are.priorities.same p).1 behind)
            ],
          );
        };
        each = (of_run, behind_each gs less are.each);
      }

no_groups : Groups [] []
unfolding IsStrictlySortedBy
no_groups = record { priorities = record { rising = tt; same = λ p. (λ there. there, λ there. there) }; each = tt }

not_nothing : (rs : List RankedObserver) (r : RankedObserver) → rs ++ r ∷ [] ≢ []
not_nothing [] r e = absurd cc
not_nothing (s ∷ ss) r e = absurd cc

pushed : {X : Type 0} (P : X → Type 0) (xs : List X) (x : X) → AllByRecursion P xs → P x → AllByRecursion P (xs ++ x ∷ [])
pushed P [] x all last = (last, tt)
pushed P (y ∷ ys) x all last = (all.0, pushed P ys x all.1 last)

abbrev longer : ObserverGroup → RankedObserver → ObserverGroup
longer g r = record { priority = g.priority; observers = g.observers ++ r.index ∷ [] }

-- the groups of a run that has begun, and of what stands behind it
pub groups_behind : (g : ObserverGroup) (run rs : List RankedObserver) → run ≢ [] → AllByRecursion (λ r. r.priority ≡ g.priority) run → g.observers ≡ map (λ r. r.index) run → AllByRecursion (λ r. int_lt r.priority g.priority ≡ false) rs → IsAscending rs
    → Groups (run ++ rs) (groups_from g rs)
groups_behind g run [] some all listed not_below ascending = run_first g run [] some all listed tt [] no_groups
groups_behind g run (r ∷ rs) some all listed not_below ascending =
    by (int_eq r.priority g.priority) refl
    (λ is. groups_behind (longer g r) (run ++ r ∷ []) rs (not_nothing run r) (pushed (λ s. s.priority ≡ g.priority) run r all ((Decides-int_eq r.priority g.priority).0 is)) (ap (λ is. is ++ r.index ∷ []) listed ∙ sym (map-append (λ (s : RankedObserver). s.index) run (r ∷ []))) not_below.1 ascending.1)
    (groups_behind (group_with r) (r ∷ []) rs (λ e. absurd cc) (refl, tt) refl ascending.0 ascending.1)
  where
    by : (b : Bool) → int_eq r.priority g.priority ≡ b → (int_eq r.priority g.priority ≡ true → Groups ((run ++ r ∷ []) ++ rs) (groups_from (longer g r) rs)) → Groups (r ∷ rs) (groups_from (group_with r) rs)
        → Groups (run ++ r ∷ rs) (cond b [] (g ∷ []) ++ groups_from (cond b (longer g r) (group_with r)) rs)
    by true is same other = (let P : List RankedObserver → Type 0 = λ ss. Groups ss (groups_from (longer g r) rs) in subst P (append_assoc run (r ∷ []) rs) (same is))
    by false is same other =
        let lt : int_lt g.priority r.priority ≡ true = above g.priority r.priority not_below.0 is in
        run_first g run (r ∷ rs) some all listed (less_from_lt g.priority r.priority lt, all_above g.priority r.priority rs lt ascending.0) (groups_from (group_with r) rs) other

pub groups_of_ascending : (rs : List RankedObserver) → IsAscending rs → Groups rs (groups_in rs)
groups_of_ascending [] ascending = no_groups
groups_of_ascending (r ∷ rs) ascending = groups_behind (group_with r) (r ∷ []) rs (λ e. absurd cc) (refl, tt) refl ascending.0 ascending.1
