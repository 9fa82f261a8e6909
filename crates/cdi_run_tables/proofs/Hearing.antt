-- The observers that hear an event, in the words of an instance's life.
use Rattle.std.proofs.Common.{ℕ, zero, suc, ◌≡◌, ◌∙◌, ◌+◌, ◌-◌, ◌<◌, ◌≤◌, ◌↔◌, Bool, Bor, IsTrue, true, false, cond, not, filter, List, [], ◌∷◌, ◌++◌, map, take, drop, get_or, length, Option, Some, None, refl, sym, ap, arith}
use Rattle.std.specs.Prelude.{option_and_then, slice_get}
use Rattle.std.specs.List.{All, AllZip, cons_option, slice_range}
use Rattle.std.proofs.lemmas.Bool.{true≢false}
use Rattle.std.proofs.lemmas.List.{length-take-le, take_more}
use Rattle.std.proofs.lemmas.List.Elements.{All-cons, All-nil}
use Rattle.cdi_event_tables.specs.declared.observer_groups.ObserverGroup.{ObserverGroup}
use Rattle.cdi_event_tables.specs.declared.observers.PlannedObserver.{PlannedObserver}
use Rattle.cdi_machine.specs.declared.member.Observer.{Observer}
use Rattle.cdi_machine.specs.Tables as machine
use Rattle.cdi_run_tables.specs.Machine.{has_none}
use Rattle.cdi_run_tables.specs.Observers.{heard_among, heard_at, heard_groups, heard_in, heard_of_group, if_any, if_heard, is_heard_at, told_beside}

-- ---- a loop looks at one item more

module _ {X Y Z : Type 0} (f : X → Y → Option Z) where
  one_beside : (xs : List X) (ys : List Y) (y : Y) → told_beside f xs (ys ++ y ∷ []) ≡ told_beside f xs ys ++ cons_option (option_and_then (λ x. f x y) (slice_get xs (length ys))) []
  one_beside [] [] y = refl
  one_beside [] (z ∷ ys) y = refl
  one_beside (x ∷ xs) [] y = refl
  one_beside (x ∷ xs) (z ∷ ys) y = by (f x z) (one_beside xs ys y)
    where
      by : (o : Option Z) → told_beside f xs (ys ++ y ∷ []) ≡ told_beside f xs ys ++ cons_option (option_and_then (λ k. f k y) (slice_get xs (length ys))) []
          → cons_option o (told_beside f xs (ys ++ y ∷ [])) ≡ cons_option o (told_beside f xs ys) ++ cons_option (option_and_then (λ k. f k y) (slice_get xs (length ys))) []
      by None rest = rest
      by (Some z) rest = ap (λ zs. z ∷ zs) rest

  beside_more : (xs : List X) (ys : List Y) (i : ℕ) (y : Y) → i < length ys → y ≡ get_or ys i y → told_beside f xs (take (i + 1) ys) ≡ told_beside f xs (take i ys) ++ cons_option (option_and_then (λ x. f x y) (slice_get xs i)) []
  beside_more xs ys i y lt is =
      let within : i ≤ length ys = omega (arith, lt) in
      ap (told_beside f xs) (take_more ys i y lt ∙ ap (λ z. take i ys ++ z ∷ []) (sym is))
      ∙ one_beside xs (take i ys) y
      ∙ ap (λ n. told_beside f xs (take i ys) ++ cons_option (option_and_then (λ x. f x y) (slice_get xs n)) []) (length-take-le i ys within)

module _ (hears : PlannedObserver → Bool) where
  told_if : (o : Option PlannedObserver) (n : Observer) (b : Bool) → is_heard_at hears o ≡ b → option_and_then (λ x. if_heard hears x n) o ≡ cond b (Some n) None
  told_if None n true e = absurd (true≢false (sym e))
  told_if None n false e = refl
  told_if (Some x) n b e = ap (λ t. cond t (Some n) None) e

  module _ (os : List PlannedObserver) (ns : List Observer) (i : ℕ) (n : Observer) (lt : i < length ns) (is : n ≡ get_or ns i n) where
    pub one_hears : is_heard_at hears (slice_get os i) ≡ true → heard_in hears os (take i ns) ++ n ∷ [] ≡ heard_in hears os (take (i + 1) ns)
    one_hears e = sym (beside_more (if_heard hears) os ns i n lt is ∙ ap (λ o. heard_in hears os (take i ns) ++ cons_option o []) (told_if (slice_get os i) n true e))

    pub none_hears : is_heard_at hears (slice_get os i) ≡ false → heard_in hears os (take i ns) ≡ heard_in hears os (take (i + 1) ns)
    none_hears e =
        sym
        (beside_more (if_heard hears) os ns i n lt is ∙ ap (λ o. heard_in hears os (take i ns) ++ cons_option o []) (told_if (slice_get os i) n false e)
        ∙ append_none (heard_in hears os (take i ns)))
      where
        append_none : (xs : List Observer) → xs ++ [] ≡ xs
        append_none [] = refl
        append_none (x ∷ xs) = ap (λ rest. x ∷ rest) (append_none xs)

  group_told : (o : Option ObserverGroup) (ns : List Observer) → option_and_then (λ g. heard_of_group hears g ns) o ≡ if_any (heard_at hears o ns)
  group_told None ns = refl
  group_told (Some g) ns = refl

  module _ (gs : List ObserverGroup) (nss : List (List Observer)) (i : ℕ) (ns : List Observer) (lt : i < length nss) (is : ns ≡ get_or nss i ns) where
    group_more : heard_groups hears gs (take (i + 1) nss) ≡ heard_groups hears gs (take i nss) ++ cons_option (if_any (heard_at hears (slice_get gs i) ns)) []
    group_more =
        beside_more (heard_of_group hears) gs nss i ns lt is
        ∙ ap (λ o. heard_groups hears gs (take i nss) ++ cons_option o []) (group_told (slice_get gs i) ns)

    -- a group in which none hears the event is left out
    pub no_group : (all : List (List Observer)) → all ≡ heard_groups hears gs (take i nss) → (heard : List Observer) → heard ≡ heard_at hears (slice_get gs i) ns → (b : Bool) → IsTrue b ↔ (heard ≡ []) → b ≡ true
        → all ≡ heard_groups hears gs (take (i + 1) nss)
    no_group all so_far heard told b empty e =
        so_far
        ∙ sym
        (group_more
        ∙ ap (λ h. heard_groups hears gs (take i nss) ++ cons_option (if_any h) []) (sym told ∙ empty.0 e)
        ∙ append_none (heard_groups hears gs (take i nss)))
      where
        append_none : (xs : List (List Observer)) → xs ++ [] ≡ xs
        append_none [] = refl
        append_none (x ∷ xs) = ap (λ rest. x ∷ rest) (append_none xs)

    pub one_group : (all : List (List Observer)) → all ≡ heard_groups hears gs (take i nss) → (heard : List Observer) → heard ≡ heard_at hears (slice_get gs i) ns → (b : Bool) → IsTrue b ↔ (heard ≡ []) → b ≡ false
        → all ++ heard ∷ [] ≡ heard_groups hears gs (take (i + 1) nss)
    one_group all so_far heard told b empty e =
        ap (λ xs. xs ++ heard ∷ []) so_far
        ∙ sym (group_more ∙ ap (λ h. heard_groups hears gs (take i nss) ++ cons_option (if_any h) []) (sym told) ∙ ap (λ o. heard_groups hears gs (take i nss) ++ cons_option o []) (some heard (λ none. true≢false (sym (empty.1 none) ∙ e))))
      where
        some : (hs : List Observer) → (hs ≡ [] → ⊥) → if_any hs ≡ Some hs
        some [] other = absurd (other refl)
        some (h ∷ hs) other = refl

-- ---- an observer of its own

first_one : {X : Type 0} (xs : List X) (i : ℕ) → take 1 (drop i xs) ≡ cons_option (slice_get xs i) []
first_one [] zero = refl
first_one [] (suc i) = refl
first_one (x ∷ xs) zero = refl
first_one (x ∷ xs) (suc i) = first_one xs i

range_of_one : {X : Type 0} (xs : List X) (i : ℕ) → slice_range xs i (i + 1) ≡ cons_option (slice_get xs i) []
range_of_one xs i = let one : (i + 1) - i ≡ 1 = omega arith in ap (λ n. take n (drop i xs)) one ∙ first_one xs i

-- it is heard if a search among it alone finds one
pub heard_alone : (hears : PlannedObserver → Bool) (os : List PlannedObserver) (i : ℕ) (found : List (Bor PlannedObserver)) → map (λ o. o.now) found ≡ filter hears (slice_range os i (i + 1))
    → (b : Bool) → IsTrue b ↔ (found ≡ []) → not b ≡ is_heard_at hears (slice_get os i)
heard_alone hears os i found e b empty = by (slice_get os i) (e ∙ ap (filter hears) (range_of_one os i))
  where
    tested : (o : PlannedObserver) (t : Bool) (found : List (Bor PlannedObserver)) (b : Bool) → IsTrue b ↔ (found ≡ []) → map (λ x. x.now) found ≡ cond t (o ∷ []) [] → not b ≡ t
    tested o true [] b h is = absurd cc
    tested o true (x ∷ xs) true h is = absurd (by (h.0 refl))
      where
        by : x ∷ xs ≡ [] → ⊥
        by e = cc
    tested o true (x ∷ xs) false h is = refl
    tested o false [] true h is = refl
    tested o false [] false h is = absurd (true≢false (sym (h.1 refl)))
    tested o false (x ∷ xs) b h is = absurd cc

    by : (o : Option PlannedObserver) → map (λ x. x.now) found ≡ filter hears (cons_option o []) → not b ≡ is_heard_at hears o
    by None is = none found b empty is
      where
        none : (found : List (Bor PlannedObserver)) (b : Bool) → IsTrue b ↔ (found ≡ []) → map (λ x. x.now) found ≡ [] → not b ≡ false
        none [] true h is = refl
        none [] false h is = absurd (true≢false (sym (h.1 refl)))
        none (x ∷ xs) b h is = absurd cc
    by (Some o) is = tested o (hears o) found b empty is

-- behind the last one there is none
pub none_behind : {X : Type 0} (xs : List X) (i : ℕ) → length xs ≤ i → slice_get xs i ≡ None
none_behind [] i le = refl
none_behind (x ∷ xs) zero le = absurd (omega (arith, le))
none_behind (x ∷ xs) (suc i) le = let less : length xs ≤ i = omega (arith, le) in none_behind xs i less

-- ---- what is so of each

module _ (P : Observer → Type 0) (hears : PlannedObserver → Bool) where
  heard_so : (os : List PlannedObserver) (ns : List Observer) → All P ns → All P (heard_in hears os ns)
  heard_so os [] a = All-nil P
  heard_so [] (n ∷ ns) a = All-nil P
  heard_so (o ∷ os) (n ∷ ns) a = by (hears o) (heard_so os ns (λ k d lt. a (suc k) d (omega (arith, lt))))
    where
      by : (b : Bool) → All P (heard_in hears os ns) → All P (cons_option (cond b (Some n) None) (heard_in hears os ns))
      by true rest = All-cons P n (heard_in hears os ns) (a zero n (omega arith)) rest
      by false rest = rest

  pub groups_so : (gs : List ObserverGroup) (nss : List (List Observer)) → AllZip (λ g ns. All P ns) gs nss → All (All P) (heard_groups hears gs nss)
  groups_so [] [] a = All-nil (All P)
  groups_so [] (ns ∷ nss) a = absurd a
  groups_so (g ∷ gs) [] a = absurd a
  groups_so (g ∷ gs) (ns ∷ nss) a = by (heard_in hears g.observers ns) (heard_so g.observers ns a.0) (groups_so gs nss a.1)
    where
      by : (hs : List Observer) → All P hs → All (All P) (heard_groups hears gs nss) → All (All P) (cons_option (if_any hs) (heard_groups hears gs nss))
      by [] all rest = rest
      by (h ∷ hs) all rest = All-cons (All P) (h ∷ hs) (heard_groups hears gs nss) all rest

-- ---- as the machine sees them

abbrev first_or : {X : Type 0} → X → List X → X
first_or d [] = d
first_or d (x ∷ xs) = x

abbrev others : {X : Type 0} → List X → List X
others [] = []
others (x ∷ xs) = xs

module _ (told : Observer → machine.Observer) (seen : PlannedObserver → machine.Observer) (hears : PlannedObserver → Bool) where
  heard_same : (os : List PlannedObserver) (ns : List Observer) → map told ns ≡ map seen os → map told (heard_in hears os ns) ≡ map seen (filter hears os)
  heard_same [] [] e = refl
  heard_same [] (n ∷ ns) e = refl
  heard_same (o ∷ os) [] e = absurd cc
  heard_same (o ∷ os) (n ∷ ns) e = by (hears o) (heard_same os ns (ap others e))
    where
      by : (b : Bool) → map told (heard_in hears os ns) ≡ map seen (filter hears os) → map told (cons_option (cond b (Some n) None) (heard_in hears os ns)) ≡ map seen (cond b (o ∷ filter hears os) (filter hears os))
      by true rest = ap (λ x. x ∷ map told (heard_in hears os ns)) (ap (first_or (seen o)) e) ∙ ap (λ xs. seen o ∷ xs) rest
      by false rest = rest

  pub groups_same : (gs : List ObserverGroup) (nss : List (List Observer)) → AllZip (λ g ns. map told ns ≡ map seen g.observers) gs nss → map (map told) (heard_groups hears gs nss) ≡ map (map seen) (heard_among hears gs)
  groups_same [] [] a = refl
  groups_same [] (ns ∷ nss) a = absurd a
  groups_same (g ∷ gs) [] a = absurd a
  groups_same (g ∷ gs) (ns ∷ nss) a = by (heard_in hears g.observers ns) (filter hears g.observers) (heard_same g.observers ns a.0) (groups_same gs nss a.1)
    where
      by : (hs : List Observer) (os : List PlannedObserver) → map told hs ≡ map seen os → map (map told) (heard_groups hears gs nss) ≡ map (map seen) (heard_among hears gs)
          → map (map told) (cons_option (if_any hs) (heard_groups hears gs nss)) ≡ map (map seen) (cond (not (has_none os)) (os ∷ heard_among hears gs) (heard_among hears gs))
      by [] [] e rest = rest
      by [] (o ∷ os) e rest = absurd cc
      by (h ∷ hs) [] e rest = absurd cc
      by (h ∷ hs) (o ∷ os) e rest = ap (λ x. x ∷ map (map told) (heard_groups hears gs nss)) e ∙ ap (λ xs. map seen (o ∷ os) ∷ xs) rest
