-- The way through a script by the places of its steps.
use Rattle.std.proofs.Common.{◌≡◌, ◌∙◌, refl, ℕ, zero, suc, ◌+◌, ◌-◌, ◌<◌, ◌≤◌, nat_le, length-append, get_or, Bool, true, false, List, [], ◌∷◌, ◌++◌, length, drop, fold, map, slice_get, unwrap_or, option_map, Option, Some, None, ap, sym, arith, if◌then◌else◌}
use Rattle.std.proofs.Math.Seq.{drop-length, drop-nil, drop-append-add}
use Rattle.std.proofs.Math.ListN.{drop_of_length-le}
use Rattle.std.proofs.lemmas.List.{length-drop}
use Rattle.std.proofs.lemmas.List.Sums.{fold-append}
use Rattle.std.specs.Borrow.{Bor}
use Rattle.std.specs.List.{AllByRecursion}
use Rattle.std.specs.Option.{option_copied}
use Rattle.std.proofs.lemmas.Option.{same_Some}
use Rattle.std.proofs.lemmas.Option.{slice_get-map, slice_get_past, none-some}
use Rattle.cdi_base.specs.declared.act.Answer.{Answer}
use Rattle.cdi_bodies.specs.Answers.{threw, exceptions_from}
use Rattle.cdi_script.specs.Places.{places_from, counts_from}
use Rattle.cdi_script.specs.Reached.{is_wanted, from_next, passed, after_answer, reached}
use Rattle.cdi_script.specs.declared.step.Step.{Step}

-- the steps from each wanted one on
abbrev pub stops : Bool → List Step → List (List Step)
stops c [] = []
stops c (s ∷ ss) = if is_wanted c s then (s ∷ ss) ∷ stops c ss else stops c ss

-- the one behind so many, or none
abbrev pub stop_at : List (List Step) → ℕ → List Step
stop_at all n = unwrap_or (slice_get all n) []

pub from_first : (c : Bool) (ss : List Step) → from_next c ss ≡ stop_at (stops c ss) 0
from_first c [] = refl
from_first c (s ∷ ss) = by (is_wanted c s) (from_first c ss)
  where
    by : (w : Bool) → from_next c ss ≡ stop_at (stops c ss) 0
        → (if w then s ∷ ss else from_next c ss) ≡ stop_at (if w then (s ∷ ss) ∷ stops c ss else stops c ss) 0
    by true e = refl
    by false e = e

nothing_at : {X : Type 0} (n : ℕ) → slice_get {X = X} [] n ≡ None
nothing_at n = slice_get_past [] n (omega arith)

one_less : {X : Type 0} (x : X) (xs : List X) (n : ℕ) → slice_get (x ∷ xs) (n + 1) ≡ slice_get xs n
one_less x xs n = let one : n + 1 ≡ suc n = omega arith in ap (λ k. slice_get (x ∷ xs) k) one

-- behind a stop the next one is the first
next_stop : (c : Bool) (ss : List Step) (n : ℕ) → stop_at (stops c (passed (from_next c ss))) n ≡ stop_at (stops c ss) (n + 1)
next_stop c [] n = ap (λ o. unwrap_or o []) (nothing_at n ∙ sym (nothing_at (n + 1)))
next_stop c (s ∷ ss) n = by (is_wanted c s) (next_stop c ss n)
  where
    by : (w : Bool) → stop_at (stops c (passed (from_next c ss))) n ≡ stop_at (stops c ss) (n + 1)
        → stop_at (stops c (passed (if w then s ∷ ss else from_next c ss))) n ≡ stop_at (if w then (s ∷ ss) ∷ stops c ss else stops c ss) (n + 1)
    by true e = sym (ap (λ o. unwrap_or o []) (one_less (s ∷ ss) (stops c ss) n))
    by false e = e

one_longer : {X : Type 0} (xs : List X) → length xs + 1 ≡ suc (length xs)
one_longer xs = omega arith

-- so many answers and one more that are no exceptions
pub quietly : (bs : List Answer) (a : Answer) (left : List Step) → AllByRecursion (λ b. threw b ≡ false) (a ∷ bs)
    → fold after_answer left (a ∷ bs) ≡ stop_at (stops false (passed left)) (length bs)
quietly [] a left quiet = ap (λ t. from_next t (passed left)) quiet.0 ∙ from_first false (passed left)
quietly (b ∷ bs) a left quiet =
    quietly bs b (after_answer left a) quiet.1
    ∙ ap (λ t. stop_at (stops false (passed (from_next t (passed left)))) (length bs)) quiet.0
    ∙ next_stop false (passed left) (length bs)
    ∙ ap (λ n. stop_at (stops false (passed left)) n) (one_longer bs)

drop_next : {X : Type 0} (xs : List X) (p : ℕ) → drop (p + 1) xs ≡ drop 1 (drop p xs)
drop_next xs zero = refl
drop_next [] (suc p) = drop-nil (suc p + 1) ∙ sym (ap (λ ys. drop 1 ys) (drop-nil (suc p)))
drop_next (x ∷ xs) (suc p) = let one : suc p + 1 ≡ suc (p + 1) = omega arith in ap (λ n. drop n (x ∷ xs)) one ∙ drop_next xs p

-- the wanted steps from a place on, by their places
module _ (all : List Step) where
  one_further : (p : ℕ) (s : Step) (ss : List Step) → drop p all ≡ s ∷ ss → drop (p + 1) all ≡ ss
  one_further p s ss e = drop_next all p ∙ ap (λ xs. drop 1 xs) e

  -- one place more, if the step there is wanted
  stops_with : (w : Bool) (p : ℕ) (s : Step) (ss : List Step) (ps : List ℕ) (those : List (List Step))
      → drop p all ≡ s ∷ ss → map (λ q. drop q all) ps ≡ those
      → map (λ q. drop q all) (if w then p ∷ ps else ps) ≡ (if w then (s ∷ ss) ∷ those else those)
  stops_with true p s ss ps those e rest = ap (λ xs. xs ∷ map (λ q. drop q all) ps) e ∙ ap (λ xs. (s ∷ ss) ∷ xs) rest
  stops_with false p s ss ps those e rest = rest

  pub stops_of : (c : Bool) (p : ℕ) (ss : List Step) → drop p all ≡ ss → map (λ q. drop q all) (places_from c p ss) ≡ stops c ss
  stops_of c p [] e = refl
  stops_of c p (s ∷ ss) e =
      stops_with (is_wanted c s) p s ss (places_from c (p + 1) ss) (stops c ss) e
      (stops_of c (p + 1) ss (one_further p s ss e))

  -- the place of the step behind so many, or the end
  pub place_of : (c : Bool) (p n : ℕ) → drop (unwrap_or (slice_get (places_from c p (drop p all)) n) (length all)) all ≡ stop_at (stops c (drop p all)) n
  place_of c p n =
      by (slice_get (places_from c p (drop p all)) n)
      ∙ ap (λ o. unwrap_or o []) (sym (slice_get-map (λ q. drop q all) (places_from c p (drop p all)) n))
      ∙ ap (λ xs. unwrap_or (slice_get xs n) []) (stops_of c p (drop p all) refl)
    where
      by : (o : Option ℕ) → drop (unwrap_or o (length all)) all ≡ unwrap_or (option_map (λ q. drop q all) o) []
      by (Some q) = refl
      by None = drop-length all

-- ---- counts

first_count : (w : Bool) (k : ℕ) (xs ys : List ℕ) (q : ℕ) → slice_get (if w then k ∷ xs else k ∷ ys) zero ≡ Some q → k ≡ q
first_count true k xs ys q e = same_Some k q e
first_count false k xs ys q e = same_Some k q e

later_count : (w : Bool) (k : ℕ) (xs ys : List ℕ) (p q : ℕ) → slice_get (if w then k ∷ xs else k ∷ ys) (suc p) ≡ Some q
    → (slice_get xs p ≡ Some q → k + 1 ≤ q) → (slice_get ys p ≡ Some q → k ≤ q) → k ≤ q
later_count true k xs ys p q e one none = let le = one e in omega (arith, le)
later_count false k xs ys p q e one none = none e

at_least : (c : Bool) (k : ℕ) (ss : List Step) (p q : ℕ) → slice_get (counts_from c k ss) p ≡ Some q → k ≤ q
at_least c k [] zero q e = let same = same_Some k q e in omega (arith, same)
at_least c k [] (suc p) q e = absurd (none-some q e)
at_least c k (s ∷ ss) zero q e =
    let same = first_count (is_wanted c s) k (counts_from c (k + 1) ss) (counts_from c k ss) q e in omega (arith, same)
at_least c k (s ∷ ss) (suc p) q e =
    later_count (is_wanted c s) k (counts_from c (k + 1) ss) (counts_from c k ss) p q e (at_least c (k + 1) ss p q) (at_least c k ss p q)

left_later : (w : Bool) (k : ℕ) (xs ys : List ℕ) (p j first : ℕ) (ps rest : List ℕ)
    → slice_get (if w then k ∷ xs else k ∷ ys) (suc p) ≡ Some (k + j)
    → (slice_get xs p ≡ Some (k + j) → k + 1 ≤ k + j)
    → ((i : ℕ) → slice_get xs p ≡ Some (k + 1 + i) → drop i ps ≡ rest)
    → (slice_get ys p ≡ Some (k + j) → drop j ps ≡ rest)
    → drop j (if w then first ∷ ps else ps) ≡ rest
left_later true k xs ys p zero first ps rest e more one none = let le = more e in absurd (omega (arith, le))
left_later true k xs ys p (suc j) first ps rest e more one none =
    let same : k + suc j ≡ k + 1 + j = omega arith in one j (e ∙ ap (λ n. Some n) same)
left_later false k xs ys p j first ps rest e more one none = none e

-- where so many stand before a place, those behind it are left of all
left_behind : (c : Bool) (first k : ℕ) (ss : List Step) (p j : ℕ) → slice_get (counts_from c k ss) p ≡ Some (k + j)
    → drop j (places_from c first ss) ≡ places_from c (first + p) (drop p ss)
left_behind c first k [] zero j e = drop-nil j
left_behind c first k [] (suc p) j e = absurd (none-some (k + j) e)
left_behind c first k (s ∷ ss) zero j e =
    let same = first_count (is_wanted c s) k (counts_from c (k + 1) ss) (counts_from c k ss) (k + j) e in
    let none : j ≡ 0 = omega (arith, same) in
    let here : first ≡ first + 0 = omega arith in
    ap (λ n. drop n (places_from c first (s ∷ ss))) none ∙ ap (λ n. places_from c n (s ∷ ss)) here
left_behind c first k (s ∷ ss) (suc p) j e =
    let place : first + 1 + p ≡ first + suc p = omega arith in
    left_later (is_wanted c s) k (counts_from c (k + 1) ss) (counts_from c k ss) p j first (places_from c (first + 1) ss)
    (places_from c (first + suc p) (drop p ss)) e
    (at_least c (k + 1) ss p (k + j))
    (λ i is. left_behind c (first + 1) (k + 1) ss p i is ∙ ap (λ n. places_from c n (drop p ss)) place)
    (λ is. left_behind c (first + 1) k ss p j is ∙ ap (λ n. places_from c n (drop p ss)) place)

first_there : (w : Bool) (k : ℕ) (xs ys : List ℕ) → slice_get (if w then k ∷ xs else k ∷ ys) zero ≡ None → ⊥
first_there true k xs ys e = none-some k (sym e)
first_there false k xs ys e = none-some k (sym e)

later_none : (w : Bool) (k : ℕ) (xs ys : List ℕ) (p : ℕ) {Q : Type 0} → slice_get (if w then k ∷ xs else k ∷ ys) (suc p) ≡ None
    → (slice_get xs p ≡ None → Q) → (slice_get ys p ≡ None → Q) → Q
later_none true k xs ys p e one none = one e
later_none false k xs ys p e one none = none e

-- a place that isn't counted is behind the end
none_left : (c : Bool) (k : ℕ) (ss : List Step) (p : ℕ) → slice_get (counts_from c k ss) p ≡ None → drop p ss ≡ []
none_left c k [] p e = drop-nil p
none_left c k (s ∷ ss) zero e = absurd (first_there (is_wanted c s) k (counts_from c (k + 1) ss) (counts_from c k ss) e)
none_left c k (s ∷ ss) (suc p) e =
    later_none (is_wanted c s) k (counts_from c (k + 1) ss) (counts_from c k ss) p e (none_left c (k + 1) ss p) (none_left c k ss p)

get_behind : {X : Type 0} (xs : List X) (j n : ℕ) → slice_get (drop j xs) n ≡ slice_get xs (j + n)
get_behind xs zero n = let same : n ≡ 0 + n = omega arith in ap (λ k. slice_get xs k) same
get_behind [] (suc j) n = ap (λ ys. slice_get ys n) (drop-nil (suc j)) ∙ nothing_at n ∙ sym (nothing_at (suc j + n))
get_behind (x ∷ xs) (suc j) n =
    let one : suc (j + n) ≡ suc j + n = omega arith in
    get_behind xs j n ∙ ap (λ k. slice_get (x ∷ xs) k) one

-- the one behind so many from a place on is found by how many stand before that
pub found_at : (c : Bool) (ss : List Step) (p before n : ℕ) → slice_get (counts_from c 0 ss) p ≡ Some before
    → slice_get (places_from c 0 ss) (before + n) ≡ slice_get (places_from c p (drop p ss)) n
found_at c ss p before n e =
    let none : before ≡ 0 + before = omega arith in
    let start : 0 + p ≡ p = omega arith in
    sym (get_behind (places_from c 0 ss) before n)
    ∙ ap (λ ps. slice_get ps n) (left_behind c 0 0 ss p before (e ∙ ap (λ k. Some k) none) ∙ ap (λ k. places_from c k (drop p ss)) start)

pub none_at : (c : Bool) (ss : List Step) (p n : ℕ) → slice_get (counts_from c 0 ss) p ≡ None
    → None ≡ slice_get (places_from c p (drop p ss)) n
none_at c ss p n e =
    sym (nothing_at n) ∙ ap (λ xs. slice_get (places_from c p xs) n) (sym (none_left c 0 ss p e))

-- ---- bounds

below_later : (w : Bool) (p : ℕ) (ps : List ℕ) (n q end : ℕ) → p < end → slice_get (if w then p ∷ ps else ps) n ≡ Some q
    → ((k : ℕ) → slice_get ps k ≡ Some q → q < end) → q < end
below_later true p ps zero q end lt e later = let same = same_Some p q e in omega (arith, lt, same)
below_later true p ps (suc n) q end lt e later = later n e
below_later false p ps n q end lt e later = later n e

below_end : (c : Bool) (p : ℕ) (ss : List Step) (n q : ℕ) → slice_get (places_from c p ss) n ≡ Some q → q < p + length ss
below_end c p [] n q e = absurd (none-some q (sym (nothing_at n) ∙ e))
below_end c p (s ∷ ss) n q e =
    below_later (is_wanted c s) p (places_from c (p + 1) ss) n q (p + length (s ∷ ss)) (omega arith) e
    (λ k is. let lt = below_end c (p + 1) ss k q is in omega (arith, lt))

-- the place of a step is that of a step, or the end
pub within_all : (c : Bool) (all : List Step) (p n : ℕ) → unwrap_or (slice_get (places_from c p (drop p all)) n) (length all) ≤ length all
within_all c all p n = by (slice_get (places_from c p (drop p all)) n) refl
  where
    by : (o : Option ℕ) → slice_get (places_from c p (drop p all)) n ≡ o → unwrap_or o (length all) ≤ length all
    by None e = omega arith
    by (Some q) e = inside (nat_le p (length all)) refl
      where
        inside : (t : Bool) → nat_le p (length all) ≡ t → q ≤ length all
        inside true le =
            let lt = below_end c p (drop p all) n q e in
            let left = length-drop p all in grind (arith, lt, left, le)
        inside false le =
            let none : drop p all ≡ [] = drop_of_length-le all (grind (arith, le)) in
            absurd (none-some q (sym (nothing_at n) ∙ ap (λ xs. slice_get (places_from c p xs) n) (sym none) ∙ e))

-- ---- answers

passed_drop : (xs : List Step) → passed xs ≡ drop 1 xs
passed_drop [] = refl
passed_drop (x ∷ xs) = refl

-- where so many and one more quiet answers lead
pub reached_by : (all : List Step) (p n : ℕ) (answers : List Answer) → length answers ≡ n + 1 → AllByRecursion (λ answer. threw answer ≡ false) answers
    → drop (unwrap_or (slice_get (places_from false (p + 1) (drop (p + 1) all)) n) (length all)) all ≡ fold after_answer (drop p all) answers
reached_by all p n [] many quiet = absurd (omega (arith, many))
reached_by all p n (a ∷ bs) many quiet =
    let count : n ≡ length bs = omega (arith, many) in
    place_of all false (p + 1) n
    ∙ ap (λ xs. stop_at (stops false xs) n) (drop_next all p ∙ sym (passed_drop (drop p all)))
    ∙ ap (λ k. stop_at (stops false (passed (drop p all))) k) count
    ∙ sym (quietly bs a (drop p all) quiet)

-- where an exception leads
pub caught : (all : List Step) (p : ℕ) (a : Answer) → threw a ≡ true → from_next true (drop (p + 1) all) ≡ after_answer (drop p all) a
caught all p a thrown =
    ap (λ xs. from_next true xs) (drop_next all p ∙ sym (passed_drop (drop p all))) ∙ ap (λ t. from_next t (passed (drop p all))) (sym thrown)

-- quiet answers, an exception, and what follows
pub record IsSplit (p : ℕ) (answers : List Answer) (e : ℕ) (es : List ℕ) : Type 0 where
  pub quiet : List Answer
  pub thrown : Answer
  pub rest : List Answer
  pub are : answers ≡ quiet ++ thrown ∷ rest
  pub place : p + length quiet ≡ e
  pub are_quiet : AllByRecursion (λ answer. threw answer ≡ false) quiet
  pub is_thrown : threw thrown ≡ true
  pub others : es ≡ exceptions_from (e + 1) rest

split_later : (t : Bool) (p : ℕ) (a : Answer) (answers : List Answer) (e : ℕ) (es : List ℕ) → threw a ≡ t
    → (if t then p ∷ exceptions_from (p + 1) answers else exceptions_from (p + 1) answers) ≡ e ∷ es
    → (exceptions_from (p + 1) answers ≡ e ∷ es → IsSplit (p + 1) answers e es) → IsSplit p (a ∷ answers) e es
split_later true p a answers e es thrown is later =
    let here : p ≡ e = grind (arith, is) in
    let others : exceptions_from (p + 1) answers ≡ es = grind (arith, is) in
    record {
      quiet = [];
      thrown = a;
      rest = answers;
      are = refl;
      place = omega (arith, here);
      are_quiet = tt;
      is_thrown = thrown;
      others = sym others ∙ ap (λ n. exceptions_from (n + 1) answers) here;
    }
split_later false p a answers e es quiet is later =
    let s = later is in
    let place : p + length (a ∷ s.quiet) ≡ e = (let at = s.place in omega (arith, at)) in
    record {
      quiet = a ∷ s.quiet;
      thrown = s.thrown;
      rest = s.rest;
      are = ap (λ xs. a ∷ xs) s.are;
      place = place;
      are_quiet = (quiet, s.are_quiet);
      is_thrown = s.is_thrown;
      others = s.others;
    }

pub split : (p : ℕ) (answers : List Answer) (e : ℕ) (es : List ℕ) → exceptions_from p answers ≡ e ∷ es → IsSplit p answers e es
split p [] e es is = absurd (grind (arith, is))
split p (a ∷ answers) e es is = split_later (threw a) p a answers e es refl is (split (p + 1) answers e es)

quiet_later : (t : Bool) (p : ℕ) (a : Answer) (answers : List Answer) → threw a ≡ t
    → (if t then p ∷ exceptions_from (p + 1) answers else exceptions_from (p + 1) answers) ≡ []
    → (exceptions_from (p + 1) answers ≡ [] → AllByRecursion (λ answer. threw answer ≡ false) answers)
    → AllByRecursion (λ answer. threw answer ≡ false) (a ∷ answers)
quiet_later true p a answers thrown is later = absurd (grind (arith, is))
quiet_later false p a answers quiet is later = (quiet, later is)

-- without exceptions all are quiet
pub all_quiet : (p : ℕ) (answers : List Answer) → exceptions_from p answers ≡ [] → AllByRecursion (λ answer. threw answer ≡ false) answers
all_quiet p [] is = tt
all_quiet p (a ∷ answers) is = quiet_later (threw a) p a answers refl is (all_quiet (p + 1) answers)

pub drop_behind : {X : Type 0} (xs : List X) (n m : ℕ) → drop m (drop n xs) ≡ drop (n + m) xs
drop_behind xs zero m = let same : m ≡ 0 + m = omega arith in ap (λ k. drop k xs) same
drop_behind [] (suc n) m = ap (λ ys. drop m ys) (drop-nil (suc n)) ∙ drop-nil m ∙ sym (drop-nil (suc n + m))
drop_behind (x ∷ xs) (suc n) m =
    let one : suc (n + m) ≡ suc n + m = omega arith in drop_behind xs n m ∙ ap (λ k. drop k (x ∷ xs)) one

-- ---- the loop over the exceptions

-- what is known before each: where the answers so far lead, and which exceptions are to come
pub record IsOnCourse (all : List Step) (answers : List Answer) (exceptions : List ℕ) (place done : ℕ) : Type 0 where
  pub leads : fold after_answer (drop place all) (drop done answers) ≡ reached all answers
  pub to_come : exceptions ≡ exceptions_from done (drop done answers)
  pub place_within : place ≤ 256
  pub done_within : done ≤ length answers

-- one exception further
module _ (all : List Step) (answers : List Answer) (place done e : ℕ) (es : List ℕ) (on : IsOnCourse all answers (e ∷ es) place done) where
  at : IsSplit done (drop done answers) e es
  at = split done (drop done answers) e es (sym on.to_come)

  pub not_before : done ≤ e
  not_before = let is = at.place in omega (arith, is)

  pub inside : e < length answers
  inside =
      let is = at.place in
      let long : length (drop done answers) ≡ length at.quiet + suc (length at.rest) = ap (λ xs. length xs) at.are ∙ length-append at.quiet (at.thrown ∷ at.rest) in
      let left = length-drop done answers in
      let le = on.done_within in
      grind (arith, is, long, left, le)

  rest_is : at.rest ≡ drop (e + 1) answers
  rest_is =
      let is = at.place in
      let there : done + (length at.quiet + 1) ≡ e + 1 = omega (arith, is) in
      sym (drop-append-add at.quiet (at.thrown ∷ at.rest) 1) ∙ ap (λ xs. drop (length at.quiet + 1) xs) (sym at.are)
      ∙ drop_behind answers done (length at.quiet + 1) ∙ ap (λ n. drop n answers) there

  pub further : (thrown_at next : ℕ)
      → ((quiet : List Answer) → length quiet ≡ e - done → AllByRecursion (λ answer. threw answer ≡ false) quiet
      → drop thrown_at all ≡ fold after_answer (drop place all) quiet)
      → drop next all ≡ from_next true (drop (thrown_at + 1) all) → next ≤ 256
      → IsOnCourse all answers es next (e + 1)
  further thrown_at next quietly_to nexts within =
      let is = at.place in
      let count : length at.quiet ≡ e - done = omega (arith, is) in
      let there = quietly_to at.quiet count at.are_quiet in
      let lt = inside in
      record {
        leads =
            ap (λ xs. fold after_answer xs (drop (e + 1) answers)) (nexts ∙ caught all thrown_at at.thrown at.is_thrown ∙ ap (λ xs. after_answer xs at.thrown) there)
            ∙ ap (λ xs. fold after_answer (after_answer (fold after_answer (drop place all) at.quiet) at.thrown) xs) (sym rest_is)
            ∙ sym (fold-append after_answer (drop place all) at.quiet (at.thrown ∷ at.rest))
            ∙ ap (λ xs. fold after_answer (drop place all) xs) (sym at.are)
            ∙ on.leads;
        to_come = at.others ∙ ap (λ xs. exceptions_from (e + 1) xs) rest_is;
        place_within = within;
        done_within = omega (arith, lt);
      }

pub next_item : (xs : List ℕ) (i : ℕ) → i < length xs → drop i xs ≡ get_or xs i 0 ∷ drop (i + 1) xs
next_item [] i lt = absurd (omega (arith, lt))
next_item (x ∷ xs) zero lt = refl
next_item (x ∷ xs) (suc i) lt =
    let one : suc (i + 1) ≡ suc i + 1 = omega arith in
    next_item xs i (omega (arith, lt)) ∙ ap (λ k. get_or xs i 0 ∷ drop k (x ∷ xs)) one

-- when no exception is left
pub at_last : (all : List Step) (answers : List Answer) (place done i : ℕ) (exceptions : List ℕ)
    → IsOnCourse all answers (drop i exceptions) place done → length exceptions ≤ i
    → AllByRecursion (λ answer. threw answer ≡ false) (drop done answers)
at_last all answers place done i exceptions on past =
    all_quiet done (drop done answers) (sym on.to_come ∙ drop_of_length-le exceptions past)

-- ---- the step at a place

pub step_at : (all : List Step) (p : ℕ) (s : Step) → slice_get all p ≡ Some s → drop p all ≡ s ∷ drop (p + 1) all
step_at [] p s e = absurd (none-some s (sym (nothing_at p) ∙ e))
step_at (x ∷ xs) zero s e = ap (λ y. y ∷ xs) (same_Some x s e)
step_at (x ∷ xs) (suc p) s e =
    let one : suc (p + 1) ≡ suc p + 1 = omega arith in
    step_at xs p s e ∙ ap (λ k. s ∷ drop k (x ∷ xs)) one

pub end_at : (all : List Step) (p : ℕ) → slice_get all p ≡ None → drop p all ≡ []
end_at [] p e = drop-nil p
end_at (x ∷ xs) zero e = absurd (none-some x (sym e))
end_at (x ∷ xs) (suc p) e = end_at xs p e

pub none_of : {X : Type 0} (o : Option (Bor X)) → ((x : Bor X) → o ≡ Some x → ⊥) → option_copied o ≡ None
none_of None none = refl
none_of (Some x) none = absurd (none x refl)
