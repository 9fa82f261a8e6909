-- Walks that mark each node that they come to.
use Rattle.std.proofs.Common.{◌≡◌, ◌∙◌, ◌↔◌, IsTrue, ℕ, zero, suc, ◌+◌, ◌<◌, Bool, true, false, List, [], ◌∷◌, ◌++◌, length, set, replicate, refl, sym, ap, subst, ◌⊎◌, inl, inr, arith, get_or-set_same, get_or-set_other}
use Rattle.std.proofs.lemmas.Bool.{cases_Bool, cases_eq, cases_lt, true≢false}
use Rattle.std.proofs.lemmas.List.{get_or_past, length_push}
use Rattle.std.proofs.lemmas.List.Elements.{Contains-append_left, Contains-push, Contains-push_cases}
use Rattle.std.specs.List.{Contains}
use Rattle.cdi_paths.specs.Graph.{targets_of, IsGraph, Path, ProperPath}
use Rattle.cdi_paths.proofs.Paths.{edge_within}
use Rattle.cdi_paths.specs.Marks.{is_marked, unmarked_count, IsNewTarget, HasMarked, IsFound, IsClosed, HasWalked}

-- one mark more
pub marked_same : (marks : List Bool) (a : ℕ) → a < length marks → is_marked (set marks a true) a ≡ true
marked_same marks a lt = get_or-set_same marks a true false lt

pub marked_kept : (marks : List Bool) (t a : ℕ) → is_marked marks a ≡ true → is_marked (set marks t true) a ≡ true
marked_kept [] t a h = h
marked_kept (x ∷ marks) zero zero h = refl
marked_kept (x ∷ marks) zero (suc a) h = h
marked_kept (x ∷ marks) (suc t) zero h = h
marked_kept (x ∷ marks) (suc t) (suc a) h = marked_kept marks t a h

pub marked_cases : (marks : List Bool) (t a : ℕ) → is_marked (set marks t true) a ≡ true → (is_marked marks a ≡ true) ⊎ (t ≡ a)
marked_cases marks t a h = elim (cases_eq a t) [ inl e ↦ inr (sym e) | inr ne ↦ inl (sym (get_or-set_other marks t a true false ne) ∙ h) ]

plus_one : (n : ℕ) → n + 1 ≡ suc n
plus_one n = omega arith

suc_plus : (n m : ℕ) → n + 1 ≡ m → suc n + 1 ≡ suc m
suc_plus n m e = omega (arith, e)

count_set : (marks : List Bool) (t : ℕ) → t < length marks → is_marked marks t ≡ false → unmarked_count (set marks t true) + 1 ≡ unmarked_count marks
count_set [] t lt h = absurd (omega arith)
count_set (true ∷ marks) zero lt h = absurd (true≢false h)
count_set (false ∷ marks) zero lt h = plus_one (unmarked_count marks)
count_set (true ∷ marks) (suc t) lt h = count_set marks t (omega arith) h
count_set (false ∷ marks) (suc t) lt h = suc_plus _ _ (count_set marks t (omega arith) h)

pub none_yet : (old : List Bool) (ahead : List ℕ) → HasMarked [] old old ahead ahead
none_yet old ahead = record { kept = λ a h. h; all = λ a e. absurd (omega (arith, e.1)); marked = λ a h. inl h; waits = λ a h. h; added = λ a h. inl h; count = refl }

module _ (targets : List ℕ) (old new : List Bool) (ahead more : List ℕ) (so_far : HasMarked targets old new ahead more) (t : ℕ) where
  wider : (a : ℕ) → IsNewTarget targets old a → IsNewTarget (targets ++ t ∷ []) old a
  wider a n = record { listed = Contains-append_left targets (t ∷ []) a n.listed; unmarked = n.unmarked }

  pub target_known : is_marked new t ≡ true → HasMarked (targets ++ t ∷ []) old new ahead more
  target_known h = record {
    kept = so_far.kept;
    all = λ a e. elim (Contains-push_cases targets t a e) [ inl before ↦ so_far.all a before | inr same ↦ (let P : ℕ → Type 0 = λ b. is_marked new b ≡ true in subst P same h) ];
    marked = λ a m. elim (so_far.marked a m) [ inl was ↦ inl was | inr n ↦ inr (wider a n.0, n.1) ];
    waits = so_far.waits;
    added = λ a m. elim (so_far.added a m) [ inl was ↦ inl was | inr n ↦ inr (wider a n) ];
    count = so_far.count;
  }

  unmarked_before : is_marked new t ≡ false → is_marked old t ≡ false
  unmarked_before h = elim (cases_Bool (is_marked old t)) [ inl was ↦ absurd (true≢false (sym (so_far.kept t was) ∙ h)) | inr not ↦ not ]

  pub target_marked : t < length new → is_marked new t ≡ false → HasMarked (targets ++ t ∷ []) old (set new t true) ahead (more ++ t ∷ [])
  target_marked lt h = record {
    kept = λ a m. marked_kept new t a (so_far.kept a m);
    all = λ a e. elim (Contains-push_cases targets t a e) [
      | inl before ↦ marked_kept new t a (so_far.all a before)
      | inr same ↦ (let P : ℕ → Type 0 = λ b. is_marked (set new t true) b ≡ true in subst P same (marked_same new t lt))
    ];
    marked = λ a m. elim (marked_cases new t a m) [
      | inl was ↦ elim (so_far.marked a was) [ inl first ↦ inl first | inr n ↦ inr (wider a n.0, Contains-append_left more (t ∷ []) a n.1) ]
      | inr same ↦ (let P : ℕ → Type 0 = λ b. IsNewTarget (targets ++ t ∷ []) old b × Contains (more ++ t ∷ []) b in inr (subst P same (fresh, Contains-push more t)))
    ];
    waits = λ a m. Contains-append_left more (t ∷ []) a (so_far.waits a m);
    added = λ a m. elim (Contains-push_cases more t a m) [
      | inl was ↦ elim (so_far.added a was) [ inl first ↦ inl first | inr n ↦ inr (wider a n) ]
      | inr same ↦ (let P : ℕ → Type 0 = λ b. IsNewTarget (targets ++ t ∷ []) old b in inr (subst P same fresh))
    ];
    count = omega (arith, so_far.count, count_set new t lt h, length_push more t);
  }
    where
      fresh : IsNewTarget (targets ++ t ∷ []) old t
      fresh = record { listed = Contains-push targets t; unmarked = unmarked_before h }

-- a walk that is under way
pub record IsWalking (graph : List (List ℕ)) (root : ℕ) (old new : List Bool) (ahead : List ℕ) : Type 0 where
  pub len : length new ≡ length old
  pub kept : (a : ℕ) → IsTrue (is_marked old a) → IsTrue (is_marked new a)
  pub found : (a : ℕ) → IsTrue (is_marked new a) → IsTrue (is_marked old a) ⊎ IsFound graph old root a
  pub waits : (a : ℕ) → Contains ahead a → (a ≡ root) ⊎ IsFound graph old root a
  pub closed : (a b : ℕ) → (a ≡ root) ⊎ IsTrue (is_marked new a) → Contains (targets_of graph a) b → Contains ahead a ⊎ IsTrue (is_marked new b)

pub walk_begins : (graph : List (List ℕ)) (root : ℕ) (old : List Bool) → IsClosed graph old → IsWalking graph root old old (root ∷ [])
walk_begins graph root old closed = record {
  len = refl;
  kept = λ a h. h;
  found = λ a h. inl h;
  waits = λ a h. elim (Contains-push_cases [] root a h) [ inl none ↦ absurd (omega (arith, none.1)) | inr same ↦ inl (sym same) ];
  closed = λ a b h e. elim h [ inl same ↦ inl (let P : ℕ → Type 0 = λ c. Contains (root ∷ []) c in subst P (sym same) (Contains-push [] root)) | inr marked ↦ inr (closed a b marked e) ];
}

pub walk_ends : (graph : List (List ℕ)) (root : ℕ) (old new : List Bool) → IsWalking graph root old new [] → HasWalked graph root old new
walk_ends graph root old new w = record {
  kept = w.kept;
  found = w.found;
  begun = λ b e. elim (w.closed root b (inl refl) e) [ inl none ↦ absurd (omega (arith, none.1)) | inr marked ↦ marked ];
  closed = λ a b h e. elim (w.closed a b (inr h) e) [ inl none ↦ absurd (omega (arith, none.1)) | inr marked ↦ marked ];
}

pub walk_goes_on : (graph : List (List ℕ)) (root : ℕ) (old new next : List Bool) (ahead more : List ℕ) (a : ℕ) → IsWalking graph root old new (ahead ++ a ∷ []) → length next ≡ length new
    → HasMarked (targets_of graph a) new next ahead more → IsWalking graph root old next more
walk_goes_on graph root old new next ahead more a w len m = record {
  len = len ∙ w.len;
  kept = λ b h. m.kept b (w.kept b h);
  found = λ b h. elim (m.marked b h) [ inl was ↦ w.found b was | inr n ↦ inr (further b n.0) ];
  waits = λ b h. elim (m.added b h) [ inl was ↦ w.waits b (Contains-append_left ahead (a ∷ []) b was) | inr n ↦ inr (further b n) ];
  closed = λ b c h e. elim h [
    | inl same ↦ step b c (w.closed b c (inl same) e) e
    | inr marked ↦ elim (m.marked b marked) [ inl was ↦ step b c (w.closed b c (inr was) e) e | inr n ↦ inl n.1 ]
  ];
}
  where
    unmarked : (b : ℕ) → is_marked new b ≡ false → is_marked old b ≡ false
    unmarked b h = elim (cases_Bool (is_marked old b)) [ inl was ↦ absurd (true≢false (sym (w.kept b was) ∙ h)) | inr not ↦ not ]

    further : (b : ℕ) → IsNewTarget (targets_of graph a) new b → IsFound graph old root b
    further b n =
        elim (w.waits a (Contains-push ahead a)) [
          | inl same ↦ IsFound.first (record { listed = (let P : ℕ → Type 0 = λ c. Contains (targets_of graph c) b in subst P same n.listed); unmarked = unmarked b n.unmarked })
          | inr found ↦ IsFound.later found (record { listed = n.listed; unmarked = unmarked b n.unmarked })
        ]

    step : (b c : ℕ) → Contains (ahead ++ a ∷ []) b ⊎ IsTrue (is_marked new c) → Contains (targets_of graph b) c → Contains more b ⊎ IsTrue (is_marked next c)
    step b c (inr marked) e = inr (m.kept c marked)
    step b c (inl waits) e =
        elim (Contains-push_cases ahead a b waits) [
          | inl still ↦ inl (m.waits b still)
          | inr same ↦ inr (m.all c (let P : ℕ → Type 0 = λ d. Contains (targets_of graph d) c in subst P (sym same) e))
        ]

-- a walk from a node over a graph without marks comes to what lies behind
pub path_from_found : (graph : List (List ℕ)) (marks : List Bool) (root a : ℕ) → IsFound graph marks root a → ProperPath graph root a
path_from_found graph marks root a (IsFound.first n) = (a, n.listed, Path.here)
path_from_found graph marks root a (IsFound.later {a = b} f n) = let p = path_from_found graph marks root b f in (p.0, p.1, onward p.2 n.listed)
  where
    onward : {x y z : ℕ} → Path graph x y → Contains (targets_of graph y) z → Path graph x z
    onward Path.here e = Path.step e Path.here
    onward (Path.step f p) e = Path.step f (onward p e)

pub marked_by_path : (graph : List (List ℕ)) (marks : List Bool) (a b : ℕ) → IsClosed graph marks → Path graph a b → is_marked marks a ≡ true → is_marked marks b ≡ true
marked_by_path graph marks a b closed Path.here h = h
marked_by_path graph marks a b closed (Path.step {b = c} e p) h = marked_by_path graph marks c b closed p (closed a c h e)

-- each node on the way has a row
found_within : (graph : List (List ℕ)) → IsGraph graph → (marks : List Bool) (root a : ℕ) → IsFound graph marks root a → a < length graph
found_within graph ok marks root a (IsFound.first n) = edge_within graph ok root a n.listed
found_within graph ok marks root a (IsFound.later {a = b} f n) = edge_within graph ok b a n.listed

pub ahead_within : (graph : List (List ℕ)) (root : ℕ) (old new : List Bool) (ahead rest : List ℕ) (a : ℕ) → IsGraph graph → root < length graph → IsWalking graph root old new ahead → ahead ≡ rest ++ a ∷ [] → a < length graph
ahead_within graph root old new ahead rest a ok lt w is =
    elim (w.waits a (let P : List ℕ → Type 0 = λ xs. Contains xs a in subst P (sym is) (Contains-push rest a))) [
      | inl same ↦ omega (arith, same)
      | inr found ↦ found_within graph ok old root a found
    ]

-- before the first mark
pub unmarked : (n a : ℕ) → is_marked (replicate n false) a ≡ false
unmarked zero a = refl
unmarked (suc n) zero = refl
unmarked (suc n) (suc a) = unmarked n a

pub none_closed : (graph : List (List ℕ)) (n : ℕ) → IsClosed graph (replicate n false)
none_closed graph n a b h e = absurd (true≢false (sym h ∙ unmarked n a))

-- past the last row there is neither a mark nor a path
pub told_all : (graph : List (List ℕ)) (marks : List Bool) → length marks ≡ length graph → ((a : ℕ) → a < length graph → IsTrue (is_marked marks a) ↔ ProperPath graph a a)
    → (a : ℕ) → IsTrue (is_marked marks a) ↔ ProperPath graph a a
told_all graph marks len told a = elim (cases_lt a (length graph)) [
  | inl lt ↦ told a lt
  | inr past ↦ (
      let unmarked : is_marked marks a ≡ false = get_or_past marks a false (omega arith) in
      let none : targets_of graph a ≡ [] = get_or_past graph a [] past in
      (λ h. absurd (true≢false (sym h ∙ unmarked)), λ p. absurd (omega (arith, p.1.1, ap length none)))
      )
]
