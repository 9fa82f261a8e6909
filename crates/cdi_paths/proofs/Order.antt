-- A walk in depth that is under way.
use Rattle.std.proofs.Common.{◌≡◌, ◌∙◌, IsTrue, ℕ, zero, suc, ◌+◌, ◌<◌, ◌≤◌, Bool, true, false, if◌then◌else◌, List, [], ◌∷◌, ◌++◌, length, get_or, set, map, replicate, length-append, length-set, refl, sym, ap, subst, ◌⊎◌, inl, inr, arith}
use Rattle.std.proofs.lemmas.Bool.{cases_Bool, true≢false}
use Rattle.std.proofs.lemmas.List.{length_push, length-map, get_or_push}
use Rattle.std.proofs.lemmas.List.Elements.{Contains-append_left, Contains-push, Contains-push_cases, Contains-get_or}
use Rattle.std.specs.List.{Contains}
use Rattle.cdi_paths.specs.declared.finish_order.Step.{Step}
use Rattle.cdi_paths.specs.declared.finish_order.Step.TheVariants.{Enter, Leave}
use Rattle.cdi_paths.specs.Graph.{targets_of, IsGraph, Path}
use Rattle.cdi_paths.specs.Marks.{is_marked}
use Rattle.cdi_paths.specs.FinishOrder.{IsAt, IsInOrder, IsFinishOrder}
use Rattle.cdi_paths.specs.Steps.{HasEntries}
use Rattle.cdi_paths.proofs.Paths.{edge_within, join}
use Rattle.cdi_paths.proofs.Steps.{at_left, at_push_cases, at_right, node_of, not_both, entry_of, entered_cases}
use Rattle.cdi_paths.proofs.Walks.{unmarked, marked_same, marked_kept, marked_cases}

pub record IsOrdering (graph : List (List ℕ)) (marks : List Bool) (steps : List Step) (order : List ℕ) : Type 0 where
  pub len : length marks ≡ length graph
  pub within : (s : Step) → Contains steps s → node_of s < length graph
  pub entered : (a : ℕ) → IsTrue (is_marked marks a) → Contains order a ⊎ Contains steps (Leave a)
  pub ahead : (a : ℕ) → a < length graph → IsTrue (is_marked marks a) ⊎ Contains steps (Enter a)
  -- what is left later leads to what is done before
  pub above : (i j a : ℕ) (s : Step) → IsAt steps i (Leave a) → IsAt steps j s → i < j → Path graph a (node_of s)
  pub awaited : (i a b : ℕ) → IsAt steps i (Leave a) → Contains (targets_of graph a) b → IsTrue (is_marked marks b) ⊎ ((j : ℕ) × (i < j) × IsAt steps j (Enter b))
  pub nodes : (a : ℕ) → Contains order a → a < length graph
  pub done : (a b : ℕ) → Contains order a → Contains (targets_of graph a) b → IsTrue (is_marked marks b)
  pub under_way : (i j a b c : ℕ) → IsAt order i a → IsAt order j b → i ≤ j → Contains (targets_of graph a) c → Contains steps (Leave c) → Path graph c b
  pub ordered : IsInOrder graph order

pub order_begins : (graph : List (List ℕ)) (steps : List Step) → HasEntries (length graph) steps → IsOrdering graph (replicate (length graph) false) steps []
order_begins graph steps e = record {
  len = none_len (length graph);
  within = λ s c. (let o = e.only s c in let same : node_of s ≡ o.0 = ap node_of o.2 in omega (arith, same, o.1));
  entered = λ a h. absurd (true≢false (sym h ∙ unmarked (length graph) a));
  ahead = λ a lt. inr (e.all a lt);
  above = λ i j a s h k lt. absurd (no_leave a (i, h.0, h.1));
  awaited = λ i a b h c. absurd (no_leave a (i, h.0, h.1));
  nodes = λ a c. absurd (omega (arith, c.1));
  done = λ a b c. absurd (omega (arith, c.1));
  under_way = λ i j a b c h k le e w. absurd (omega (arith, h.0));
  ordered = λ i j k a b c h. absurd (omega (arith, h.0));
}
  where
    none_len : (n : ℕ) → length (replicate n false) ≡ n
    none_len zero = refl
    none_len (suc n) = ap suc (none_len n)

    no_leave : (a : ℕ) → Contains steps (Leave a) → ⊥
    no_leave a c = let o = e.only (Leave a) c in not_both o.0 a (sym o.2)

pub order_ends : (graph : List (List ℕ)) (marks : List Bool) (order : List ℕ) → IsOrdering graph marks [] order → IsFinishOrder graph order
order_ends graph marks order o = record {
  nodes = λ k d lt. o.nodes (get_or order k d) (Contains-get_or order k d lt);
  all = λ a lt. elim (o.ahead a lt) [ inl m ↦ elim (o.entered a m) [ inl there ↦ there | inr none ↦ absurd (omega (arith, none.1)) ] | inr none ↦ absurd (omega (arith, none.1)) ];
  ordered = o.ordered;
}

module _ (graph : List (List ℕ)) (marks : List Bool) (rest : List Step) (order : List ℕ) (v : ℕ) where
  -- a step into a node that has a mark
  pub step_skipped : IsOrdering graph marks (rest ++ Enter v ∷ []) order → is_marked marks v ≡ true → IsOrdering graph marks rest order
  step_skipped o m = record {
    len = o.len;
    within = λ s c. o.within s (longer s c);
    entered = λ a h. elim (o.entered a h) [ inl there ↦ inl there | inr c ↦ elim (Contains-push_cases rest (Enter v) (Leave a) c) [ inl was ↦ inr was | inr is ↦ absurd (not_both v a is) ] ];
    ahead = λ a lt. elim (o.ahead a lt) [ inl h ↦ inl h | inr c ↦ elim (Contains-push_cases rest (Enter v) (Enter a) c) [ inl was ↦ inr was | inr is ↦ inl (mark_at a (ap node_of is)) ] ];
    above = λ i j a s h k lt. o.above i j a s (lift i h) (lift j k) lt;
    awaited = λ i a b h e. elim (o.awaited i a b (lift i h) e) [
      | inl marked ↦ inl marked
      | inr w ↦ elim (at_push_cases rest (Enter v) w.0 (Enter b) w.2) [ inl was ↦ inr (w.0, w.1, was) | inr is ↦ inl (mark_at b (ap node_of is.1)) ]
    ];
    nodes = o.nodes;
    done = o.done;
    under_way = λ i j a b c h k le e w. o.under_way i j a b c h k le e (longer (Leave c) w);
    ordered = o.ordered;
  }
    where
      longer : (s : Step) → Contains rest s → Contains (rest ++ Enter v ∷ []) s
      longer s c = Contains-append_left rest (Enter v ∷ []) s c

      lift : {s : Step} (i : ℕ) → IsAt rest i s → IsAt (rest ++ Enter v ∷ []) i s
      lift {s} i h = at_left rest (Enter v ∷ []) i s h

      mark_at : (b : ℕ) → v ≡ b → is_marked marks b ≡ true
      mark_at b is = let P : ℕ → Type 0 = λ c. is_marked marks c ≡ true in subst P is m

  -- the last step of a node
  pub step_left : IsOrdering graph marks (rest ++ Leave v ∷ []) order → IsOrdering graph marks rest (order ++ v ∷ [])
  step_left o = record {
    len = o.len;
    within = λ s c. o.within s (longer s c);
    entered = λ a h. elim (o.entered a h) [
      | inl there ↦ inl (Contains-append_left order (v ∷ []) a there)
      | inr c ↦ elim (Contains-push_cases rest (Leave v) (Leave a) c) [ inl was ↦ inr was | inr is ↦ inl (let P : ℕ → Type 0 = λ b. Contains (order ++ v ∷ []) b in subst P (ap node_of is) (Contains-push order v)) ]
    ];
    ahead = λ a lt. elim (o.ahead a lt) [ inl h ↦ inl h | inr c ↦ elim (Contains-push_cases rest (Leave v) (Enter a) c) [ inl was ↦ inr was | inr is ↦ absurd (not_both a v (sym is)) ] ];
    above = λ i j a s h k lt. o.above i j a s (lift i h) (lift j k) lt;
    awaited = λ i a b h e. elim (o.awaited i a b (lift i h) e) [
      | inl marked ↦ inl marked
      | inr w ↦ elim (at_push_cases rest (Leave v) w.0 (Enter b) w.2) [ inl was ↦ inr (w.0, w.1, was) | inr is ↦ absurd (not_both b v (sym is.1)) ]
    ];
    nodes = λ a c. elim (Contains-push_cases order v a c) [ inl was ↦ o.nodes a was | inr is ↦ omega (arith, is, o.within (Leave v) (Contains-push rest (Leave v))) ];
    done = λ a b c e. elim (Contains-push_cases order v a c) [ inl was ↦ o.done a b was e | inr is ↦ (let P : ℕ → Type 0 = λ d. Contains (targets_of graph d) b in targets_marked b (subst P (sym is) e)) ];
    under_way = λ i j a b c h k le e w. elim (at_push_cases order v j b k) [
      | inl before ↦ o.under_way i j a b c (old_place i j a h le before.0) before le e (longer (Leave c) w)
      | inr is ↦ (let P : ℕ → Type 0 = λ d. Path graph c d in subst P is.1 (to_v c w))
    ];
    ordered = λ i j k a b c h g m le lt e. elim (at_push_cases order v k c m) [
      | inl before ↦ (
          let j_lt : j < length order = omega (arith, lt, before.0) in
          o.ordered i j k a b c (old_place i j a h le j_lt) (old_place j j b g (omega arith) j_lt) before le lt e
          )
      | inr is ↦ (
          let j_lt : j < length order = omega (arith, lt, is.0) in
          let P : ℕ → Type 0 = λ d. Contains (rest ++ Leave v ∷ []) (Leave d) in
          o.under_way i j a b c (old_place i j a h le j_lt) (old_place j j b g (omega arith) j_lt) le e (subst P is.1 (Contains-push rest (Leave v)))
          )
    ];
  }
    where
      longer : (s : Step) → Contains rest s → Contains (rest ++ Leave v ∷ []) s
      longer s c = Contains-append_left rest (Leave v ∷ []) s c

      lift : {s : Step} (i : ℕ) → IsAt rest i s → IsAt (rest ++ Leave v ∷ []) i s
      lift {s} i h = at_left rest (Leave v ∷ []) i s h

      top : IsAt (rest ++ Leave v ∷ []) (length rest) (Leave v)
      top = (omega (arith, length_push rest (Leave v)), get_or_push rest (Leave v) (Leave v) (length rest) refl)

      old_place : (i j a : ℕ) → IsAt (order ++ v ∷ []) i a → i ≤ j → j < length order → IsAt order i a
      old_place i j a h le lt = elim (at_push_cases order v i a h) [ inl was ↦ was | inr is ↦ absurd (omega (arith, is.0, le, lt)) ]

      to_v : (c : ℕ) → Contains rest (Leave c) → Path graph c v
      to_v c w = o.above w.0 (length rest) c (Leave v) (lift w.0 (w.1, w.2)) top w.1

      targets_marked : (b : ℕ) → Contains (targets_of graph v) b → IsTrue (is_marked marks b)
      targets_marked b e = elim (o.awaited (length rest) v b top e) [ inl marked ↦ marked | inr w ↦ absurd (omega (arith, w.1, w.2.0, length_push rest (Leave v))) ]

  abbrev entered_steps : List Step
  entered_steps = (rest ++ Leave v ∷ []) ++ map Enter (targets_of graph v)

  -- a step into a node without a mark
  pub step_entered : IsGraph graph → IsOrdering graph marks (rest ++ Enter v ∷ []) order → is_marked marks v ≡ false
      → IsOrdering graph (set marks v true) ((rest ++ Leave v ∷ []) ++ map Enter (targets_of graph v)) order
  step_entered ok o m = record {
    len = length-set marks v true ∙ o.len;
    within = λ s c. elim (entered_cases rest v (targets_of graph v) c.0 s (c.1, c.2)) [
      | inl below ↦ o.within s (Contains-append_left rest (Enter v ∷ []) s (c.0, below.0, below.1))
      | inr above ↦ elim above [
        | inl is ↦ (let same : v ≡ node_of s = ap node_of is.1 in omega (arith, same, v_within))
        | inr t ↦ (let same : t.1.0 ≡ node_of s = ap node_of t.1.2 in omega (arith, same, edge_within graph ok v t.1.0 t.1.1))
      ]
    ];
    entered = λ a h. elim (marked_cases marks v a h) [
      | inl was ↦ elim (o.entered a was) [ inl there ↦ inl there | inr c ↦ elim (Contains-push_cases rest (Enter v) (Leave a) c) [ inl old ↦ inr (longer (Leave a) old) | inr is ↦ absurd (not_both v a is) ] ]
      | inr is ↦ inr (let P : ℕ → Type 0 = λ b. Contains entered_steps (Leave b) in subst P is v_left)
    ];
    ahead = λ a lt. elim (o.ahead a lt) [
      | inl h ↦ inl (marked_kept marks v a h)
      | inr c ↦ elim (Contains-push_cases rest (Enter v) (Enter a) c) [ inl old ↦ inr (longer (Enter a) old) | inr is ↦ inl (mark_at a (ap node_of is)) ]
    ];
    above = λ i j a s h k lt. above i j a s lt (leave_cases i a h) (entered_cases rest v (targets_of graph v) j s k);
    awaited = λ i a b h e. elim (leave_cases i a h) [
      | inl below ↦ elim (o.awaited i a b (at_left rest (Enter v ∷ []) i (Leave a) below) e) [
        | inl marked ↦ inl (marked_kept marks v b marked)
        | inr w ↦ elim (at_push_cases rest (Enter v) w.0 (Enter b) w.2) [ inl was ↦ inr (w.0, w.1, at_new w.0 (Enter b) was) | inr is ↦ inl (mark_at b (ap node_of is.1)) ]
      ]
      | inr is ↦ inr (
          let P : ℕ → Type 0 = λ d. Contains (targets_of graph d) b in
          let there = at_right (rest ++ Leave v ∷ []) (map Enter (targets_of graph v)) (Enter b) (entry_of (targets_of graph v) b (subst P (sym is.1) e)) in
          (there.0, omega (arith, is.0, there.1, length_push rest (Leave v)), there.2)
          )
    ];
    nodes = o.nodes;
    done = λ a b c e. marked_kept marks v b (o.done a b c e);
    under_way = λ i j a b c h k le e w. elim (leave_cases w.0 c (w.1, w.2)) [
      | inl below ↦ o.under_way i j a b c h k le e (Contains-append_left rest (Enter v ∷ []) (Leave c) (w.0, below.0, below.1))
      | inr is ↦ (
          let P : ℕ → Type 0 = λ d. is_marked marks d ≡ false in
          absurd (true≢false (sym (o.done a c (i, h.0, h.1) e) ∙ subst P is.1 m))
          )
    ];
    ordered = o.ordered;
  }
    where
      v_within : v < length graph
      v_within = o.within (Enter v) (Contains-push rest (Enter v))

      mark_at : (b : ℕ) → v ≡ b → is_marked (set marks v true) b ≡ true
      mark_at b is = let P : ℕ → Type 0 = λ c. is_marked (set marks v true) c ≡ true in subst P is (marked_same marks v (omega (arith, v_within, o.len)))

      longer : (s : Step) → Contains rest s → Contains entered_steps s
      longer s c = Contains-append_left (rest ++ Leave v ∷ []) (map Enter (targets_of graph v)) s (Contains-append_left rest (Leave v ∷ []) s c)

      at_new : (i : ℕ) (s : Step) → IsAt rest i s → IsAt entered_steps i s
      at_new i s h = at_left (rest ++ Leave v ∷ []) (map Enter (targets_of graph v)) i s (at_left rest (Leave v ∷ []) i s h)

      v_left : Contains entered_steps (Leave v)
      v_left = Contains-append_left (rest ++ Leave v ∷ []) (map Enter (targets_of graph v)) (Leave v) (Contains-push rest (Leave v))

      leave_cases : (i a : ℕ) → IsAt entered_steps i (Leave a) → IsAt rest i (Leave a) ⊎ ((i ≡ length rest) × (v ≡ a))
      leave_cases i a h = elim (entered_cases rest v (targets_of graph v) i (Leave a) h) [
        | inl below ↦ inl below
        | inr above ↦ elim above [ inl is ↦ inr (is.0, ap node_of is.1) | inr t ↦ absurd (not_both t.1.0 a t.1.2) ]
      ]

      to_v : (i a : ℕ) → IsAt rest i (Leave a) → Path graph a v
      to_v i a h = o.above i (length rest) a (Enter v) (at_left rest (Enter v ∷ []) i (Leave a) h) (omega (arith, length_push rest (Enter v)), get_or_push rest (Enter v) (Enter v) (length rest) refl) h.0

      above : (i j a : ℕ) (s : Step) → i < j → IsAt rest i (Leave a) ⊎ ((i ≡ length rest) × (v ≡ a))
          → IsAt rest j s ⊎ (((j ≡ length rest) × (Leave v ≡ s)) ⊎ ((length rest < j) × ((t : ℕ) × Contains (targets_of graph v) t × (Enter t ≡ s)))) → Path graph a (node_of s)
      above i j a s lt (inl h) (inl k) = o.above i j a s (at_left rest (Enter v ∷ []) i (Leave a) h) (at_left rest (Enter v ∷ []) j s k) lt
      above i j a s lt (inl h) (inr (inl k)) = let P : Step → Type 0 = λ t. Path graph a (node_of t) in subst P k.1 (to_v i a h)
      above i j a s lt (inl h) (inr (inr k)) =
          let P : Step → Type 0 = λ t. Path graph a (node_of t) in
          subst P k.1.2 (join graph (to_v i a h) (Path.step k.1.1 Path.here))
      above i j a s lt (inr h) (inl k) = absurd (omega (arith, lt, h.0, k.0))
      above i j a s lt (inr h) (inr (inl k)) = absurd (omega (arith, lt, h.0, k.0))
      above i j a s lt (inr h) (inr (inr k)) =
          let P : Step → Type 0 = λ t. Path graph a (node_of t) in
          let Q : ℕ → Type 0 = λ b. Path graph b k.1.0 in
          subst P k.1.2 (subst Q h.1 (Path.step k.1.1 Path.here))

-- the steps that are left at most: for each node without a mark its two, and one into each of its targets
pub work : List (List ℕ) → List Bool → ℕ
work [] marks = 0
work (ts ∷ graph) [] = 2 + length ts + work graph []
work (ts ∷ graph) (true ∷ marks) = work graph marks
work (ts ∷ graph) (false ∷ marks) = 2 + length ts + work graph marks

pub work_falls : (graph : List (List ℕ)) (marks : List Bool) (v : ℕ) → v < length marks → v < length graph → is_marked marks v ≡ false → work graph (set marks v true) + (2 + length (targets_of graph v)) ≡ work graph marks
unfolding work
work_falls [] marks v l lt m = absurd (omega (arith, lt))
work_falls (ts ∷ graph) [] v l lt m = absurd (omega (arith, l))
work_falls (ts ∷ graph) (true ∷ marks) zero l lt m = absurd (true≢false m)
work_falls (ts ∷ graph) (false ∷ marks) zero l lt m = last (work graph marks) (length ts)
  where
    last : (w n : ℕ) → w + (2 + n) ≡ 2 + n + w
    last w n = omega arith
work_falls (ts ∷ graph) (true ∷ marks) (suc v) l lt m = work_falls graph marks v (omega (arith, l)) (omega (arith, lt)) m
work_falls (ts ∷ graph) (false ∷ marks) (suc v) l lt m = more (length ts) _ _ _ (work_falls graph marks v (omega (arith, l)) (omega (arith, lt)) m)
  where
    more : (n w k u : ℕ) → w + k ≡ u → (2 + n + w) + k ≡ 2 + n + u
    more n w k u e = omega (arith, e)

set_marked : (marks : List Bool) (v : ℕ) → is_marked marks v ≡ true → set marks v true ≡ marks
set_marked [] v m = absurd (true≢false (sym m))
set_marked (true ∷ marks) zero m = refl
set_marked (false ∷ marks) zero m = absurd (true≢false (sym m))
set_marked (x ∷ marks) (suc v) m = ap (λ xs. x ∷ xs) (set_marked marks v m)

-- a step into a node, whether it has a mark or not
module _ (graph : List (List ℕ)) (marks next : List Bool) (rest steps : List Step) (order : List ℕ) (v : ℕ) (ok : IsGraph graph) (o : IsOrdering graph marks (rest ++ Enter v ∷ []) order) (marked : next ≡ set marks v true) where
  abbrev After : Bool → Type 0
  After t = steps ≡ (if t then rest else (rest ++ Leave v ∷ []) ++ map Enter (targets_of graph v))

  pub step_into : After (is_marked marks v) → IsOrdering graph next steps order
  step_into after = elim (cases_Bool (is_marked marks v)) [
    | inl m ↦ (
        let is : steps ≡ rest = subst After m after in
        let same : next ≡ marks = marked ∙ set_marked marks v m in
        rw (is, same) (step_skipped graph marks rest order v o m)
        )
    | inr m ↦ (
        let is : steps ≡ (rest ++ Leave v ∷ []) ++ map Enter (targets_of graph v) = subst After m after in
        rw (is, marked) (step_entered graph marks rest order v ok o m)
        )
  ]

  pub step_into_falls : After (is_marked marks v) → work graph next + length steps < work graph marks + length (rest ++ Enter v ∷ [])
  step_into_falls after = elim (cases_Bool (is_marked marks v)) [
    | inl m ↦ (
        let is : steps ≡ rest = subst After m after in
        let same : next ≡ marks = marked ∙ set_marked marks v m in
        rw (is, same) (omega (arith, length_push rest (Enter v)))
        )
    | inr m ↦ (
        let is : steps ≡ (rest ++ Leave v ∷ []) ++ map Enter (targets_of graph v) = subst After m after in
        let within : v < length graph = o.within (Enter v) (Contains-push rest (Enter v)) in
        let falls : work graph (set marks v true) + (2 + length (targets_of graph v)) ≡ work graph marks = work_falls graph marks v (omega (arith, within, o.len)) within m in
        rw (is, marked) (omega (arith, falls, length_push rest (Enter v), length_push rest (Leave v), length-append (rest ++ Leave v ∷ []) (map Enter (targets_of graph v)), length-map (targets_of graph v) Enter))
        )
  ]
