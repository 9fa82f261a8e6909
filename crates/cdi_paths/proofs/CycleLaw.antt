-- The cycle that is found goes from the node back to it; if none is found, no path leads from the node back to it.
use Rattle.std.proofs.Common.{◌≡◌, ◌∙◌, ℕ, zero, suc, ◌+◌, ◌<◌, ◌≤◌, ◌==◌, ◌||◌, Bool, true, false, cond, List, [], ◌∷◌, Option, Some, None, length, get_or, replicate, refl, sym, ap, subst, ◌⊎◌, inl, inr, arith}
use Rattle.std.proofs.lemmas.Bool.{cases_lt, or_cases, true≢false}
use Rattle.std.proofs.lemmas.Bool.Decides.{nat_tests}
use Rattle.std.proofs.lemmas.List.{get_or_past, get_or-map, length-map, length-replicate}
use Rattle.std.proofs.lemmas.List.FromFn.{length-enumerate_from, get_or-enumerate_from}
use Rattle.std.specs.List.{Contains, enumerate_from, find}
use Rattle.std.specs.Prelude.{is_some}
use Rattle.cdi_paths.specs.Graph.{targets_of, Path, ProperPath}
use Rattle.cdi_paths.specs.CycleThrough.{hop_of, leads, hop_by, next_hop, next_hops, hops_after, hops_to, way, cycle_by, cycle_through, IsWalk, IsCycleThrough}

module _ (p : ℕ → Bool) where
  found_by : (y : ℕ) (ys : List ℕ) (x : ℕ) (b : Bool) → p y ≡ b → cond b (Some y) (find p ys) ≡ Some x → ((y ≡ x) × (p y ≡ true)) ⊎ (find p ys ≡ Some x)
  found_by y ys x true h e = (let same : y ≡ x = cc in inl (same, h))
  found_by y ys x false h e = inr e

  none_by : (y : ℕ) (ys : List ℕ) (b : Bool) → p y ≡ b → cond b (Some y) (find p ys) ≡ None → (p y ≡ false) × (find p ys ≡ None)
  none_by y ys true h e = absurd cc
  none_by y ys false h e = (h, e)

  -- what is found passes, and stands in the list
  found_passes : (xs : List ℕ) (x : ℕ) → find p xs ≡ Some x → (p x ≡ true) × Contains xs x
  found_passes [] x e = absurd cc
  found_passes (y ∷ ys) x e = elim (found_by y ys x (p y) refl e) [
    | inl now ↦ (let P : ℕ → Type 0 = λ z. p z ≡ true in (subst P now.0 now.1, (zero, omega arith, now.0)))
    | inr later ↦ (let r = found_passes ys x later in (r.0, (suc r.1.0, omega (arith, r.1.1), r.1.2)))
  ]

  -- if none is found, none in the list passes
  none_at : (xs : List ℕ) → find p xs ≡ None → (k x : ℕ) → k < length xs → get_or xs k x ≡ x → p x ≡ false
  none_at [] e k x lt at = absurd (omega (arith, lt))
  none_at (y ∷ ys) e zero x lt at = (let P : ℕ → Type 0 = λ z. p z ≡ false in subst P at (none_by y ys (p y) refl e).0)
  none_at (y ∷ ys) e (suc k) x lt at = none_at ys (none_by y ys (p y) refl e).1 k x (omega (arith, lt)) at

known_or_not : (h : Option ℕ) → (h ≡ None) ⊎ ((a : ℕ) × (h ≡ Some a))
known_or_not None = inl refl
known_or_not (Some a) = inr (a, refl)

test_known : (h : Option ℕ) → is_some h ≡ true → (a : ℕ) × (h ≡ Some a)
test_known None e = absurd (true≢false (sym e))
test_known (Some a) e = (a, refl)

test_unknown : (h : Option ℕ) → is_some h ≡ false → h ≡ None
test_unknown None e = refl
test_unknown (Some a) e = absurd (true≢false e)

none_of : (n x : ℕ) → hop_of (replicate n None) x ≡ None
none_of zero x = refl
none_of (suc n) zero = refl
none_of (suc n) (suc x) = none_of n x

abbrev none_count : List (Option ℕ) → ℕ
none_count [] = 0
none_count (None ∷ hops) = suc (none_count hops)
none_count (Some a ∷ hops) = none_count hops

none_count_of : (n : ℕ) → none_count (replicate n None) ≡ n
none_count_of zero = refl
none_count_of (suc n) = ap suc (none_count_of n)

all_known : (hops : List (Option ℕ)) (x : ℕ) → none_count hops ≡ 0 → x < length hops → hop_of hops x ≡ None → ⊥
all_known [] x e lt none = absurd (omega (arith, lt))
all_known (None ∷ hops) x e lt none = absurd (omega (arith, e))
all_known (Some a ∷ hops) zero e lt none = absurd cc
all_known (Some a ∷ hops) (suc x) e lt none = all_known hops x e (omega (arith, lt)) none

-- what is known stays, so that nothing changes or less is unknown
grown : (old new : List (Option ℕ)) → length old ≡ length new → ((x h : ℕ) → hop_of old x ≡ Some h → hop_of new x ≡ Some h) → (new ≡ old) ⊎ (none_count new < none_count old)
grown [] [] len kept = inl refl
grown [] (h ∷ new) len kept = absurd (omega (arith, len))
grown (h ∷ old) [] len kept = absurd (omega (arith, len))
grown (Some a ∷ old) (None ∷ new) len kept = (let e : None ≡ Some a = kept zero a refl in absurd cc)
grown (Some a ∷ old) (Some b ∷ new) len kept =
    let e : Some b ≡ Some a = kept zero a refl in
    elim (grown old new (omega (arith, len)) (λ x h k. kept (suc x) h k)) [
      | inl same ↦ inl cc
      | inr less ↦ inr less
    ]
grown (None ∷ old) (None ∷ new) len kept =
    elim (grown old new (omega (arith, len)) (λ x h k. kept (suc x) h k)) [
      | inl same ↦ inl (ap (λ hops. None ∷ hops) same)
      | inr less ↦ inr (omega (arith, less))
    ]
grown (None ∷ old) (Some b ∷ new) len kept =
    elim (grown old new (omega (arith, len)) (λ x h k. kept (suc x) h k)) [
      | inl same ↦ (let e : none_count new ≡ none_count old = ap none_count same in inr (omega (arith, e)))
      | inr less ↦ inr (omega (arith, less))
    ]

either_of : {X : Type 0} (P : X → Type 0) (b : Bool) (x y : X) → P x → P y → P (cond b x y)
either_of P true x y p q = p
either_of P false x y p q = q

module _ (goal : ℕ) (graph : List (List ℕ)) where
  -- so many hops lead to the goal at most
  pub data Way (hops : List (Option ℕ)) : ℕ → ℕ → Type 0 where
    last : {n x : ℕ} → hop_of hops x ≡ Some goal → Way hops (suc n) x
    more : {n x y : ℕ} → hop_of hops x ≡ Some y → Way hops n y → Way hops (suc n) x

  fits : {hops : List (Option ℕ)} {n x : ℕ} (m : ℕ) → n ≤ m → Way hops n x → Way hops m x
  fits zero le (Way.last e) = absurd (omega (arith, le))
  fits zero le (Way.more e w) = absurd (omega (arith, le))
  fits (suc m) le (Way.last e) = Way.last e
  fits (suc m) le (Way.more e w) = Way.more e (fits m (omega (arith, le)) w)

  kept_way : {old new : List (Option ℕ)} {n x : ℕ} → ((x h : ℕ) → hop_of old x ≡ Some h → hop_of new x ≡ Some h) → Way old n x → Way new n x
  kept_way kept (Way.last {x = x} e) = Way.last (kept x goal e)
  kept_way kept (Way.more {x = x} {y = y} e w) = Way.more (kept x y e) (kept_way kept w)

  pub record IsKnown (n : ℕ) (hops : List (Option ℕ)) : Type 0 where
    pub len : length hops ≡ length graph
    pub edge : (x h : ℕ) → hop_of hops x ≡ Some h → Contains (targets_of graph x) h
    pub ways : (x h : ℕ) → hop_of hops x ≡ Some h → Way hops n x

  next_len : (hops : List (Option ℕ)) → length (next_hops goal graph hops) ≡ length graph
  next_len hops = length-map (enumerate_from 0 graph) (λ p. next_hop goal hops p.0 p.1) ∙ length-enumerate_from 0 graph

  next_at : (hops : List (Option ℕ)) (x : ℕ) → x < length graph → hop_of (next_hops goal graph hops) x ≡ next_hop goal hops x (targets_of graph x)
  next_at hops x lt =
      let f : ℕ × List ℕ → Option ℕ = λ p. next_hop goal hops p.0 p.1 in
      let z : 0 + x ≡ x = omega arith in
      let within : x < length (enumerate_from 0 graph) = omega (arith, length-enumerate_from 0 graph) in
      get_or-map f (enumerate_from 0 graph) x (0, []) None within ∙ ap f (get_or-enumerate_from 0 graph x (0, []) lt) ∙ ap (λ k. next_hop goal hops k (targets_of graph x)) z

  within : (hops : List (Option ℕ)) (x h : ℕ) → hop_of hops x ≡ Some h → x < length hops
  within hops x h e = elim (cases_lt x (length hops)) [ inl lt ↦ lt | inr past ↦ (let n : hop_of hops x ≡ None = get_or_past hops x None past in absurd cc) ]

  kept : (hops : List (Option ℕ)) → length hops ≡ length graph → (x h : ℕ) → hop_of hops x ≡ Some h → hop_of (next_hops goal graph hops) x ≡ Some h
  kept hops len x h e = next_at hops x (omega (arith, len, within hops x h e)) ∙ ap (hop_by goal hops (targets_of graph x)) e

  -- a hop that a round adds goes to a target that leads to the goal
  added : (hops : List (Option ℕ)) (x h : ℕ) → hop_of (next_hops goal graph hops) x ≡ Some h → hop_of hops x ≡ None → (leads goal hops h ≡ true) × Contains (targets_of graph x) h
  added hops x h e none =
      let lt : x < length graph = omega (arith, next_len hops, within (next_hops goal graph hops) x h e) in
      found_passes (leads goal hops) (targets_of graph x) h (sym (ap (hop_by goal hops (targets_of graph x)) none) ∙ sym (next_at hops x lt) ∙ e)

  known_more : (n : ℕ) (hops : List (Option ℕ)) → IsKnown n hops → IsKnown (suc n) (next_hops goal graph hops)
  known_more n hops w = record {
    len = next_len hops;
    edge = λ x h e. elim (known_or_not (hop_of hops x)) [
      | inl none ↦ (added hops x h e none).1
      | inr was ↦ w.edge x h (same x h e was.0 was.1)
    ];
    ways = λ x h e. elim (known_or_not (hop_of hops x)) [
      | inl none ↦ onward x h e (added hops x h e none).0
      | inr was ↦ fits (suc n) (omega arith) (kept_way stays (w.ways x was.0 was.1))
    ];
  }
    where
      stays : (x h : ℕ) → hop_of hops x ≡ Some h → hop_of (next_hops goal graph hops) x ≡ Some h
      stays = kept hops w.len

      same : (x h : ℕ) → hop_of (next_hops goal graph hops) x ≡ Some h → (a : ℕ) → hop_of hops x ≡ Some a → hop_of hops x ≡ Some h
      same x h e a was = was ∙ sym (stays x a was) ∙ e

      onward : (x h : ℕ) → hop_of (next_hops goal graph hops) x ≡ Some h → leads goal hops h ≡ true → Way (next_hops goal graph hops) (suc n) x
      onward x h e l = elim (or_cases (h == goal) (is_some (hop_of hops h)) l) [
        | inl there ↦ (let is : h ≡ goal = grind (arith, nat_tests, there) in Way.last (e ∙ ap Some is))
        | inr further ↦ (let k = test_known (hop_of hops h) further in Way.more e (kept_way stays (w.ways h k.0 k.1)))
      ]

  known_within : (n m : ℕ) (hops : List (Option ℕ)) → n ≤ m → IsKnown n hops → IsKnown m hops
  known_within n m hops le w = record { len = w.len; edge = w.edge; ways = λ x h e. fits m le (w.ways x h e) }

  known_after : (n k m : ℕ) (hops : List (Option ℕ)) → n + k ≤ m → IsKnown k hops → IsKnown m (hops_after goal graph n hops)
  known_after zero k m hops le w = known_within k m hops (omega (arith, le)) w
  known_after (suc n) k m hops le w =
      either_of (IsKnown m) (is_some (hop_of hops goal)) hops (hops_after goal graph n (next_hops goal graph hops))
      (known_within k m hops (omega (arith, le)) w) (known_after n (suc k) m (next_hops goal graph hops) (omega (arith, le)) (known_more k hops w))

  none_known : IsKnown 0 (replicate (length graph) None)
  none_known = record {
    len = length-replicate (length graph) None;
    edge = λ x h e. (let n : hop_of (replicate (length graph) None) x ≡ None = none_of (length graph) x in absurd cc);
    ways = λ x h e. (let n : hop_of (replicate (length graph) None) x ≡ None = none_of (length graph) x in absurd cc);
  }

  pub all_ways : IsKnown (length graph) (hops_to goal graph)
  all_ways = known_after (length graph) 0 (length graph) (replicate (length graph) None) (omega arith) none_known

  walk_by : (x y : ℕ) (rest : List ℕ) → Contains (targets_of graph x) y → IsWalk graph y goal rest → (b : Bool) → (y == goal) ≡ b → IsWalk graph x goal (y ∷ cond b [] rest)
  walk_by x y rest e w true h = (let is : y ≡ goal = grind (arith, nat_tests, h) in let P : ℕ → Type 0 = λ z. IsWalk graph x z (y ∷ []) in subst P is (IsWalk.last e))
  walk_by x y rest e w false h = IsWalk.step e w

  -- the way along the hops is a walk
  walks : {hops : List (Option ℕ)} {n x : ℕ} → ((x h : ℕ) → hop_of hops x ≡ Some h → Contains (targets_of graph x) h) → Way hops n x → (m : ℕ) → n ≤ m → IsWalk graph x goal (way goal hops m x)
  walks edge (Way.last e) zero le = absurd (omega (arith, le))
  walks edge (Way.more e w) zero le = absurd (omega (arith, le))
  walks {hops} edge (Way.last {x = x} e) (suc m) le =
      let is : (goal == goal) ≡ true = grind (arith, nat_tests) in
      rw (e, is) (IsWalk.last (edge x goal e))
  walks {hops} edge (Way.more {x = x} {y = y} e w) (suc m) le = rw e (walk_by x y (way goal hops m y) (edge x y e) (walks edge w m (omega (arith, le))) (y == goal) refl)

  -- no round adds anything
  still : (n : ℕ) (hops : List (Option ℕ)) → next_hops goal graph hops ≡ hops → hops_after goal graph n hops ≡ hops
  still zero hops same = refl
  still (suc n) hops same =
      let rest : hops_after goal graph n (next_hops goal graph hops) ≡ hops = ap (hops_after goal graph n) same ∙ still n hops same in
      either_of (λ h. h ≡ hops) (is_some (hop_of hops goal)) hops (hops_after goal graph n (next_hops goal graph hops)) refl rest

  -- no round adds anything, or each of so many has added something
  abbrev HasEnded : ℕ → List (Option ℕ) → List (Option ℕ) → Type 0
  HasEnded n old new = (next_hops goal graph new ≡ new) ⊎ (none_count new + n ≤ none_count old)

  ended_by : (n : ℕ) (hops : List (Option ℕ)) → length hops ≡ length graph
      → (hop_of (hops_after goal graph n (next_hops goal graph hops)) goal ≡ None → HasEnded n (next_hops goal graph hops) (hops_after goal graph n (next_hops goal graph hops)))
      → (b : Bool) → is_some (hop_of hops goal) ≡ b → hop_of (cond b hops (hops_after goal graph n (next_hops goal graph hops))) goal ≡ None
      → HasEnded (suc n) hops (cond b hops (hops_after goal graph n (next_hops goal graph hops)))
  ended_by n hops len rest true h none = (let k = test_known (hop_of hops goal) h in let e : hop_of hops goal ≡ Some k.0 = k.1 in absurd cc)
  ended_by n hops len rest false h none = elim (grown hops (next_hops goal graph hops) (len ∙ sym (next_len hops)) (kept hops len)) [
    | inl same ↦ (let e : hops_after goal graph n (next_hops goal graph hops) ≡ hops = ap (hops_after goal graph n) same ∙ still n hops same in inl (rw e same))
    | inr less ↦ elim (rest none) [ inl closed ↦ inl closed | inr fewer ↦ inr (omega (arith, less, fewer)) ]
  ]

  ends : (n : ℕ) (hops : List (Option ℕ)) → length hops ≡ length graph → hop_of (hops_after goal graph n hops) goal ≡ None → HasEnded n hops (hops_after goal graph n hops)
  ends zero hops len none = inr (omega arith)
  ends (suc n) hops len none = ended_by n hops len (ends n (next_hops goal graph hops) (next_len hops)) (is_some (hop_of hops goal)) refl none

  module _ (hops : List (Option ℕ)) (closed : next_hops goal graph hops ≡ hops) where
    not_none : (x y : ℕ) → Contains (targets_of graph x) y → leads goal hops y ≡ true → hop_of hops x ≡ None → ⊥
    not_none x y e l none =
        let lt : x < length graph = elim (cases_lt x (length graph)) [ inl lt ↦ lt | inr past ↦ absurd (omega (arith, e.1, ap length (get_or_past graph x [] past))) ] in
        let nothing : find (leads goal hops) (targets_of graph x) ≡ None = sym (ap (hop_by goal hops (targets_of graph x)) none) ∙ sym (next_at hops x lt) ∙ ap (λ h. hop_of h x) closed ∙ none in
        true≢false (sym l ∙ none_at (leads goal hops) (targets_of graph x) nothing e.0 y e.1 e.2)

    or_known : (x : ℕ) (h : Option ℕ) → (h ≡ None → ⊥) → ((x == goal) || is_some h) ≡ true
    or_known x None some = absurd (some refl)
    or_known x (Some a) some = grind arith

    leads_all : (x : ℕ) → Path graph x goal → leads goal hops x ≡ true
    leads_all x Path.here = grind (arith, nat_tests)
    leads_all x (Path.step {b = y} e p) = or_known x (hop_of hops x) (not_none x y e (leads_all y p))

    none_leads_back : hop_of hops goal ≡ None → ProperPath graph goal goal → ⊥
    none_leads_back none p = not_none goal p.0 p.1 (leads_all p.0 p.2) none

  none_back : hop_of (hops_to goal graph) goal ≡ None → ProperPath graph goal goal → ⊥
  none_back none p = elim (ends (length graph) (replicate (length graph) None) none_known.len none) [
    | inl closed ↦ none_leads_back (hops_to goal graph) closed none p
    | inr fewer ↦ (
        let lt : goal < length graph = elim (cases_lt goal (length graph)) [ inl lt ↦ lt | inr past ↦ absurd (omega (arith, p.1.1, ap length (get_or_past graph goal [] past))) ] in
        all_known (hops_to goal graph) goal (omega (arith, fewer, none_count_of (length graph))) (omega (arith, lt, all_ways.len)) none
        )
  ]

  pub found_is_cycle : (h : Option ℕ) → hop_of (hops_to goal graph) goal ≡ h → IsCycleThrough graph goal (cycle_by goal (hops_to goal graph) h)
  found_is_cycle None e = none_back e
  found_is_cycle (Some b) e = (way goal (hops_to goal graph) (length (hops_to goal graph)) goal, refl, walks all_ways.edge (all_ways.ways goal b e) (length (hops_to goal graph)) (omega (arith, all_ways.len)))

pub is_cycle_through : (graph : List (List ℕ)) (a : ℕ) → IsCycleThrough graph a (cycle_through graph a)
is_cycle_through graph a = found_is_cycle a graph (hop_of (hops_to a graph) a) refl
