-- A graph with each edge the other way round.
use Rattle.std.proofs.Common.{◌≡◌, ◌≢◌, ◌↔◌, ℕ, zero, suc, ◌+◌, ◌<◌, List, [], ◌∷◌, ◌++◌, length, get_or, set, replicate, sym, ap, subst, ◌⊎◌, inl, inr, arith, get_or-set_same, get_or-set_other}
use Rattle.std.proofs.lemmas.Bool.{cases_eq, cases_lt}
use Rattle.std.proofs.lemmas.List.{get_or_past, get_or_default}
use Rattle.std.proofs.lemmas.List.Elements.{Contains-append_left, Contains-push, Contains-push_cases, Contains-get_or}
use Rattle.std.specs.List.{Contains}
use Rattle.cdi_paths.specs.Graph.{targets_of, Path, ProperPath}
use Rattle.cdi_paths.specs.Reversed.{HasAlso, HasSource, IsReversed}

pub no_targets : (node : ℕ) (rows : List (List ℕ)) → HasSource node [] rows rows
no_targets node rows = record { rows = λ a b. (λ e. inl e, λ h. elim h [ inl e ↦ e | inr n ↦ absurd (omega (arith, n.0.1)) ]) }

module _ (node : ℕ) (targets : List ℕ) (old rows : List (List ℕ)) (so_far : HasSource node targets old rows) (t : ℕ) (lt : t < length rows) (row : List ℕ) (also : HasAlso node (targets_of rows t) row) where
  abbrev new : List (List ℕ)
  new = set rows t row

  same : targets_of new t ≡ row
  same = get_or-set_same rows t row [] lt

  other : (a : ℕ) → a ≢ t → targets_of new a ≡ targets_of rows a
  other a ne = get_or-set_other rows t a row [] ne

  kept : (a b : ℕ) → Contains (targets_of rows a) b → Contains (targets_of new a) b
  kept a b e = elim (cases_eq a t) [
    | inl is ↦ (
        let P : ℕ → Type 0 = λ c. Contains (targets_of new c) b in
        let Q : ℕ → Type 0 = λ c. Contains (targets_of rows c) b in
        subst P (sym is) (rw same ((also b).1 (inl (subst Q is e))))
        )
    | inr ne ↦ rw (other a ne) e
  ]

  from_new : (a b : ℕ) → Contains (targets_of new a) b → Contains (targets_of old a) b ⊎ (Contains (targets ++ t ∷ []) a × (node ≡ b))
  from_new a b e = elim (cases_eq a t) [
    | inl is ↦ (
        let P : ℕ → Type 0 = λ c. Contains (targets_of new c) b in
        let there : Contains row b = rw same at (subst P is e) in
        elim ((also b).0 there) [
          | inl was ↦ (let Q : ℕ → Type 0 = λ c. Contains (targets_of rows c) b in wider a b ((so_far.rows a b).0 (subst Q (sym is) was)))
          | inr now ↦ (let Q : ℕ → Type 0 = λ c. Contains (targets ++ t ∷ []) c in inr (subst Q (sym is) (Contains-push targets t), now))
        ]
        )
    | inr ne ↦ wider a b ((so_far.rows a b).0 (rw (other a ne) at e))
  ]
    where
      wider : (a b : ℕ) → Contains (targets_of old a) b ⊎ (Contains targets a × (node ≡ b)) → Contains (targets_of old a) b ⊎ (Contains (targets ++ t ∷ []) a × (node ≡ b))
      wider a b (inl was) = inl was
      wider a b (inr now) = inr (Contains-append_left targets (t ∷ []) a now.0, now.1)

  into_new : (a b : ℕ) → Contains (targets_of old a) b ⊎ (Contains (targets ++ t ∷ []) a × (node ≡ b)) → Contains (targets_of new a) b
  into_new a b (inl was) = kept a b ((so_far.rows a b).1 (inl was))
  into_new a b (inr now) = elim (Contains-push_cases targets t a now.0) [
    | inl before ↦ kept a b ((so_far.rows a b).1 (inr (before, now.1)))
    | inr is ↦ (
        let P : ℕ → Type 0 = λ c. Contains (targets_of new c) b in
        subst P is (rw same ((also b).1 (inr now.1)))
        )
  ]

  pub target_more : HasSource node (targets ++ t ∷ []) old (set rows t row)
  target_more = record { rows = λ a b. (from_new a b, into_new a b) }

-- the edges from the nodes below a number
pub record HasSourcesBelow (graph : List (List ℕ)) (n : ℕ) (rows : List (List ℕ)) : Type 0 where
  pub rows_of : (a b : ℕ) → Contains (targets_of rows a) b ↔ ((b < n) × Contains (targets_of graph b) a)

pub none_below : (graph : List (List ℕ)) (n : ℕ) → HasSourcesBelow graph 0 (replicate n [])
none_below graph n = record { rows_of = λ a b. (λ e. absurd (empty n a b e), λ h. absurd (omega (arith, h.0))) }
  where
    empty : (n a b : ℕ) → Contains (targets_of (replicate n []) a) b → ⊥
    empty zero a b e = absurd (omega (arith, e.1))
    empty (suc n) zero b e = absurd (omega (arith, e.1))
    empty (suc n) (suc a) b e = empty n a b e

pub node_more : (graph : List (List ℕ)) (n : ℕ) (old new : List (List ℕ)) → HasSourcesBelow graph n old → HasSource n (targets_of graph n) old new → HasSourcesBelow graph (n + 1) new
node_more graph n old new below more = record { rows_of = λ a b. (there a b, back a b) }
  where
    there : (a b : ℕ) → Contains (targets_of new a) b → (b < n + 1) × Contains (targets_of graph b) a
    there a b e = elim ((more.rows a b).0 e) [
      | inl was ↦ (let h = (below.rows_of a b).0 was in (omega (arith, h.0), h.1))
      | inr now ↦ (let P : ℕ → Type 0 = λ c. Contains (targets_of graph c) a in (omega (arith, now.1), subst P now.1 now.0))
    ]

    back : (a b : ℕ) → (b < n + 1) × Contains (targets_of graph b) a → Contains (targets_of new a) b
    back a b h = elim (cases_eq b n) [
      | inl is ↦ (let P : ℕ → Type 0 = λ c. Contains (targets_of graph c) a in (more.rows a b).1 (inr (subst P is h.1, sym is)))
      | inr ne ↦ (more.rows a b).1 (inl ((below.rows_of a b).1 (omega (arith, h.0), h.1)))
    ]

pub all_below : (graph rows : List (List ℕ)) → length rows ≡ length graph → HasSourcesBelow graph (length graph) rows → IsReversed graph rows
all_below graph rows len below = record {
  len = len;
  nodes = λ k d lt j e within. omega (arith, len, (below.rows_of k (get_or (get_or rows k d) j e)).0 (member k d lt j e within));
  edges = λ a b. (λ e. ((below.rows_of a b).0 e).1, λ e. (below.rows_of a b).1 (there b a e, e));
}
  where
    member : (k : ℕ) (d : List ℕ) → k < length rows → (j e : ℕ) → j < length (get_or rows k d) → Contains (targets_of rows k) (get_or (get_or rows k d) j e)
    member k d lt j e within =
        let P : List ℕ → Type 0 = λ row. Contains row (get_or (get_or rows k d) j e) in
        subst P (get_or_default rows k d [] lt) (Contains-get_or (get_or rows k d) j e within)

    there : (a b : ℕ) → Contains (targets_of graph a) b → a < length graph
    there a b e = elim (cases_lt a (length graph)) [ inl lt ↦ lt | inr past ↦ absurd (omega (arith, e.1, ap length (get_or_past graph a [] past))) ]

-- paths the other way round
module _ (graph reversed : List (List ℕ)) (edges : (a b : ℕ) → Contains (targets_of graph a) b → Contains (targets_of reversed b) a) where
  onward : {a b c : ℕ} → Path reversed a b → Contains (targets_of reversed b) c → Path reversed a c
  onward Path.here e = Path.step e Path.here
  onward (Path.step f p) e = Path.step f (onward p e)

  pub path_back : {a b : ℕ} → Path graph a b → Path reversed b a
  path_back Path.here = Path.here
  path_back (Path.step {a} {b} e p) = onward (path_back p) (edges a b e)

  proper_onward : (a b c : ℕ) → Path reversed a b → Contains (targets_of reversed b) c → ProperPath reversed a c
  proper_onward a b c Path.here e = (c, e, Path.here)
  proper_onward a b c (Path.step {b = m} f p) e = (m, f, onward p e)

  pub proper_path_back : (a b : ℕ) → ProperPath graph a b → ProperPath reversed b a
  proper_path_back a b p = proper_onward b p.0 a (path_back p.2) (edges a p.0 p.1)
