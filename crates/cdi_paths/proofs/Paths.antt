-- What the last round says of the paths.
use Rattle.std.proofs.Common.{◌≡◌, ◌≢◌, ◌↔◌, ◌∙◌, IsTrue, ℕ, zero, suc, ◌<◌, Bool, true, false, ◌||◌, ◌&&◌, List, [], length, refl, sym, ap, subst, ◌⊎◌, inl, inr, arith}
use Rattle.std.proofs.lemmas.Bool.{cases_eq, cases_lt, eqb-true, true≢false}
use Rattle.std.proofs.lemmas.List.{get_or_past}
use Rattle.std.proofs.lemmas.List.Elements.{All-contains}
use Rattle.std.specs.Cmp.{nat_eq_equiv}
use Rattle.std.proofs.lemmas.Map.Views.{Contains-from_any, list_any-from_Contains}
use Rattle.std.specs.List.{Contains}
use Rattle.cdi_paths.specs.Graph.{targets_of, IsGraph, Path, ProperPath}
use Rattle.cdi_paths.specs.Rounds.{is_edge, has_path_through, has_bit_at, IsTable}

-- the last node of a round as an inner one, and an earlier one
at_last : (ab ak kk kb : Bool) → (ak || (ak && kk)) ≡ true → (kb || (kk && kb)) ≡ true → (ab || (ak && kb)) ≡ true
at_last ab ak kk kb h g = grind arith

at_earlier : (ab ac ak kc cb ck kb : Bool) → (ac ≡ true → cb ≡ true → ab ≡ true) → (ac ≡ true → ck ≡ true → ak ≡ true) → (kc ≡ true → cb ≡ true → kb ≡ true)
    → (ac || (ak && kc)) ≡ true → (cb || (ck && kb)) ≡ true → (ab || (ak && kb)) ≡ true
at_earlier ab ac ak kc cb ck kb x y z h g = grind arith

more : (ab other : Bool) → ab ≡ true → (ab || other) ≡ true
more ab other h = grind arith

split : (ab ak kb : Bool) → (ab || (ak && kb)) ≡ true → (ab ≡ true) ⊎ ((ak ≡ true) × (kb ≡ true))
split true ak kb h = inl refl
split false true true h = inr (refl, refl)
split false true false h = absurd (true≢false (sym h))
split false false kb h = absurd (true≢false (sym h))

module _ (graph : List (List ℕ)) where
  -- paths join
  pub join : {a b c : ℕ} → Path graph a b → Path graph b c → Path graph a c
  join Path.here q = q
  join (Path.step e p) q = Path.step e (join p q)

  pub proper_join : (a b c : ℕ) → ProperPath graph a b → ProperPath graph b c → ProperPath graph a c
  proper_join a b c p q = (p.0, p.1, join p.2 (Path.step q.1 q.2))

  edge_from_test : (a b : ℕ) → is_edge graph a b ≡ true → Contains (targets_of graph a) b
  edge_from_test a b h = Contains-from_any eqb-true b (targets_of graph a) h

  test_from_edge : (a b : ℕ) → Contains (targets_of graph a) b → is_edge graph a b ≡ true
  test_from_edge a b e = list_any-from_Contains nat_eq_equiv b (targets_of graph a) e

  through-more : (k a b : ℕ) → is_edge graph a b ≡ true → has_path_through graph k a b ≡ true
  through-more zero a b h = h
  through-more (suc k) a b h = more (has_path_through graph k a b) (has_path_through graph k a k && has_path_through graph k k b) (through-more k a b h)

  -- a round is closed under paths through its nodes
  through-closed : (k c : ℕ) → c < k → (a b : ℕ) → has_path_through graph k a c ≡ true → has_path_through graph k c b ≡ true → has_path_through graph k a b ≡ true
  through-closed zero c lt a b h g = absurd (omega arith)
  through-closed (suc k) c lt a b h g =
      let R : ℕ → ℕ → Bool = has_path_through graph k in
      elim (cases_eq c k) [
        | inl e ↦ at_last (R a b) (R a k) (R k k) (R k b) (let P : ℕ → Type 0 = λ m. (R a m || (R a k && R k m)) ≡ true in subst P e h) (let P : ℕ → Type 0 = λ m. (R m b || (R m k && R k b)) ≡ true in subst P e g)
        | inr ne ↦ (let below : c < k = omega arith in at_earlier (R a b) (R a c) (R a k) (R k c) (R c b) (R c k) (R k b) (through-closed k c below a b) (through-closed k c below a k) (through-closed k c below k b) h g)
      ]

  -- what a round says is a path
  pub path_from_through : (k a b : ℕ) → has_path_through graph k a b ≡ true → ProperPath graph a b
  path_from_through zero a b h = (b, edge_from_test a b h, Path.here)
  path_from_through (suc k) a b h =
      elim (split (has_path_through graph k a b) (has_path_through graph k a k) (has_path_through graph k k b) h) [
        | inl now ↦ path_from_through k a b now
        | inr both ↦ proper_join a k b (path_from_through k a k both.0) (path_from_through k k b both.1)
      ]

  -- an edge leads to a node
  pub edge_within : IsGraph graph → (a b : ℕ) → Contains (targets_of graph a) b → b < length graph
  edge_within ok a b e = elim (cases_lt a (length graph)) [ inl lt ↦ All-contains (λ t. t < length graph) (targets_of graph a) b (ok a [] lt) e | inr le ↦ none (get_or_past graph a [] le) e ]
    where
      none : targets_of graph a ≡ [] → Contains (targets_of graph a) b → b < length graph
      none is e = absurd (omega (arith, e.1, ap length is))

  -- and each path stands in the last round
  pub through_from_path : IsGraph graph → (a b c : ℕ) → Contains (targets_of graph a) b → Path graph b c → has_path_through graph (length graph) a c ≡ true
  through_from_path ok a b c e Path.here = through-more (length graph) a b (test_from_edge a b e)
  through_from_path ok a b c e (Path.step {b = m} f p) =
      through-closed (length graph) b (edge_within ok a b e) a c (through-more (length graph) a b (test_from_edge a b e)) (through_from_path ok b m c f p)

-- the table says which paths of one edge or more there are
pub proper_test : {graph rows : List (List ℕ)} → IsTable graph rows → (a b : ℕ) → IsTrue (has_bit_at rows a b) ↔ ProperPath graph a b
proper_test {graph} {rows} ok a b = (
  λ h. path_from_through graph (length graph) a b (sym (ok.bits a b) ∙ h),
  λ p. ok.bits a b ∙ through_from_path graph ok.nodes a p.0 b p.1 p.2,
)

pub path_from_proper : {graph : List (List ℕ)} (a b : ℕ) → ProperPath graph a b → Path graph a b
path_from_proper a b p = Path.step p.1 p.2

pub proper_from_path : {graph : List (List ℕ)} (a b : ℕ) → a ≢ b → Path graph a b → ProperPath graph a b
proper_from_path a b ne Path.here = absurd (ne refl)
proper_from_path a b ne (Path.step {b = m} e p) = (m, e, p)

-- there is a path of one edge or more, or there is none
pub proper_decided : (graph : List (List ℕ)) → IsGraph graph → (a b : ℕ) → ProperPath graph a b ⊎ (ProperPath graph a b → ⊥)
proper_decided graph ok a b = by (has_path_through graph (length graph) a b) refl
  where
    by : (t : Bool) → has_path_through graph (length graph) a b ≡ t → ProperPath graph a b ⊎ (ProperPath graph a b → ⊥)
    by true e = inl (path_from_through graph (length graph) a b e)
    by false e = inr (λ p. true≢false (sym (through_from_path graph ok a p.0 b p.1 p.2) ∙ e))
