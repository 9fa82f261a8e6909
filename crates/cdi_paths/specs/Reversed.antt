-- A graph with each edge the other way round.
use Rattle.std.specs.Prelude.{ℕ, ◌≡◌, ◌↔◌, ◌⊎◌, List, length, Contains}
use Rattle.cdi_paths.specs.Graph.{targets_of, IsGraph}

pub record IsReversed (graph reversed : List (List ℕ)) : Type 0 where
  pub len : length reversed ≡ length graph
  pub nodes : IsGraph reversed
  pub edges : (a b : ℕ) → Contains (targets_of reversed a) b ↔ Contains (targets_of graph b) a

-- a row has what it had, and the node
abbrev pub HasAlso : ℕ → List ℕ → List ℕ → Type 0
HasAlso node old new = (b : ℕ) → Contains new b ↔ (Contains old b ⊎ (node ≡ b))

-- each of the targets has a node more in its row
pub record HasSource (node : ℕ) (targets : List ℕ) (old new : List (List ℕ)) : Type 0 where
  pub rows : (a b : ℕ) → Contains (targets_of new a) b
      ↔ (Contains (targets_of old a) b ⊎ (Contains targets a × (node ≡ b)))
