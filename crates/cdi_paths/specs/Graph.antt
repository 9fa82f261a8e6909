-- A finite directed graph, as the list of each node's direct targets, and its paths.
use Rattle.std.specs.Prelude.{ℕ, ◌<◌, List, [], length, slice_index_or, All, Contains}

-- the nodes that an edge leads to from here
abbrev pub targets_of : List (List ℕ) → ℕ → List ℕ
targets_of graph a = slice_index_or graph a []

-- each target is a node
abbrev pub IsGraph : List (List ℕ) → Type 0
IsGraph graph = All (All (λ b. b < length graph)) graph

-- the reflexive transitive closure of the edges
pub data Path (graph : List (List ℕ)) : ℕ → ℕ → Type 0 where
  here : {a : ℕ} → Path graph a a
  step : {a b c : ℕ} → Contains (targets_of graph a) b → Path graph b c → Path graph a c

-- a path of one edge or more
abbrev pub ProperPath : List (List ℕ) → ℕ → ℕ → Type 0
ProperPath graph a c = (b : ℕ) × Contains (targets_of graph a) b × Path graph b c

-- no node leads back to itself
abbrev pub IsAcyclic : List (List ℕ) → Type 0
IsAcyclic graph = (a : ℕ) → ProperPath graph a a → ⊥
