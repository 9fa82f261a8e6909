-- The order in which a walk in depth is done with the nodes of a graph.
use Rattle.std.specs.Prelude.{ℕ, ◌≡◌, ◌<◌, ◌≤◌, List, length, slice_index_or, All, Contains}
use Rattle.cdi_paths.specs.Graph.{targets_of, Path}

-- what stands at a place of a list
abbrev pub IsAt : {X : Type 0} → List X → ℕ → X → Type 0
IsAt xs i x = (i < length xs) × (slice_index_or xs i x ≡ x)

-- a target that is later than its source leads to all that is between them
abbrev pub IsInOrder : List (List ℕ) → List ℕ → Type 0
IsInOrder graph order = (i j k a b c : ℕ) → IsAt order i a → IsAt order j b → IsAt order k c
    → i ≤ j → j < k → Contains (targets_of graph a) c → Path graph c b

pub record IsFinishOrder (graph : List (List ℕ)) (order : List ℕ) : Type 0 where
  pub nodes : All (λ a. a < length graph) order
  pub all : (a : ℕ) → a < length graph → Contains order a
  pub ordered : IsInOrder graph order
