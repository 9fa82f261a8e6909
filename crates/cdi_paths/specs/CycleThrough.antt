-- A cycle through a node. What is known of the ways to a goal is the next node on each, as far as one is known; it grows in rounds.
use Rattle.std.specs.Prelude.{ℕ, zero, suc, ◌≡◌, ◌==◌, ◌||◌, Bool, List, [], ◌∷◌, length, map, replicate, find, slice_index_or, is_some, Contains, Option, Some, None, if◌then◌else◌}
use Rattle.std.specs.List.{enumerate_from}
use Rattle.cdi_paths.specs.Graph.{targets_of, ProperPath}

-- the next node on the way from a node
abbrev pub hop_of : List (Option ℕ) → ℕ → Option ℕ
hop_of hops a = slice_index_or hops a None

-- a node is the goal, or its way there is known
abbrev pub leads : ℕ → List (Option ℕ) → ℕ → Bool
leads goal hops a = (a == goal) || is_some (hop_of hops a)

abbrev pub first_leading : ℕ → List (Option ℕ) → List ℕ → Option ℕ
first_leading goal hops targets = find (leads goal hops) targets

-- a way that is known stays, and else goes to the first target that leads to the goal
abbrev pub hop_by : ℕ → List (Option ℕ) → List ℕ → Option ℕ → Option ℕ
hop_by goal hops targets (Some a) = Some a
hop_by goal hops targets None = first_leading goal hops targets

abbrev pub next_hop : ℕ → List (Option ℕ) → ℕ → List ℕ → Option ℕ
next_hop goal hops a targets = hop_by goal hops targets (hop_of hops a)

-- the next round
abbrev pub next_hops : ℕ → List (List ℕ) → List (Option ℕ) → List (Option ℕ)
next_hops goal graph hops = map (λ p. next_hop goal hops p.0 p.1) (enumerate_from 0 graph)

-- so many rounds, or fewer if the way of the goal back to itself is known
abbrev pub hops_after : ℕ → List (List ℕ) → ℕ → List (Option ℕ) → List (Option ℕ)
hops_after goal graph zero hops = hops
hops_after goal graph (suc n) hops =
    if is_some (hop_of hops goal) then hops
    else hops_after goal graph n (next_hops goal graph hops)

-- as many rounds as there are nodes, with nothing known before
abbrev pub hops_to : ℕ → List (List ℕ) → List (Option ℕ)
hops_to goal graph = hops_after goal graph (length graph) (replicate (length graph) None)

abbrev pub way_on : ℕ → (ℕ → List ℕ) → Option ℕ → List ℕ
way_on goal rest None = []
way_on goal rest (Some a) = a ∷ (if a == goal then [] else rest a)

-- the nodes behind a node on its way to the goal, so many at most
abbrev pub way : ℕ → List (Option ℕ) → ℕ → ℕ → List ℕ
way goal hops zero a = []
way goal hops (suc n) a = way_on goal (way goal hops n) (hop_of hops a)

abbrev pub cycle_by : ℕ → List (Option ℕ) → Option ℕ → Option (List ℕ)
cycle_by a hops None = None
cycle_by a hops (Some b) = Some (a ∷ way a hops (length hops) a)

-- the cycle that goes from a node back to it, if there is one
abbrev pub cycle_in : ℕ → List (Option ℕ) → Option (List ℕ)
cycle_in a hops = cycle_by a hops (hop_of hops a)

abbrev pub cycle_through : List (List ℕ) → ℕ → Option (List ℕ)
cycle_through graph a = cycle_in a (hops_to a graph)

-- these nodes, behind a first one, each of which an edge leads to from the one before, and the last of which is this one
pub data IsWalk (graph : List (List ℕ)) : ℕ → ℕ → List ℕ → Type 0 where
  last : {a b : ℕ} → Contains (targets_of graph a) b → IsWalk graph a b (b ∷ [])
  step : {a b c : ℕ} {nodes : List ℕ} → Contains (targets_of graph a) b
      → IsWalk graph b c nodes → IsWalk graph a c (b ∷ nodes)

-- a walk that begins and ends with the node; none only if no path leads from it back to it
abbrev pub IsCycleThrough : List (List ℕ) → ℕ → Option (List ℕ) → Type 0
IsCycleThrough graph a None = ProperPath graph a a → ⊥
IsCycleThrough graph a (Some nodes) = (rest : List ℕ) × (nodes ≡ a ∷ rest) × IsWalk graph a a rest
