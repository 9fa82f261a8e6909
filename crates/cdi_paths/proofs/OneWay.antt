-- In a graph without a cycle paths lead one way.
use Rattle.std.proofs.Common.{◌≡◌, ℕ, List, refl}
use Rattle.cdi_paths.specs.Graph.{IsAcyclic, Path}
use Rattle.cdi_paths.proofs.Paths.{join}

pub one_way : (graph : List (List ℕ)) → IsAcyclic graph → (a b : ℕ) → Path graph a b → Path graph b a → a ≡ b
one_way graph acyclic a b Path.here q = refl
one_way graph acyclic a b (Path.step {b = m} e p) q = absurd (acyclic a (m, e, join graph p q))
