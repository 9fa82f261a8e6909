-- The beans and interceptors as nodes of a graph: beans by their indices, and behind them interceptors by their places.
use Rattle.std.specs.Prelude.{ℕ, ◌≡◌, ◌+◌, ◌-◌, ◌<◌, List, [], Contains, Option, Some, None, nat_lt, length, if◌then◌else◌}
use Rattle.std.specs.List.{filter_map}
use Rattle.cdi_paths.specs.Graph.{targets_of}
use Rattle.cdi_live.specs.Needs.{NeedsThose}
use Rattle.cdi_live.specs.OwnPoints.{Inventory}
use Rattle.cdi_live.specs.declared.node.Node.{Node}
use Rattle.cdi_live.specs.declared.node.Node.TheVariants as nodes

-- how many beans and interceptors there are
pub record Counts : Type 0 where
  pub beans : ℕ
  pub interceptors : ℕ

-- the number of a node, if it is one of so many
abbrev pub number_of : Counts → Node → Option ℕ
number_of n (nodes.Bean i) = if nat_lt i n.beans then Some i else None
number_of n (nodes.Interceptor k) = if nat_lt k n.interceptors then Some (n.beans + k) else None

-- the node of a number
abbrev pub node_of : Counts → ℕ → Node
node_of n x = if nat_lt x n.beans then nodes.Bean x else nodes.Interceptor (x - n.beans)

-- two lists have the same items, in any order, and each as often as it likes
pub record HaveSameItems (xs ys : List ℕ) : Type 0 where
  pub sound : (x : ℕ) → Contains xs x → Contains ys x
  pub complete : (x : ℕ) → Contains ys x → Contains xs x

-- a row lists the numbers of what a node needs
pub data IsRowOf (s : Inventory) (n : Counts) (x : Node) (row : List ℕ) : Type 0 where
  needing : (those : List Node) → NeedsThose s x those
      → HaveSameItems row (filter_map (number_of n) those) → IsRowOf s n x row
  unknown : ((those : List Node) → NeedsThose s x those → ⊥) → row ≡ [] → IsRowOf s n x row

-- rows for the first beans
pub record HasBeanRows (s : Inventory) (n : Counts) (count : ℕ) (graph : List (List ℕ)) : Type 0 where
  pub len : length graph ≡ count
  pub rows : (i : ℕ) → i < count → IsRowOf s n (nodes.Bean i) (targets_of graph i)

-- rows for all beans and for the first interceptors
pub record HasRows (s : Inventory) (n : Counts) (count : ℕ) (graph : List (List ℕ)) : Type 0 where
  pub len : length graph ≡ n.beans + count
  pub bean_rows : (i : ℕ) → i < n.beans → IsRowOf s n (nodes.Bean i) (targets_of graph i)
  pub interceptor_rows : (k : ℕ) → k < count
      → IsRowOf s n (nodes.Interceptor k) (targets_of graph (n.beans + k))
