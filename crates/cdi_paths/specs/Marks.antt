-- Nodes with a mark, and walks to nodes without one.
use Rattle.std.specs.Prelude.{ℕ, suc, [], ◌∷◌, ◌≡◌, ◌+◌, ◌↔◌, List, Bool, true, false, ◌⊎◌, IsTrue, length, slice_index_or, slice_set, Contains}
use Rattle.cdi_paths.specs.Graph.{targets_of, ProperPath}

-- past the last mark no node has one
abbrev pub is_marked : List Bool → ℕ → Bool
is_marked marks a = slice_index_or marks a false

-- how many of the nodes have no mark
abbrev pub unmarked_count : List Bool → ℕ
unmarked_count [] = 0
unmarked_count (true ∷ marks) = unmarked_count marks
unmarked_count (false ∷ marks) = suc (unmarked_count marks)

-- a target that has no mark yet
pub record IsNewTarget (targets : List ℕ) (marks : List Bool) (a : ℕ) : Type 0 where
  pub listed : Contains targets a
  pub unmarked : is_marked marks a ≡ false

-- the targets have marks, and those that had none stand on the list of what is ahead
pub record HasMarked (targets : List ℕ) (old new : List Bool) (ahead more : List ℕ) : Type 0 where
  pub kept : (a : ℕ) → IsTrue (is_marked old a) → IsTrue (is_marked new a)
  pub all : (a : ℕ) → Contains targets a → IsTrue (is_marked new a)
  pub marked : (a : ℕ) → IsTrue (is_marked new a)
      → IsTrue (is_marked old a) ⊎ (IsNewTarget targets old a × Contains more a)
  pub waits : (a : ℕ) → Contains ahead a → Contains more a
  pub added : (a : ℕ) → Contains more a → Contains ahead a ⊎ IsNewTarget targets old a
  pub count : unmarked_count new + length more ≡ unmarked_count old + length ahead

-- what a walk from a root comes to by one edge or more, each to a node without a mark
pub data IsFound (graph : List (List ℕ)) (marks : List Bool) (root : ℕ) : ℕ → Type 0 where
  first : {a : ℕ} → IsNewTarget (targets_of graph root) marks a → IsFound graph marks root a
  later : {a b : ℕ} → IsFound graph marks root a → IsNewTarget (targets_of graph a) marks b
      → IsFound graph marks root b

-- each edge from a node with a mark leads to one with a mark
abbrev pub IsClosed : List (List ℕ) → List Bool → Type 0
IsClosed graph marks = (a b : ℕ) → IsTrue (is_marked marks a) → Contains (targets_of graph a) b
    → IsTrue (is_marked marks b)

-- the marks after a walk from a root
pub record HasWalked (graph : List (List ℕ)) (root : ℕ) (old new : List Bool) : Type 0 where
  pub kept : (a : ℕ) → IsTrue (is_marked old a) → IsTrue (is_marked new a)
  pub found : (a : ℕ) → IsTrue (is_marked new a)
      → IsTrue (is_marked old a) ⊎ IsFound graph old root a
  pub begun : (b : ℕ) → Contains (targets_of graph root) b → IsTrue (is_marked new b)
  pub closed : IsClosed graph new

-- the nodes with a mark are those that lie on a cycle
abbrev pub HasMarkedCycles : List (List ℕ) → List Bool → Type 0
HasMarkedCycles graph marks = (a : ℕ) → IsTrue (is_marked marks a) ↔ ProperPath graph a a

-- the marks after a walk from a root, with one for the root, and whether the walk came back to it
pub record HasSeenGroup (graph : List (List ℕ)) (root : ℕ) (old new : List Bool) (back : Bool) : Type 0 where
  pub walked : List Bool
  pub len : length walked ≡ length old
  pub walk : HasWalked graph root old walked
  pub back_is : back ≡ is_marked walked root
  pub new_is : new ≡ slice_set walked root true
