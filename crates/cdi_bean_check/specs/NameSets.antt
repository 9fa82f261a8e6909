-- Sets of names.
use Rattle.std.specs.Prelude.{ℕ, ◌≡◌, nat_eq, List}
use Rattle.std.specs.HashSet.{HashSet, contains}
use Rattle.cdi_deployment.specs.Lists.{stands_in}

-- a set has the names of a list
pub record HasNames {S : Type 0} (names : List ℕ) (set : HashSet ℕ S) : Type 0 where
  pub same : (name : ℕ) → contains nat_eq set name ≡ stands_in names name
