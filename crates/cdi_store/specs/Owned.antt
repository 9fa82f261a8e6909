-- Whose dependents the instances are.
use Rattle.std.specs.Prelude.{◌≡◌, ℕ, ◌==◌, ◌<◌, ◌≤◌, List, [], count_by, flat_map, Option, Some, None, IfSome}
use Rattle.cdi_base.specs.Maps.{at}
use Rattle.cdi_store.specs.declared.instance.Owner.{Owner}
use Rattle.cdi_store.specs.declared.instance.Owner.TheVariants as owners
use Rattle.cdi_store.specs.declared.instance.Instance.{Instance}
use Rattle.cdi_store.specs.Live.{Instances}

-- how often a number stands in a list
unfoldable pub times : ℕ → List ℕ → ℕ
times n numbers = count_by (λ m. m == n) numbers

abbrev pub dependents_in : Option Instance → List ℕ
dependents_in None = []
dependents_in (Some o) = o.dependents

-- the dependents of an owner, if that is a live instance
abbrev pub dependents_of : Instances → Owner → List ℕ
dependents_of live (owners.Instance m) = dependents_in (at live m)
dependents_of live (owners.Context context) = []
dependents_of live owners.Borrower = []

-- the dependents of all instances
abbrev pub all_dependents : Instances → List ℕ
all_dependents live = flat_map (λ p. p.1.dependents) live

-- No number stands twice among the dependents of all instances, a live instance stands only among those of its owner, and
-- each that stands there is at least 1 and below the next number.
pub record AreOwned (live : Instances) (next : ℕ) : Type 0 where
  pub once : (n : ℕ) → times n (all_dependents live) ≤ 1
  pub owner : (n : ℕ) → IfSome (at live n)
      (λ o. times n (dependents_of live o.owner) ≡ times n (all_dependents live))
  pub given : (n : ℕ) → 0 < times n (all_dependents live) → (0 < n) × (n < next)
