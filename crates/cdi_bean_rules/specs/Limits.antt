-- How many beans and observers there are.
use Rattle.std.specs.Prelude.{ℕ, ◌≡◌, ◌+◌, ◌<◌, min, Bool, true, false, List, filter, count_by, sum_by, if◌then◌else◌, ◌⊎◌}
use Rattle.std.specs.List.{AllZip}
use Rattle.cdi_deployment.specs.declared.deployment.Class.{Class}
use Rattle.cdi_deployment.specs.declared.deployment.Member.{Member}
use Rattle.cdi_deployment.specs.declared.deployment.Member.TheVariants as members
use Rattle.cdi_types.specs.declared.declaration.TypeDeclaration.{TypeDeclaration}
use Rattle.cdi_bean_check.specs.Inherited.{AreMembersOf}
use Rattle.cdi_bean_check.specs.ManagedBeans.{is_bean}

abbrev pub is_producer : Member → Bool
is_producer (members.Producer p) = true
is_producer (members.ProducerField p) = true
is_producer m = false

-- a managed bean and its products
abbrev pub beans_in : Class → ℕ
beans_in c = if is_bean c then 1 + count_by is_producer c.members else 0

abbrev pub bean_count : List Class → ℕ
bean_count classes = sum_by beans_in classes

abbrev pub is_observer : Member → Bool
is_observer (members.Observer o) = true
is_observer m = false

abbrev pub observer_count : List (Class × Member) → ℕ
observer_count has = count_by (λ d. is_observer d.1) has

-- how many observers a bean has, those that it inherits too
pub record IsObserverCountOf (classes : List Class) (types : List TypeDeclaration) (bean : Class)
    (count : ℕ) : Type 0 where
  pub has : List (Class × Member)
  pub are : AreMembersOf classes types bean has
  pub sum : count ≡ observer_count has

-- how many observers the beans have, those that they inherit too
pub record IsObserverCount (classes : List Class) (types : List TypeDeclaration) (count : ℕ)
    : Type 0 where
  pub members_of_beans : List (List (Class × Member))
  pub each : AllZip (AreMembersOf classes types) (filter is_bean classes) members_of_beans
  pub sum : count ≡ sum_by observer_count members_of_beans

-- the same, counted up to a number
pub record IsObserverCountUpTo (classes : List Class) (types : List TypeDeclaration)
    (most count : ℕ) : Type 0 where
  pub all : ℕ
  pub is : IsObserverCount classes types all
  pub counted : count ≡ min all most

-- P22 TooMany: over 4,096 managed beans and products together, or over 16,384 observers with the inherited ones
abbrev pub HasTooMany : List Class → List TypeDeclaration → Type 0
HasTooMany classes types =
    (4096 < bean_count classes)
    ⊎ ((count : ℕ) × IsObserverCount classes types count × (16384 < count))
