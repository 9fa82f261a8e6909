-- What a type and qualifiers resolve to (Jakarta CDI 4.0, Typesafe resolution, Unsatisfied and ambiguous dependencies), among the
-- enabled beans, each with its index.
use Rattle.std.specs.Prelude.{ℕ, ℤ, ◌≡◌, true, Bool, List, [], ◌∷◌, Option, Some, None, is_some, fold, filter, Contains, if◌then◌else◌}
use Rattle.std.specs.Int.{int_max}
use Rattle.std.specs.List.{list_all}
use Rattle.cdi_beans.specs.declared.bean.Bean.{Bean}
use Rattle.cdi_quals.specs.declared.qualifier.Qualifier.{Qualifier}
use Rattle.cdi_resolve.specs.Filters.{fits, has_priority}
use Rattle.cdi_resolve.specs.declared.resolution.Resolution.{Resolution}
use Rattle.cdi_resolve.specs.declared.resolution.Resolution.TheVariants.{Nothing, One, Many}

-- the enabled beans that have the type and each required qualifier
abbrev pub eligible : ℕ → List Qualifier → List (ℕ × Bean) → List (ℕ × Bean)
eligible type qualifiers beans = filter (λ b. fits type qualifiers b.1) beans

-- alternatives, and producers that alternatives declare
abbrev pub alternatives : List (ℕ × Bean) → List (ℕ × Bean)
alternatives beans = filter (λ b. b.1.alternative) beans

abbrev pub all_have_priority : List (ℕ × Bean) → Bool
all_have_priority beans = list_all (λ b. is_some b.1.priority) beans

abbrev pub greater : Option ℤ → Option ℤ → Option ℤ
greater None q = q
greater (Some p) None = Some p
greater (Some p) (Some q) = Some (int_max p q)

-- the greatest of the priorities of some beans
abbrev pub greatest_priority : List (ℕ × Bean) → Option ℤ
greatest_priority beans = fold (λ p b. greater p b.1.priority) None beans

abbrev pub with_greatest : Option ℤ → List (ℕ × Bean) → List (ℕ × Bean)
with_greatest None beans = []
with_greatest (Some p) beans = filter (λ b. has_priority p b.1) beans

-- those of the highest priority
abbrev pub highest : List (ℕ × Bean) → List (ℕ × Bean)
highest beans = with_greatest (greatest_priority beans) beans

-- no bean, the one bean, or many
abbrev pub sole : List (ℕ × Bean) → Resolution
sole [] = Nothing
sole (b ∷ []) = One b.0
sole (a ∷ b ∷ bs) = Many

-- just one, else many
abbrev pub just_one : List (ℕ × Bean) → Resolution
just_one [] = Many
just_one (b ∷ []) = One b.0
just_one (a ∷ b ∷ bs) = Many

-- if all have a priority, the one of the highest, if it is just one
abbrev pub by_priority : List (ℕ × Bean) → Resolution
by_priority beans = if all_have_priority beans then just_one (highest beans) else Many

-- of alternatives: if just one, that
abbrev pub among_alternatives : List (ℕ × Bean) → Resolution
among_alternatives [] = Many
among_alternatives (b ∷ []) = One b.0
among_alternatives (a ∷ b ∷ bs) = by_priority (a ∷ b ∷ bs)

-- of eligible beans: if just one, that; if several, those that are alternatives
abbrev pub among_eligible : List (ℕ × Bean) → Resolution
among_eligible [] = Nothing
among_eligible (b ∷ []) = One b.0
among_eligible (a ∷ b ∷ bs) = among_alternatives (alternatives (a ∷ b ∷ bs))

abbrev pub resolution : ℕ → List Qualifier → List (ℕ × Bean) → Resolution
resolution type qualifiers beans = among_eligible (eligible type qualifiers beans)

-- an eligible bean, by its index
pub record IsEligible (type : ℕ) (qualifiers : List Qualifier) (beans : List (ℕ × Bean)) (index : ℕ)
    : Type 0 where
  pub bean : Bean
  pub stands : Contains beans (index, bean)
  pub fitting : fits type qualifiers bean ≡ true
