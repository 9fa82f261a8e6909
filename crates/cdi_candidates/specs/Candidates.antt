-- The beans that typesafe resolution leaves (Jakarta CDI 4.0, Typesafe resolution, Unsatisfied and ambiguous dependencies), among the
-- enabled beans, each with its index.
use Rattle.std.specs.Prelude.{ℕ, List, [], ◌∷◌, map, Option, Some, None, if◌then◌else◌}
use Rattle.std.specs.List.{list_any}
use Rattle.cdi_base.specs.declared.place.Place.{Place}
use Rattle.cdi_base.specs.declared.place.Place.TheVariants as places
use Rattle.cdi_beans.specs.declared.bean.Bean.{Bean}
use Rattle.cdi_beans.specs.declared.bean.BeanKind.{BeanKind}
use Rattle.cdi_beans.specs.declared.bean.BeanKind.TheVariants as kinds
use Rattle.cdi_quals.specs.declared.qualifier.Qualifier.{Qualifier}
use Rattle.cdi_resolve.specs.Resolution.{eligible, alternatives, all_have_priority, highest}

-- if all have a priority, those of the highest
abbrev pub by_priority : List (ℕ × Bean) → List (ℕ × Bean)
by_priority beans = if all_have_priority beans then highest beans else beans

-- of eligible beans those that are alternatives, if some are
abbrev pub among_eligible : List (ℕ × Bean) → List (ℕ × Bean)
among_eligible beans =
    if list_any (λ b. b.1.alternative) beans then by_priority (alternatives beans) else beans

-- the beans that are left for a type and qualifiers
abbrev pub left : ℕ → List Qualifier → List (ℕ × Bean) → List (ℕ × Bean)
left type qualifiers beans = among_eligible (eligible type qualifiers beans)

-- where a bean of a kind is declared: at its class, or at the producer
abbrev pub place_in : ℕ → BeanKind → Place
place_in class kinds.Managed = places.Class class
place_in class (kinds.ProducerMethod member) = places.Member class member
place_in class (kinds.ProducerField member) = places.Member class member

abbrev pub place_of : Bean → Place
place_of b = place_in b.class b.kind

abbrev pub candidates : ℕ → List Qualifier → List (ℕ × Bean) → List Place
candidates type qualifiers beans = map (λ b. place_of b.1) (left type qualifiers beans)

abbrev pub place_if : Option Bean → List Place
place_if None = []
place_if (Some b) = place_of b ∷ []
