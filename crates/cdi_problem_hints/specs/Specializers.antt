-- The enabled beans that specialize one bean (Jakarta CDI 4.0, Inconsistent specialization), in words.
use Rattle.std.specs.Prelude.{ℕ, zero, suc, ◌==◌, ◌||◌, Bool, false, List, [], filter, length, map, Option, Some, None, option_and_then, option_map}
use Rattle.cdi_base.specs.declared.place.Place.{Place}
use Rattle.cdi_base.specs.declared.place.Place.TheVariants as places
use Rattle.cdi_bean_check.specs.ManagedBeans.{bean_class}
use Rattle.cdi_bean_check.specs.Qualifiers.{specialized_bean}
use Rattle.cdi_candidates.specs.Candidates.{place_of}
use Rattle.cdi_deployment.specs.declared.deployment.Class.{Class}
use Rattle.cdi_deployment.specs.declared.deployment.Deployment.{Deployment}
use Rattle.cdi_problem_hints.specs.Candidates.{candidates_text}
use Rattle.cdi_resolve.specs.Filters.{enabled_of}
use Rattle.cdi_resolve.specs.declared.bean_tables.BeanTables.{BeanTables}

-- the class whose bean that of a class directly specializes, if it does
abbrev pub specialized_by : List Class → ℕ → Option ℕ
specialized_by classes class =
    option_map (λ c. c.name) (option_and_then (specialized_bean classes) (bean_class classes class))

-- a bean specializes that of a class: it directly specializes that of this class or, for at most so many classes, that of one whose
-- bean specializes it
abbrev pub specializes : ℕ → List Class → ℕ → Option ℕ → Bool
specializes zero classes class above = false
specializes (suc n) classes class None = false
specializes (suc n) classes class (Some above) =
    above == class || specializes n classes class (specialized_by classes above)

-- the places of the enabled beans that specialize that of a class. None is reached by more classes than there are.
abbrev pub specializers : Deployment → BeanTables → ℕ → List Place
specializers d t class =
    map (λ b. place_of b.1)
    (filter (λ b. specializes (length d.classes) d.classes class b.1.specializes)
    (enabled_of t.resolver))

-- those that specialize the bean at a place
abbrev pub specializers_of : Deployment → BeanTables → Option Place → List Place
specializers_of d t (Some (places.Class class)) = specializers d t class
specializers_of d t _ = []

-- without tables none
abbrev pub specializers_at : Deployment → Option BeanTables → Option Place → List Place
specializers_at d None place = []
specializers_at d (Some t) place = specializers_of d t place

abbrev pub specializers_text : Deployment → Option BeanTables → Option Place → List ℕ
specializers_text d tables place = candidates_text d.names (specializers_at d tables place)
