-- The cycle on which a dependent bean stands that needs itself, in words.
use Rattle.std.specs.Prelude.{ℕ, List, [], Option, Some, None}
use Rattle.cdi_base.specs.declared.place.Place.{Place}
use Rattle.cdi_cycle_hints.specs.Cycle.{cycle_text}
use Rattle.cdi_cycle_hints.specs.Needs.{needs_of}
use Rattle.cdi_deployment.specs.declared.deployment.Deployment.{Deployment}
use Rattle.cdi_resolve.specs.declared.bean_tables.BeanTables.{BeanTables}

-- the places of the beans on a cycle through the one at a place, by the tables of the deployment, if there are any
abbrev pub dependent_cycle_text : Deployment → Option BeanTables → Option Place → List ℕ
dependent_cycle_text d None place = []
dependent_cycle_text d (Some t) None = []
dependent_cycle_text d (Some t) (Some place) =
    cycle_text d.names t.resolver.beans (needs_of d t) place
