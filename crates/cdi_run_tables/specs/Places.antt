-- Where a bean stands, and what plans are made from.
use Rattle.cdi_base.specs.declared.place.Place.{Place}
use Rattle.cdi_base.specs.declared.place.Place.TheVariants as places
use Rattle.cdi_beans.specs.declared.bean.Bean.{Bean}
use Rattle.cdi_beans.specs.declared.bean.BeanKind.TheVariants as kinds
use Rattle.cdi_deployment.specs.declared.deployment.Deployment.{Deployment}
use Rattle.cdi_planner.specs.Tables.{PlanTables}
use Rattle.cdi_resolve.specs.declared.bean_tables.BeanTables.{BeanTables}

-- a managed bean has the place of its class, and a product that of its producer
abbrev pub place_of : Bean → Place
place_of b = elim b.kind [
  | kinds.Managed ↦ places.Class b.class
  | kinds.ProducerMethod name ↦ places.Member b.class name
  | kinds.ProducerField name ↦ places.Member b.class name
]

-- what the plans of a deployment's beans are made from
abbrev pub plan_tables : Deployment → BeanTables → PlanTables
plan_tables d t =
    record {
      types = t.declared.types;
      qualifiers = t.declared.qualifiers;
      classes = d.classes;
      chains = t.chains;
    }
