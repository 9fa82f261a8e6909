-- What is looked up of events.
use Rattle.std.specs.Prelude.{◌≡◌}
use Rattle.cdi_event_tables.specs.Events.{is_event_class}
use Rattle.cdi_event_tables.specs.Observers.{observer_groups}
use Rattle.cdi_event_tables.specs.declared.ids.BodyIds.{BodyIds}
use Rattle.cdi_event_tables.specs.declared.tables.EventTables.{EventTables}
use Rattle.cdi_name_check.specs.NameSets.{HasNames}
use Rattle.cdi_planner.specs.Tables.{PlanTables}
use Rattle.cdi_resolve.specs.declared.bean_tables.BeanTables.{BeanTables}

-- the classes of events, and the observers of enabled beans
pub record AreEventTables (plans : PlanTables) (beans : BeanTables) (ids : BodyIds) (t : EventTables)
    : Type 0 where
  pub classes : HasNames (is_event_class plans.classes) t.classes
  pub observers : t.observers ≡ observer_groups plans beans.resolver ids beans.observers
