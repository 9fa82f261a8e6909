use Rattle.std.proofs.Common.{◌∙◌, ap}
use Rattle.cdi_run_tables.specs.Observers.{planned_groups}
use Rattle.cdi_run_tables.proofs.tables.RunTables.observer_groups.Goals as goal

pub returns : goal.returns
returns c = c.as_slice.ensures ∙ c.self.invariant.index.events.observers ∙ ap planned_groups c.self.view_is
