use Rattle.std.proofs.Common.{subst}
use Rattle.std.specs.List.{AllZip}
use Rattle.cdi_run_tables.specs.Index.{AreObserversOf}
use Rattle.cdi_run_tables.specs.Observers.{planned_groups}
use Rattle.cdi_run_tables.proofs.tables.RunTables.numbered_observers.Goals as goal

pub returns : goal.returns
returns c =
    rw c.as_slice.ensures (subst (λ p. AllZip (AreObserversOf p) (planned_groups p) c.self.inside.index.observers) c.self.view_is c.self.invariant.index.observers)
