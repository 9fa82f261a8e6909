use Rattle.std.proofs.Common.{◌≡◌, map, subst}
use Rattle.std.specs.Prelude.{IfOk}
use Rattle.std.specs.List.{All}
use Rattle.cdi_machine.specs.Resolved.{IsResolvedObserver}
use Rattle.cdi_machine.specs.Told.{observer_told}
use Rattle.cdi_run_tables.specs.Machine.{machine_tables}
use Rattle.cdi_runtime.proofs.served_tables.ServedTablesTables.observers.Goals as goal

pub returns-clause-heard : goal.returns-clause-heard
returns-clause-heard c =
    subst (λ t. IfOk c.observers.result (λ groups. map (map observer_told) groups ≡ (machine_tables t).observers c.args.class c.args.qualifiers.now)) c.self.view_is c.observers.ensures.heard

pub returns-clause-resolved : goal.returns-clause-resolved
returns-clause-resolved c =
    subst (λ t. IfOk c.observers.result (λ groups. All (All (IsResolvedObserver (machine_tables t).resolve)) groups)) c.self.view_is c.observers.ensures.resolved
