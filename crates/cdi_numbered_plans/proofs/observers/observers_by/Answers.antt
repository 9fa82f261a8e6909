use Rattle.std.proofs.Common.{◌∙◌, sym}
use Rattle.cdi_numbered_plans.proofs.Told.{no_observers, observers_made}
use Rattle.cdi_numbered_plans.proofs.observers.observers_by.Goals as goal

pub returns-then-can_number_observers-clause-observers : goal.returns-then-can_number_observers-clause-observers
returns-then-can_number_observers-clause-observers c =
    observers_made c.args.numbering.now c.args.observers.now c.observers_of.result c.observers_of.ensures.observers

pub returns-else-can_number_observers-clause-observers : goal.returns-else-can_number_observers-clause-observers
returns-else-can_number_observers-clause-observers c =
    rw c.empty.ensures (no_observers c.args.numbering.now c.args.observers.now (sym c.can_number_observers.ensures ∙ c.if-can_number_observers.false))
