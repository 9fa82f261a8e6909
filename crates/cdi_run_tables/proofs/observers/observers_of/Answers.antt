use Rattle.cdi_run_tables.proofs.Observing.{groups_of_events}
use Rattle.cdi_run_tables.specs.Seen.{parts_seen}
use Rattle.cdi_run_tables.proofs.observers.observers_of.Goals as goal

pub returns-clause-all : goal.returns-clause-all
returns-clause-all c =
    groups_of_events (parts_seen c.args._parts.now) c.args.numbering.now c.requires.numbering c.args.events.now c.requires.events c.all_observers.result (rw c.as_slice.ensures at c.all_observers.ensures.all)
