use Rattle.cdi_event_tables.specs.Observers.{is_heard_by}
use Rattle.cdi_run_tables.proofs.Hearing.{heard_alone}
use Rattle.cdi_run_tables.proofs.events.is_heard.Goals as goal

pub returns : goal.returns
returns c =
    heard_alone (is_heard_by c.args.event.now.declared.now c.args.event.now.class c.args.event.now.qualifiers.now) c.args.observers.now c.args.place c.in_ok-heard.heard c.in_ok-heard.ensures c.is_empty.result c.is_empty.ensures
