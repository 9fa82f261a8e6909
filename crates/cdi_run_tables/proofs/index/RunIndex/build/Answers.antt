use Rattle.cdi_run_tables.specs.Seen.{parts_seen}
use Rattle.cdi_run_tables.proofs.index.RunIndex.build.Goals as goal

pub returns : goal.returns
returns c = record {
  names = c.requires.names;
  checked = rw c.as_slice.ensures at c.in_ok-checked_exceptions.ensures;
  events = c.requires.events;
  interceptor_steps = c.in_ok-all_steps.ensures.all;
  observers = c.in_ok-observers_of.ensures.all;
  asked = c.in_ok-new.ensures (parts_seen c.args.parts.now);
}
