use Rattle.std.proofs.Common.{◌≡◌, take}
use Rattle.cdi_text.specs.EntryText.{trace_lines}
use Rattle.cdi_text.proofs.entry_text.write_trace.Given as goal

abbrev pub invariant-loop-entry : goal.invariant-loop-entry
invariant-loop-entry l = l.lines.items ≡ trace_lines l.names (take l.entry-index l.trace)
