use Rattle.std.proofs.Common.{◌≡◌, take}
use Rattle.cdi_run_tables.proofs.asked.CommandAnswer.new.Given as goal

abbrev pub invariant-loop-written : goal.invariant-loop-written
invariant-loop-written l = l.qualifiers ≡ take l.written-index l.written-items
