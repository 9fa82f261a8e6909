use Rattle.cdi_run_tables.specs.Machine.{machine_tables}
use Rattle.cdi_frames.specs.Stacks.{KnownStack}
use Rattle.cdi_tests_calls.proofs.jobs.carry_out_in_turns.Given as goal

-- what the stack rests on is known
abbrev pub invariant-turns : goal.invariant-turns
invariant-turns g l = KnownStack (machine_tables l.runtime.tables) l.runtime.world l.stack
