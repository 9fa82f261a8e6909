use Rattle.cdi_tests_calls.proofs.jobs.carry_out_in_turns.Goals as goal

pub turns-preserved : goal.turns-preserved
turns-preserved g c = rw c.in-Ok-Running.field-0-is at c.in-Ok-Running.ensures.known
