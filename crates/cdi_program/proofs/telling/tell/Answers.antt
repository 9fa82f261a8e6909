use Rattle.cdi_program.proofs.telling.tell.Goals as goal

pub returns : goal.returns
returns g c = (c.write_cause.result, record { written = c.write_cause.ensures.bytes; failed = c.write_cause.ensures.failed; passed_on = c.write_cause.ensures.passed_on })
