use Rattle.cdi_program.proofs.telling.tell_fault.Goals as goal

pub returns-clause-flushed : goal.returns-clause-flushed
returns-clause-flushed g c =
    record { result = c.flush.result; kept = c.flush.ensures.bytes; failed = c.flush.ensures.failed; passed_on = c.flush.ensures.passed_on }

pub returns-clause-tells : goal.returns-clause-tells
returns-clause-tells g c = rw c.text.ensures at c.tell.ensures
