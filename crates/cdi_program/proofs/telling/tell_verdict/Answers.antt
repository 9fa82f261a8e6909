use Rattle.cdi_program.proofs.telling.tell_verdict.Goals as goal

pub returns-in-Refused-clause-tells : goal.returns-in-Refused-clause-tells
returns-in-Refused-clause-tells g c = rw c.in-Refused.is c.tell_refused.ensures

pub returns-in-Accepted-clause-tells : goal.returns-in-Accepted-clause-tells
returns-in-Accepted-clause-tells g c = rw c.in-Accepted.is c.tell_warning.ensures
