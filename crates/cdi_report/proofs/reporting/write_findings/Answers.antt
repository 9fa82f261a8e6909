use Rattle.std.proofs.Common.{refl}
use Rattle.cdi_report.proofs.reporting.write_findings.Goals as goal

pub returns-in-Ok-clause-writes : goal.returns-in-Ok-clause-writes
returns-in-Ok-clause-writes g c =
    record { result = c.write_through.result; written = c.write_through.ensures.bytes; is_verdict = rw (c.in-Ok.is, c.if-is_accepted.true) refl }

pub returns-in-Ok-2-clause-writes : goal.returns-in-Ok-2-clause-writes
returns-in-Ok-2-clause-writes g c =
    record { result = c.write_through.result; written = c.write_through.ensures.bytes; is_verdict = rw (c.in-Ok-2.is, c.if-is_accepted.false) refl }

pub returns-in-Err-clause-writes : goal.returns-in-Err-clause-writes
returns-in-Err-clause-writes g c =
    record { result = c.write_through.result; written = c.write_through.ensures.bytes; is_verdict = rw c.in-Err.is refl }
