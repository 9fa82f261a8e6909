use Rattle.std.proofs.Common.{refl}
use Rattle.cdi_shell.proofs.drive.refuse.Goals as goal

pub returns-in-Ok-clause-refuses : goal.returns-in-Ok-clause-refuses
returns-in-Ok-clause-refuses g c = record { result = c.write_through.result; written = c.write_through.ensures.bytes; is_ending = rw c.in-Ok.is refl }

pub returns-in-Err-clause-refuses : goal.returns-in-Err-clause-refuses
returns-in-Err-clause-refuses g c = record { result = c.write_through.result; written = c.write_through.ensures.bytes; is_ending = rw c.in-Err.is refl }
