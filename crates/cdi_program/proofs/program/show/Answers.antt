use Rattle.std.proofs.Common.{refl}
use Rattle.cdi_program.proofs.program.show.Goals as goal

pub returns-in-Ok : goal.returns-in-Ok
returns-in-Ok g c = record {
  result = c.write_through.result;
  passes = record { written = rw c.as_bytes.ensures.value at c.write_through.ensures.bytes; failed = c.write_through.ensures.failed; passed_on = c.write_through.ensures.passed_on };
  tells = rw c.in-Ok.is refl;
  is_unread = refl;
  is_status = rw c.in-Ok.is refl;
}

pub returns-in-Err : goal.returns-in-Err
returns-in-Err g c = record {
  result = c.write_through.result;
  passes = record { written = rw c.as_bytes.ensures.value at c.write_through.ensures.bytes; failed = c.write_through.ensures.failed; passed_on = c.write_through.ensures.passed_on };
  tells = rw c.in-Err.is (rw c.text.ensures at c.tell.ensures);
  is_unread = refl;
  is_status = rw c.in-Err.is refl;
}
