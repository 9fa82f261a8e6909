use Rattle.cdi_program.proofs.Told.{passes}
use Rattle.cdi_program.proofs.telling.tell_text.Goals as goal

pub returns : goal.returns
returns g c = passes _ c.write_through.result _ _ (rw c.as_bytes.ensures.value at c.write_through.ensures.bytes) c.write_through.ensures.failed c.write_through.ensures.passed_on
