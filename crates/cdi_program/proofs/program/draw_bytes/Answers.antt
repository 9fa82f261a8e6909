use Rattle.std.proofs.Common.{refl}
use Rattle.cdi_program.specs.Program.DrawsBytes.{draws, starves}
use Rattle.cdi_program.proofs.program.draw_bytes.Goals as goal

pub returns-in-Ok-Some : goal.returns-in-Ok-Some
returns-in-Ok-Some g c = draws c.in-Ok-Some.field-0 c.in-Ok-Some.ensures (rw c.in-Ok-Some.field-0-is c.draw_one.ensures)

pub returns-in-Ok-None : goal.returns-in-Ok-None
returns-in-Ok-None g c = draws c.in-Ok-None.field-0 c.in-Ok-None.ensures (rw c.in-Ok-None.field-0-is (c.tell_refused.ensures, record { input = refl; output = refl }, refl))

pub returns-in-Err : goal.returns-in-Err
returns-in-Err g c = starves (record { input = refl; output = refl }) (rw c.text.ensures at c.tell.ensures) refl
