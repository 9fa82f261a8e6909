use Rattle.std.proofs.Common.{refl}
use Rattle.cdi_program.specs.Telling.Warns.{warns, starves}
use Rattle.cdi_program.proofs.telling.tell_warning.Goals as goal

pub returns-in-Ok-Some : goal.returns-in-Ok-Some
returns-in-Ok-Some g c = warns c.in-Ok-Some.field-0 (record { key = c.in-Ok-Some.ensures.key; position = c.in-Ok-Some.ensures.position }) (rw c.in-Ok-Some.field-0-is c.tell_of_file.ensures)

pub returns-in-Ok-None : goal.returns-in-Ok-None
returns-in-Ok-None g c = warns c.in-Ok-None.field-0 (record { key = c.in-Ok-None.ensures.key; position = c.in-Ok-None.ensures.position }) (rw c.in-Ok-None.field-0-is refl)

pub returns-in-Err : goal.returns-in-Err
returns-in-Err g c = starves (rw c.text.ensures at c.tell.ensures)
