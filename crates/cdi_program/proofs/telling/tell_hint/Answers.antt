use Rattle.cdi_program.specs.Telling.TellsRefused.{tells, starves}
use Rattle.cdi_program.proofs.telling.tell_hint.Goals as goal

pub returns-in-Ok-Some : goal.returns-in-Ok-Some
returns-in-Ok-Some g c = tells c.in-Ok-Some.field-0 c.in-Ok-Some.ensures.gives (rw c.in-Ok-Some.field-0-is c.tell_of_file.ensures)

pub returns-in-Ok-None : goal.returns-in-Ok-None
returns-in-Ok-None g c = tells c.in-Ok-None.field-0 c.in-Ok-None.ensures.gives (rw c.in-Ok-None.field-0-is c.advise.ensures)

pub returns-in-Err : goal.returns-in-Err
returns-in-Err g c = starves (rw c.text.ensures at c.tell.ensures)
