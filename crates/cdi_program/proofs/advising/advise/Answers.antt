use Rattle.cdi_program.specs.Telling.Advises.{advises, starves}
use Rattle.cdi_program.proofs.advising.advise.Goals as goal

pub returns-in-Ok : goal.returns-in-Ok
returns-in-Ok g c = advises c.in-Ok.advice c.in-Ok.ensures (rw c.as_str.ensures at c.tell_text.ensures)

pub returns-in-Err : goal.returns-in-Err
returns-in-Err g c = starves (rw c.text.ensures at c.tell.ensures)
