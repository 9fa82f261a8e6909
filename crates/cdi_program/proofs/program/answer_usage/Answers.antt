use Rattle.std.proofs.Common.{refl}
use Rattle.cdi_program.specs.Program.AnswersUsage.{answers, starves}
use Rattle.cdi_program.proofs.program.answer_usage.Goals as goal

pub returns-in-Ok : goal.returns-in-Ok
returns-in-Ok g c = answers _ (rw c.kind.ensures at c.answer_with.ensures)

pub returns-in-Err : goal.returns-in-Err
returns-in-Err g c = starves (record { input = refl; output = refl }) (rw c.text.ensures at c.tell.ensures) refl
