use Rattle.std.proofs.Common.{rules, ◌≡◌, string_bytes}
use Rattle.cdi_program.specs.Telling.TellsOfFile.{tells, starves}
use Rattle.cdi_program.proofs.telling.tell_of_file.Goals as goal

pub returns-in-Ok : goal.returns-in-Ok
returns-in-Ok g c =
    let same : c.deref.result.now ≡ string_bytes c.in-Ok.line = search rules in
    tells _ c.in-Ok.ensures (rw same at c.tell_text.ensures)

pub returns-in-Err : goal.returns-in-Err
returns-in-Err g c = starves (rw c.text.ensures at c.tell.ensures)
