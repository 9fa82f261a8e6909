use Rattle.std.proofs.Common.{rules, ◌≡◌, refl}
use Rattle.cdi_program.specs.Program.ServesFile.{reads, fails}
use Rattle.cdi_program.proofs.program.serve_file.Goals as goal

pub returns-in-Ok : goal.returns-in-Ok
returns-in-Ok g c =
    let same : c.deref.result.now ≡ c.in-Ok.bytes.items = search rules in
    reads _ c.in-Ok.ensures.bytes (rw same at c.serve_bytes.ensures)

pub returns-in-Err : goal.returns-in-Err
returns-in-Err g c = fails c.in-Err.ensures.err (record { input = refl; output = refl }) c.tell_of_file.ensures refl
