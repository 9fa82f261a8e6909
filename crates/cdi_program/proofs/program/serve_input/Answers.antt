use Rattle.std.proofs.Common.{rules, ◌≡◌, refl}
use Rattle.cdi_program.specs.Program.ServesInput.{reads, fails}
use Rattle.cdi_program.proofs.program.serve_input.Goals as goal

pub returns-in-Ok : goal.returns-in-Ok
returns-in-Ok g c =
    let same : c.deref.result.now ≡ c.in-Ok.bytes.items = search rules in
    let taken = c.in-Ok.ensures in
    reads _ _ _ (record { takes = taken.takes; kept = taken.kept; blames = taken.blames; passed_on = taken.passed_on }) (rw same at c.serve_bytes.ensures)

pub returns-in-Err : goal.returns-in-Err
returns-in-Err g c =
    let taken = c.in-Err.ensures in
    fails c.in-Err.fault (record { takes = taken.takes; kept = taken.kept; blames = taken.blames; passed_on = taken.passed_on }) (rw c.text.ensures at c.tell.ensures) refl
