use Rattle.std.proofs.Common.{rules, ◌≡◌, refl, string_bytes}
use Rattle.cdi_findings.specs.Findings.{found_by}
use Rattle.cdi_program.specs.Program.ChecksAsJson.{writes, starves}
use Rattle.cdi_program.proofs.program.check_as_json.Goals as goal

pub returns-in-Ok : goal.returns-in-Ok
returns-in-Ok g c =
    let same : c.deref.result.now ≡ string_bytes c.in-Ok.found.lines = search rules in
    writes (found_by c.in-Ok.found) c.in-Ok.ensures c.show-status.result (rw same at c.show-status.ensures) c.status_of_findings.ensures

pub returns-in-Err : goal.returns-in-Err
returns-in-Err g c = starves (record { input = refl; output = refl }) (rw c.text.ensures at c.tell.ensures) refl
