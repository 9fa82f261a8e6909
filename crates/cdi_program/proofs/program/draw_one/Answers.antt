use Rattle.std.proofs.Common.{rules, ◌≡◌, string_bytes}
use Rattle.cdi_program.proofs.program.draw_one.Goals as goal

pub returns : goal.returns
returns g c =
    let same : c.deref.result.now ≡ string_bytes c.args.drawing.now.text = search rules in
    record { shown = c.show-status.result; between = _; shows = rw same at c.show-status.ensures; tells = c.tell_drawn.ensures; is_status = c.status_of_findings.ensures }
