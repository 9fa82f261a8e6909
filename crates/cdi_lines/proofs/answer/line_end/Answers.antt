use Rattle.std.proofs.Common.{◌==◌}
use Rattle.cdi_lines.proofs.FirstPlaces.{first_place}
use Rattle.cdi_lines.proofs.answer.line_end.Goals as goal

pub returns : goal.returns
returns c = first_place (λ byte. byte == 10) c.args.bytes.now c.memchr.result c.memchr.ensures
