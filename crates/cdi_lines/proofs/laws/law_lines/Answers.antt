use Rattle.cdi_lines.proofs.Lines.{lines_joined, lines_apart}
use Rattle.cdi_lines.proofs.laws.law_lines.Goals as goal

pub returns : goal.returns
returns c = record { joined = lines_joined; apart = lines_apart }
