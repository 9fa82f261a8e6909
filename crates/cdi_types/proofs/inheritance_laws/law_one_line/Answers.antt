use Rattle.cdi_types.proofs.Lines.{one_line}
use Rattle.cdi_types.proofs.inheritance_laws.law_one_line.Goals as goal

pub returns : goal.returns
returns c = one_line
