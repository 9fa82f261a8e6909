use Rattle.cdi_types.proofs.Lines.{inherited}
use Rattle.cdi_types.proofs.inheritance_laws.law_inherits.Goals as goal

pub returns : goal.returns
returns c line class = inherited class line
