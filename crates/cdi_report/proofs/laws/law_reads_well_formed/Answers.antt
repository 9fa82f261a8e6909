-- The law is proved in WellFormed.
use Rattle.cdi_report.proofs.WellFormed.{reads_well_formed}
use Rattle.cdi_report.proofs.laws.law_reads_well_formed.Goals as goal

pub returns : goal.returns
returns c = reads_well_formed
