-- The law is proved in Facts.
use Rattle.cdi_report.proofs.Facts.{reads_facts}
use Rattle.cdi_report.proofs.laws.law_reads_facts.Goals as goal

pub returns : goal.returns
returns c = reads_facts
