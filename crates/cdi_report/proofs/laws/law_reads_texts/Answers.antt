-- The law is proved in Facts.
use Rattle.cdi_report.proofs.Facts.{reads_texts}
use Rattle.cdi_report.proofs.laws.law_reads_texts.Goals as goal

pub returns : goal.returns
returns c = reads_texts
