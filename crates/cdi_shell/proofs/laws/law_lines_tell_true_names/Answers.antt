-- The law is proved in NamedLines.
use Rattle.cdi_report.proofs.Facts.{reads_facts}
use Rattle.cdi_shell.proofs.NamedLines.{lines_tell}
use Rattle.cdi_shell.proofs.laws.law_lines_tell_true_names.Goals as goal

pub returns : goal.returns
returns c = lines_tell reads_facts
