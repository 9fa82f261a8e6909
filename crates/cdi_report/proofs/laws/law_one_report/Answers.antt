use Rattle.cdi_report.proofs.OneReport.{one_report}
use Rattle.cdi_report.proofs.laws.law_one_report.Goals as goal

pub returns : goal.returns
returns c = one_report
