-- The law is proved in BadScripts.
use Rattle.cdi_report.proofs.BadScripts.{bad_scripts_have_names}
use Rattle.cdi_report.proofs.laws.law_bad_scripts_have_names.Goals as goal

pub returns : goal.returns
returns c = bad_scripts_have_names
