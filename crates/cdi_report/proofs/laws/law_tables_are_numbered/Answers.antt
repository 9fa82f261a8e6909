-- The law is proved in NumberedTables.
use Rattle.cdi_report.proofs.NumberedTables.{tables_are_numbered}
use Rattle.cdi_report.proofs.laws.law_tables_are_numbered.Goals as goal

pub returns : goal.returns
returns c = tables_are_numbered
