-- The law is proved in SmallTables.
use Rattle.cdi_report.proofs.SmallTables.{tables_are_small}
use Rattle.cdi_report.proofs.laws.law_tables_are_small.Goals as goal

pub returns : goal.returns
returns c = tables_are_small
