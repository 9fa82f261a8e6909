use Rattle.std.proofs.Common.{rules}
use Rattle.cdi_findings.proofs.findings.review_findings.Goals as goal

pub returns : goal.returns
returns c = record {
  tables = c.in_ok-tables.tables.tables;
  are_tables = search rules;
  are_lines = search rules;
  is_refused = search rules;
}
