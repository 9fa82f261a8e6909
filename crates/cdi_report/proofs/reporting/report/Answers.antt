use Rattle.cdi_report.specs.Reports.ReportsOn.{tells}
use Rattle.cdi_report.proofs.reporting.report.Goals as goal

pub returns-in-Ok-findings_in-clause-reports : goal.returns-in-Ok-findings_in-clause-reports
returns-in-Ok-findings_in-clause-reports g c =
    let findings = c.in-Ok-findings_in.findings in
    let writes = rw c.deref.ensures.value at c.write_findings.ensures.writes in
    tells (rw c.in-Ok.ensures.ok (record {
      lines = findings.lines.items;
      is_accepted = findings.is_accepted;
      judges = c.in-Ok-findings_in.ensures;
      writes = writes;
    }))
