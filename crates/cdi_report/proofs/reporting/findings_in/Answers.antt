use Rattle.std.proofs.lemmas.Result.{IfOk-weaker}
use Rattle.cdi_report.proofs.reporting.findings_in.Goals as goal

pub returns : goal.returns
returns c =
    let is = c.in_ok-review.ensures in
    IfOk-weaker c.findings_of.result _ _ (λ f told. record {
      problems = c.in_ok-review.review.problems;
      are = is.are;
      are_findings = rw (c.as_slice.ensures, is.deployment) at told;
    }) c.findings_of.ensures
