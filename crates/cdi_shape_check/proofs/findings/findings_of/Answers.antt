use Rattle.cdi_shape_check.proofs.findings.findings_of.Goals as goal

pub loop-site-preserved : goal.loop-site-preserved
loop-site-preserved g c = c.in_ok-add_finding.ensures c.loop-site.invariant
