use Rattle.cdi_bodies.specs.Table.{entries_of}
use Rattle.cdi_body_check.specs.Shapes.{shape_of}
use Rattle.cdi_shape_check.specs.Application.{application_of}
use Rattle.cdi_shape_check.specs.OwnFindings.{AreFindings}
use Rattle.cdi_shape_check.specs.OwnTables.{parts_in}
use Rattle.cdi_shape_check.proofs.findings.findings_of.Given as goal

abbrev pub invariant-loop-site : goal.invariant-loop-site
invariant-loop-site g l = AreFindings (application_of l.tables.application.now) (parts_in l.own) (shape_of (entries_of l.tables.bodies.now)) l.findings
