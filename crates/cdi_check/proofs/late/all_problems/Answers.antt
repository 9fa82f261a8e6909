use Rattle.cdi_bodies.specs.Table.{entries_of}
use Rattle.cdi_body_check.specs.Shapes.{shape_of}
use Rattle.cdi_live.specs.Settings.{setting_of}
use Rattle.cdi_check.proofs.Adding.{all_added}
use Rattle.cdi_check.proofs.late.all_problems.Goals as goal

pub returns : goal.returns
returns g c =
    let application = c.args.tables.now.application.now in
    all_added application.deployment.now (shape_of (entries_of c.args.tables.now.bodies.now)) application.beans.now.enabled (setting_of application)
    c.empty-problems.result c.add_of_bodies.new.problems c.add_of_points.new.problems c.add_of_enabled.new.problems
    c.empty-problems.ensures
    c.in_ok-add_of_bodies.ensures
    c.in_ok-add_of_points.ensures
    c.in_ok-add_of_enabled.ensures
