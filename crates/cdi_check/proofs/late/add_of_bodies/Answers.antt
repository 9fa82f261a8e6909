use Rattle.cdi_bodies.specs.Table.{entries_of}
use Rattle.cdi_body_check.specs.Shapes.{shape_of}
use Rattle.cdi_body_check.specs.Sites.{shown}
use Rattle.cdi_live.specs.Settings.{setting_of}
use Rattle.cdi_check.proofs.Adding.{adds_bodies}
use Rattle.cdi_check.proofs.late.add_of_bodies.Goals as goal

pub returns : goal.returns
returns g c =
    let application = c.args.tables.now.application.now in
    adds_bodies application.deployment.now (shape_of (entries_of c.args.tables.now.bodies.now)) (setting_of application) (shown c.args.sites.now)
    c.requires
    c.args.problems.now c.add_problems_at.new.problems c.add_problems_at-2.new.problems c.add_problems_at-3.new.problems c.add_problems_at-4.new.problems
    c.in_ok-unknown.unknown c.in_ok-outside.outside c.in_ok-proceeding.proceeding c.in_ok-checked.checked
    c.in_ok-unknown.ensures
    c.in_ok-outside.ensures
    c.in_ok-proceeding.ensures
    c.in_ok-checked.ensures
    (rw c.as_slice.ensures at c.in_ok-add_problems_at.ensures)
    (rw c.as_slice-2.ensures at c.in_ok-add_problems_at-2.ensures)
    (rw c.as_slice-3.ensures at c.in_ok-add_problems_at-3.ensures)
    (rw c.as_slice-4.ensures at c.in_ok-add_problems_at-4.ensures)
