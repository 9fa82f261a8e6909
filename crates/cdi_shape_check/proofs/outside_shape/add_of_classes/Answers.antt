use Rattle.cdi_bodies.specs.Table.{entries_of}
use Rattle.cdi_body_check.specs.Shapes.{shape_of}
use Rattle.cdi_body_check.specs.Sites.{class_sites}
use Rattle.cdi_shape_check.specs.Application.{application_of}
use Rattle.cdi_shape_check.specs.BodyOutsideShape.{HasBodyOutsideShape}
use Rattle.cdi_shape_check.proofs.AddingShapes.{none_added, next_added}
use Rattle.cdi_shape_check.proofs.outside_shape.add_of_classes.Goals as goal

pub loop-class-init : goal.loop-class-init
loop-class-init g c = none_added _ c.args.found.now

pub loop-class-preserved : goal.loop-class-preserved
loop-class-preserved g c =
    let l = c.loop-class in
    let t = c.args.tables.now in
    next_added (HasBodyOutsideShape (application_of t.application.now) t.application.now.live.now (shape_of (entries_of t.bodies.now))) class_sites c.args.classes.now l.class-index c.class-item.result c.loop-class-test.true c.class-item.is
    c.args.found.now l.found c.add_of_class.new.found l.invariant c.in_ok-add_of_class.ensures
