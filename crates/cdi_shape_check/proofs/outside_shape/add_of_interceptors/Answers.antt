use Rattle.cdi_bodies.specs.Table.{entries_of}
use Rattle.cdi_body_check.specs.Shapes.{shape_of}
use Rattle.cdi_body_check.specs.Sites.{interceptor_sites}
use Rattle.cdi_shape_check.specs.Application.{application_of}
use Rattle.cdi_shape_check.specs.BodyOutsideShape.{HasBodyOutsideShape}
use Rattle.cdi_shape_check.proofs.AddingShapes.{none_added, next_added}
use Rattle.cdi_shape_check.proofs.outside_shape.add_of_interceptors.Goals as goal

pub loop-interceptor-init : goal.loop-interceptor-init
loop-interceptor-init g c = none_added _ c.args.found.now

pub loop-interceptor-preserved : goal.loop-interceptor-preserved
loop-interceptor-preserved g c =
    let l = c.loop-interceptor in
    let t = c.args.tables.now in
    next_added (HasBodyOutsideShape (application_of t.application.now) t.application.now.live.now (shape_of (entries_of t.bodies.now))) interceptor_sites c.args.interceptors.now l.interceptor-index c.interceptor-item.result c.loop-interceptor-test.true c.interceptor-item.is
    c.args.found.now l.found c.add_of_interceptor.new.found l.invariant c.in_ok-add_of_interceptor.ensures
