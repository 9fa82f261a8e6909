use Rattle.std.proofs.Common.{take}
use Rattle.std.specs.List.{flat_map}
use Rattle.cdi_bodies.specs.Table.{entries_of}
use Rattle.cdi_body_check.specs.Findings.{AddsPlacesOf}
use Rattle.cdi_body_check.specs.Shapes.{shape_of}
use Rattle.cdi_body_check.specs.Sites.{interceptor_sites}
use Rattle.cdi_shape_check.specs.Application.{application_of}
use Rattle.cdi_shape_check.specs.BodyOutsideShape.{HasBodyOutsideShape}
use Rattle.cdi_shape_check.proofs.outside_shape.add_of_interceptors.Given as goal

abbrev pub invariant-loop-interceptor : goal.invariant-loop-interceptor
invariant-loop-interceptor g l =
    AddsPlacesOf (HasBodyOutsideShape (application_of l.tables.application.now) l.tables.application.now.live.now (shape_of (entries_of l.tables.bodies.now))) (flat_map interceptor_sites (take l.interceptor-index l.interceptors)) l.initial.found l.found
