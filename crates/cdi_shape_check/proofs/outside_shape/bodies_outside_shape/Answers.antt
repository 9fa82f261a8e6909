use Rattle.std.proofs.Common.{◌≡◌, ◌++◌, List, subst}
use Rattle.std.specs.List.{flat_map}
use Rattle.cdi_base.specs.declared.place.Place.{Place}
use Rattle.cdi_bodies.specs.Table.{entries_of}
use Rattle.cdi_body_check.specs.Findings.{AddsPlacesOf}
use Rattle.cdi_body_check.specs.Shapes.{shape_of}
use Rattle.cdi_body_check.specs.Sites.{Site, class_sites, interceptor_sites, sites_of}
use Rattle.cdi_deployment.specs.declared.deployment.Class.{Class}
use Rattle.cdi_deployment.specs.declared.deployment.Interceptor.{Interceptor}
use Rattle.cdi_shape_check.specs.Application.{application_of}
use Rattle.cdi_shape_check.specs.BodyOutsideShape.{HasBodyOutsideShape}
use Rattle.cdi_shape_check.proofs.AddingShapes.{both_added, all_found}
use Rattle.cdi_shape_check.proofs.outside_shape.bodies_outside_shape.Goals as goal

pub returns : goal.returns
returns g c =
    let t = c.args.tables.now in
    let d = t.application.now.deployment.now in
    let P : Site → Type 0 = HasBodyOutsideShape (application_of t.application.now) t.application.now.live.now (shape_of (entries_of t.bodies.now)) in
    let classes : c.as_slice.result.now ≡ d.classes = c.as_slice.ensures in
    let interceptors : c.as_slice-2.result.now ≡ d.interceptors = c.as_slice-2.ensures in
    let found = c.add_of_interceptors.new.found in
    let adds = both_added P (flat_map class_sites c.as_slice.result.now) (flat_map interceptor_sites c.as_slice-2.result.now) c.empty-found.result c.add_of_classes.new.found found c.in_ok-add_of_classes.ensures c.in_ok-add_of_interceptors.ensures in
    let ByClasses : List Class → Type 0 = λ cs. AddsPlacesOf P (flat_map class_sites cs ++ flat_map interceptor_sites c.as_slice-2.result.now) c.empty-found.result found in
    let ByInterceptors : List Interceptor → Type 0 = λ js. AddsPlacesOf P (flat_map class_sites d.classes ++ flat_map interceptor_sites js) c.empty-found.result found in
    let ToNone : List Place → Type 0 = λ old. AddsPlacesOf P (sites_of d) old found in
    all_found P (sites_of d) found c.as_slice-3.result.now c.once.result
    (subst ToNone c.empty-found.ensures (subst ByInterceptors interceptors (subst ByClasses classes adds))) c.as_slice-3.ensures c.once.ensures
