use Rattle.std.proofs.Common.{◌≡◌, ◌∙◌, ◌++◌, ℕ, List, Option, ap, subst}
use Rattle.std.specs.Prelude.{IsTrue}
use Rattle.cdi_bean_check.proofs.PlaceSets.{on_ok}
use Rattle.cdi_bodies.specs.Table.{entries_of}
use Rattle.cdi_bodies.specs.declared.shape.Shape.{Shape}
use Rattle.cdi_body_check.specs.Findings.{AddsPlacesOf}
use Rattle.cdi_body_check.specs.Shapes.{shape_of}
use Rattle.cdi_body_check.specs.Sites.{Site, shown, interceptor_sites}
use Rattle.cdi_shape_check.specs.Application.{application_of}
use Rattle.cdi_shape_check.specs.BodyOutsideShape.{is_outside_with}
use Rattle.cdi_shape_check.specs.OwnTables.{parts_in}
use Rattle.cdi_shape_check.proofs.SameParts.{interceptor_places}
use Rattle.cdi_shape_check.proofs.outside_shape.add_of_interceptor.Goals as goal

pub returns : goal.returns
returns g c =
    let t = c.args.tables.now in
    let app = application_of t.application.now in
    let shapes : ℕ → Option Shape = shape_of (entries_of t.bodies.now) in
    let own = parts_in c.in_ok-own.own in
    let interceptor = c.args.interceptor.now in
    let same : shown c.as_slice-2.result.now ≡ interceptor_sites interceptor = ap shown c.as_slice-2.ensures.value ∙ c.in_ok-add_interceptor_sites.ensures ∙ ap (λ ss. shown ss ++ interceptor_sites interceptor) c.new-sites.ensures.items in
    let Q : List Site → Type 0 = λ ss. AddsPlacesOf (λ s. IsTrue (is_outside_with app t.application.now.live.now shapes own s)) ss c.args.found.now c.add_places.new.found in
    on_ok c.add_places.result (λ adds. interceptor_places app t.application.now.live.now shapes own interceptor c.in_ok-own.ensures c.args.found.now c.add_places.new.found (subst Q same adds)) c.add_places.ensures
