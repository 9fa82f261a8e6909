use Rattle.std.proofs.Common.{◌≡◌, ◌∙◌, ◌++◌, [], ℕ, List, Option, sym, ap, subst, append-nil}
use Rattle.std.proofs.lemmas.Bool.{eqb-true}
use Rattle.std.proofs.lemmas.List.{nil_from_length}
use Rattle.std.specs.Prelude.{IsTrue}
use Rattle.cdi_bean_check.proofs.PlaceSets.{on_ok}
use Rattle.cdi_bodies.specs.Table.{entries_of}
use Rattle.cdi_bodies.specs.declared.shape.Shape.{Shape}
use Rattle.cdi_body_check.specs.Findings.{AddsPlacesOf}
use Rattle.cdi_body_check.specs.Shapes.{shape_of}
use Rattle.cdi_body_check.specs.Sites.{Site, shown, class_sites}
use Rattle.cdi_shape_check.specs.Application.{application_of}
use Rattle.cdi_shape_check.specs.BodyOutsideShape.{HasBodyOutsideShape, is_outside_with}
use Rattle.cdi_shape_check.specs.AskedParts.{asked_by, asked_parts}
use Rattle.cdi_shape_check.specs.OwnParts.{OwnParts}
use Rattle.cdi_shape_check.specs.OwnTables.{parts_in}
use Rattle.cdi_shape_check.proofs.SameAsked.{asked_places}
use Rattle.cdi_shape_check.proofs.SameParts.{class_places}
use Rattle.cdi_types.specs.ListsThose.{ListsThose}
use Rattle.cdi_shape_check.proofs.outside_shape.add_of_class.Goals as goal

pub returns : goal.returns
returns g c =
    let t = c.args.tables.now in
    let app = application_of t.application.now in
    let shapes : ℕ → Option Shape = shape_of (entries_of t.bodies.now) in
    let own = parts_in c.in_ok-own.own in
    let class = c.args.class.now in
    let parts = c.in_ok-own.ensures.parts in
    let live = t.application.now.live.now in
    let Told : OwnParts → List Site → Type 0 = λ own ss. AddsPlacesOf (λ s. IsTrue (is_outside_with app live shapes own s)) ss c.args.found.now c.add_places.new.found in
    let same : shown c.as_slice-sites.result.now ≡ class_sites class = ap shown c.as_slice-sites.ensures.value ∙ c.in_ok-add_class_sites.ensures ∙ ap (λ ss. shown ss ++ class_sites class) c.new-sites.ensures.items in
    let asked : c.of_sites-asked.result ≡ asked_by live shapes (class_sites class) = c.of_sites-asked.ensures ∙ ap (asked_by live shapes) same in
    let few : own ≡ asked_parts (asked_by live shapes (class_sites class)) parts = c.in_ok-own.ensures.are ∙ ap (λ a. asked_parts a parts) asked in
    on_ok c.add_places.result
    (λ adds. class_places app live shapes parts class c.in_ok-own.ensures.are_parts c.args.found.now c.add_places.new.found
    (asked_places app live shapes parts (class_sites class) c.args.found.now c.add_places.new.found (subst (λ ps. Told ps (class_sites class)) few (subst (Told own) same adds)))) c.add_places.ensures

-- a class without bodies has no places
pub returns-then-is_empty : goal.returns-then-is_empty
returns-then-is_empty g c =
    let t = c.args.tables.now in
    let class = c.args.class.now in
    let P : Site → Type 0 = HasBodyOutsideShape (application_of t.application.now) t.application.now.live.now (shape_of (entries_of t.bodies.now)) in
    let sites = c.add_class_sites.new.sites in
    let nothing : sites.items ≡ [] = nil_from_length sites.items (sym sites.ok.0 ∙ eqb-true sites.len 0 (sym c.is_empty.ensures ∙ c.if-is_empty.true)) in
    let none : class_sites class ≡ [] = sym (c.in_ok-add_class_sites.ensures ∙ ap (λ ss. shown ss ++ class_sites class) c.new-sites.ensures.items) ∙ ap shown nothing in
    record { those = []; listed = subst (λ ss. ListsThose P ss []) (sym none) ListsThose.none; are = sym (append-nil c.args.found.now) }
