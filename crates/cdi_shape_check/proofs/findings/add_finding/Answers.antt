use Rattle.std.proofs.Common.{◌≡◌, ◌∙◌, ℕ, Bool, nat_eq, Option, ap}
use Rattle.std.specs.HashMap.{get}
use Rattle.cdi_bodies.specs.Table.{entries_of}
use Rattle.cdi_bodies.specs.declared.shape.Shape.{Shape}
use Rattle.cdi_body_check.specs.Shapes.{shape_of}
use Rattle.cdi_shape_check.proofs.Putting.{each_after}
use Rattle.cdi_shape_check.specs.Application.{application_of}
use Rattle.cdi_shape_check.specs.OwnFindings.{is_own_outside}
use Rattle.cdi_shape_check.specs.OwnTables.{parts_in}
use Rattle.cdi_shape_check.proofs.findings.add_finding.Goals as goal

pub returns : goal.returns
returns g c = λ was.
    let t = c.args.tables.now in
    let app = application_of t.application.now in
    let own = parts_in c.args.own.now in
    let shapes : ℕ → Option Shape = shape_of (entries_of t.bodies.now) in
    let Told : ℕ → Bool → Type 0 = λ body told. told ≡ is_own_outside app own (shapes body) in
    let here : Told c.body-body.result c.is_outside-told.result = c.is_outside-told.ensures ∙ ap (is_own_outside app own) c.shape_of.ensures in
    each_after Told c.body-body.result c.is_outside-told.result here (get nat_eq c.args.findings.now) (get nat_eq c.insert.new.self) was c.in_ok-insert.ensures.updates.0
