use Rattle.std.proofs.Common.{◌∙◌, ℕ, Option, sym}
use Rattle.cdi_base.proofs.Tables.{list_any-map}
use Rattle.cdi_bodies.specs.Table.{entries_of}
use Rattle.cdi_bodies.specs.declared.shape.Shape.{Shape}
use Rattle.cdi_body_check.specs.Shapes.{shape_of}
use Rattle.cdi_body_check.specs.Sites.{site_of}
use Rattle.cdi_shape_check.proofs.Asking.{same_asked}
use Rattle.cdi_shape_check.specs.AskedParts.{site_asks}
use Rattle.cdi_shape_check.specs.declared.asked.OwnPart.{OwnPart}
use Rattle.cdi_shape_check.specs.declared.asked.OwnPart.TheVariants as own
use Rattle.cdi_shape_check.proofs.asked.AskedParts.of_sites.Goals as goal

pub returns : goal.returns
returns g c =
    let t = c.args.tables.now in
    let shapes : ℕ → Option Shape = shape_of (entries_of t.bodies.now) in
    let of_shown = λ (part : OwnPart). sym (list_any-map (site_asks part t.application.now.live.now shapes) site_of c.args.sites.now) in
    same_asked _ _ _ _ _ _ (c.some_asks.ensures ∙ of_shown own.Fields) (c.some_asks-2.ensures ∙ of_shown own.Injected) (c.some_asks-3.ensures ∙ of_shown own.Methods)
