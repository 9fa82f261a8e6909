use Rattle.std.proofs.Common.{◌≡◌, ◌∙◌, ◌||◌, ℕ, Bool, false, Option, take, sym, ap, arith}
use Rattle.std.proofs.lemmas.Grind.{common_steps}
use Rattle.std.proofs.lemmas.List.Folds.{list_any_at}
use Rattle.std.specs.List.{list_any}
use Rattle.cdi_bodies.specs.Table.{entries_of}
use Rattle.cdi_bodies.specs.declared.shape.Shape.{Shape}
use Rattle.cdi_body_check.specs.Shapes.{shape_of}
use Rattle.cdi_body_check.specs.Sites.{site_of}
use Rattle.cdi_body_check.specs.declared.site.BodySite.{BodySite}
use Rattle.cdi_shape_check.proofs.SetSteps.{any_next}
use Rattle.cdi_shape_check.specs.AskedParts.{site_asks}
use Rattle.cdi_shape_check.proofs.asked.some_asks.Goals as goal

pub loop-site-preserved : goal.loop-site-preserved
loop-site-preserved g c =
    let t = c.args.tables.now in
    let shapes : ℕ → Option Shape = shape_of (entries_of t.bodies.now) in
    let test : BodySite → Bool = λ s. site_asks c.args.part t.application.now.live.now shapes (site_of s) in
    let site = c.site-item.result in
    any_next c.args.sites.now c.loop-site.site-index site c.loop-site-test.true c.site-item.is test ∙ ap (λ b. b || (test site || false)) c.loop-site.invariant
    ∙ ap (λ b. b || false) (sym c.site_asks.ensures ∙ c.if-site_asks.false)

pub returns-then-site_asks : goal.returns-then-site_asks
returns-then-site_asks g c =
    let t = c.args.tables.now in
    let shapes : ℕ → Option Shape = shape_of (entries_of t.bodies.now) in
    let test : BodySite → Bool = λ s. site_asks c.args.part t.application.now.live.now shapes (site_of s) in
    sym (list_any_at test c.args.sites.now c.loop-site.site-index c.site-item.result c.loop-site-test.true (ap test (sym c.site-item.is) ∙ sym c.site_asks.ensures ∙ c.if-site_asks.true))

pub returns : goal.returns
returns g c =
    let t = c.args.tables.now in
    let shapes : ℕ → Option Shape = shape_of (entries_of t.bodies.now) in
    let test : BodySite → Bool = λ s. site_asks c.args.part t.application.now.live.now shapes (site_of s) in
    let all : take c.loop-site.site-index c.args.sites.now ≡ c.args.sites.now = grind (arith, common_steps, c.loop-site-test.false) in
    sym c.loop-site.invariant ∙ ap (list_any test) all
