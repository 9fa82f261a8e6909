use Rattle.std.proofs.Common.{◌≡◌, reverse, get_or, sym, ◌∙◌, ap}
use Rattle.std.proofs.lemmas.List.{get_or_default}
use Rattle.cdi_machine.specs.World.{World}
use Rattle.cdi_machine.specs.DestroyAct.{any_belongs}
use Rattle.cdi_world.proofs.Idle.{body_found}
use Rattle.cdi_world.proofs.world.World.has_body.Goals as goal

pub returns-then-belongs : goal.returns-then-belongs
returns-then-belongs c =
    let w = c.args.self.now in
    let ms = c.outermost_first-target-items.result.now in
    let seen : w.bodies ≡ reverse ms = ap (λ (v : World). v.bodies) (sym c.self.view_is) ∙ c.outermost_first-target-items.ensures in
    let m = get_or ms c.loop-target.target-index 0 in
    let found =
    body_found w c.args.number ms c.loop-target.target-index m c.loop-target-test.true (get_or_default ms c.loop-target.target-index 0 m c.loop-target-test.true) (sym c.if-belongs.ensures) in
    sym (ap (λ ns. any_belongs w ns c.args.number) seen ∙ found)
