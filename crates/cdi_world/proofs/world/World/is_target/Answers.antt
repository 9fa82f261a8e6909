use Rattle.std.proofs.Common.{◌≡◌, reverse, sym, ◌∙◌, ap}
use Rattle.cdi_machine.specs.World.{World}
use Rattle.cdi_machine.specs.DestroyAct.{any_target}
use Rattle.cdi_world.proofs.Idle.{target_found}
use Rattle.cdi_world.proofs.world.World.is_target.Goals as goal

pub returns-then-belongs : goal.returns-then-belongs
returns-then-belongs c =
    let w = c.args.self.now in
    let vs = c.outermost_first-invocation-items.result.now in
    let seen : w.invocations ≡ reverse vs = ap (λ (v : World). v.invocations) (sym c.self.view_is) ∙ c.outermost_first-invocation-items.ensures in
    let found =
    target_found w c.args.number vs c.loop-invocation.invocation-index c.invocation-item.result c.loop-invocation-test.true c.invocation-item.is
    (rw c.target.ensures at (sym c.if-belongs.ensures)) in
    sym (ap (λ us. any_target w us c.args.number) seen ∙ found)
