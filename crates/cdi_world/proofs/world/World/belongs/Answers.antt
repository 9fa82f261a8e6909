use Rattle.std.proofs.Common.{ℕ, ◌≡◌, ◌+◌, ◌-◌, suc, sym, ◌∙◌, ap, arith, rules}
use Rattle.std.specs.Prelude.{nat_eq, false}
use Rattle.cdi_machine.specs.DestroyAct.{belongs}
use Rattle.cdi_world.proofs.Idle.{belongs_up}
use Rattle.cdi_world.proofs.world.World.belongs.Goals as goal

pub loop-step-preserved : goal.loop-step-preserved
loop-step-preserved c =
    let w = c.args.self.now in
    let k : ℕ = c.args.number - (c.loop-step._step + 1) in
    let test = c.loop-step-test.true in
    let e : c.args.number - c.loop-step._step ≡ suc k = omega arith in
    let other : nat_eq c.loop-step.at c.args.to ≡ false = search rules in
    sym (belongs_up w c.args.to k c.loop-step.at c.in-Some.owner other (sym c.in-Some.ensures))
    ∙ ap (λ j. belongs j w c.loop-step.at c.args.to) (sym e)
    ∙ c.loop-step.invariant
