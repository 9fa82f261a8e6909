use Rattle.std.proofs.Common.{◌≡◌, ◌∙◌, ◌+◌, ◌-◌, ◌==◌, false, sym, ap, rules}
use Rattle.cdi_problem_hints.proofs.Upward.{goes_on}
use Rattle.cdi_problem_hints.specs.Specializers as spec
use Rattle.cdi_problem_hints.proofs.specializer.specializes.Goals as goal

pub loop-preserved : goal.loop-preserved
loop-preserved c =
    let classes = c.args.classes.now in
    let class = c.args.class in
    let most = c.args.most in
    let k = c.loop.counter in
    let above = c.in-Some.above in
    let other : (above == class) ≡ false = search rules in
    ap (spec.specializes (most - (k + 1)) classes class) c.specialized_by-specialized.ensures
    ∙ goes_on classes class most k above c.loop-test.true other
    ∙ ap (spec.specializes (most - k) classes class) (sym c.in-Some.is)
    ∙ c.loop.invariant
