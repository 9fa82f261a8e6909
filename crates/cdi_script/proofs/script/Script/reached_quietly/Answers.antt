use Rattle.std.proofs.Common.{◌≡◌, ◌∙◌, ◌+◌, ◌-◌, drop, ap, arith}
use Rattle.cdi_script.proofs.Course.{reached_by}
use Rattle.cdi_script.proofs.script.Script.reached_quietly.Goals as goal

pub returns-clause-is : goal.returns-clause-is
returns-clause-is c = λ answers many quiet.
    let count : c.args.count ≡ c.args.count - 1 + 1 = grind (arith, c.if-count-eq0.false) in
    ap (λ n. drop n c.args.self.now) c.nth_from.ensures.is
    ∙ reached_by c.args.self.now c.args.place (c.args.count - 1) answers (many ∙ count) quiet
