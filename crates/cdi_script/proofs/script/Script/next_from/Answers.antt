use Rattle.std.proofs.Common.{◌∙◌, drop, ap, sym}
use Rattle.cdi_script.proofs.Course.{place_of, from_first}
use Rattle.cdi_script.proofs.script.Script.next_from.Goals as goal

pub returns-clause-is : goal.returns-clause-is
returns-clause-is c =
    ap (λ n. drop n c.args.self.now) c.nth_from.ensures.is
    ∙ place_of c.args.self.now c.args.catches c.args.place 0
    ∙ sym (from_first c.args.catches (drop c.args.place c.args.self.now))
