use Rattle.std.proofs.Common.{◌∙◌, length, unwrap_or, ap, arith, true, false}
use Rattle.cdi_script.proofs.Course.{within_all}
use Rattle.cdi_script.proofs.script.Script.nth_from.Goals as goal

pub returns-then-catches-clause-within : goal.returns-then-catches-clause-within
returns-then-catches-clause-within c =
    let le = within_all true c.self.inside.steps c.args.place c.args.nth in
    let few = c.self.invariant.0 in
    let is = c.unwrap_or.ensures ∙ ap (λ n. unwrap_or c.nth_from.result n) c.len.ensures
    ∙ ap (λ o. unwrap_or o (length c.self.inside.steps)) (c.nth_from.ensures true c.self.inside.steps c.self.invariant.2) in
    grind (arith, le, few, is)

pub returns-clause-within : goal.returns-clause-within
returns-clause-within c =
    let le = within_all false c.self.inside.steps c.args.place c.args.nth in
    let few = c.self.invariant.0 in
    let is = c.unwrap_or-2.ensures ∙ ap (λ n. unwrap_or c.nth_from-2.result n) c.len-2.ensures
    ∙ ap (λ o. unwrap_or o (length c.self.inside.steps)) (c.nth_from-2.ensures false c.self.inside.steps c.self.invariant.1) in
    grind (arith, le, few, is)
