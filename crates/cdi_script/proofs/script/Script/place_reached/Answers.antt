use Rattle.std.proofs.Common.{◌≡◌, ◌∙◌, ◌+◌, ◌-◌, List, ℕ, drop, length, get_or, subst, ap, sym, arith}
use Rattle.std.proofs.lemmas.List.{length-drop}
use Rattle.cdi_script.proofs.Course.{IsOnCourse, next_item, not_before, inside, further, at_last}
use Rattle.cdi_script.proofs.script.Script.place_reached.Goals as goal

pub overflow_sub-exception : goal.overflow_sub-exception
overflow_sub-exception c =
    let items = c.exceptions-exception-items.result.now in
    let i = c.loop-exception.exception-index in
    let on = subst (λ (xs : List ℕ). IsOnCourse c.args.self.now c.args.answers.now xs c.loop-exception.place c.loop-exception.passed)
    (next_item items i c.loop-exception-test.true) c.loop-exception.invariant in
    not_before c.args.self.now c.args.answers.now c.loop-exception.place c.loop-exception.passed (get_or items i 0) (drop (i + 1) items) on

pub overflow_add-passed : goal.overflow_add-passed
overflow_add-passed c =
    let items = c.exceptions-exception-items.result.now in
    let i = c.loop-exception.exception-index in
    let on = subst (λ (xs : List ℕ). IsOnCourse c.args.self.now c.args.answers.now xs c.loop-exception.place c.loop-exception.passed)
    (next_item items i c.loop-exception-test.true) c.loop-exception.invariant in
    let lt = inside c.args.self.now c.args.answers.now c.loop-exception.place c.loop-exception.passed (get_or items i 0) (drop (i + 1) items) on in
    let few = c.len-count.type_inv in
    let count = c.len-count.ensures in
    grind (arith, lt, few, count)

pub returns : goal.returns
returns c =
    let on = c.loop-exception.invariant in
    let many : length (drop c.loop-exception.passed c.args.answers.now) ≡ c.len-count.result - c.loop-exception.passed =
    length-drop c.loop-exception.passed c.args.answers.now ∙ ap (λ n. n - c.loop-exception.passed) (sym c.len-count.ensures) in
    c.reached_quietly.ensures.is (drop c.loop-exception.passed c.args.answers.now) many
    (at_last c.args.self.now c.args.answers.now c.loop-exception.place c.loop-exception.passed c.loop-exception.exception-index c.exceptions-exception-items.result.now on c.loop-exception-test.false)
    ∙ on.leads

pub loop-exception-preserved : goal.loop-exception-preserved
loop-exception-preserved c =
    let items = c.exceptions-exception-items.result.now in
    let i = c.loop-exception.exception-index in
    let on = subst (λ (xs : List ℕ). IsOnCourse c.args.self.now c.args.answers.now xs c.loop-exception.place c.loop-exception.passed)
    (next_item items i c.loop-exception-test.true) c.loop-exception.invariant in
    further c.args.self.now c.args.answers.now c.loop-exception.place c.loop-exception.passed (get_or items i 0) (drop (i + 1) items) on
    c.reached_quietly-thrown_at.result c.next_from-place-in-loop-exception.result
    c.reached_quietly-thrown_at.ensures.is c.next_from-place-in-loop-exception.ensures.is c.next_from-place-in-loop-exception.ensures.within
