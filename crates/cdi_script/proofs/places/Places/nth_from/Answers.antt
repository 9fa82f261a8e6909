use Rattle.std.proofs.Common.{◌∙◌, ◌+◌, ◌≤◌, length, slice_get, ap, sym, arith}
use Rattle.std.specs.Option.{option_copied}
use Rattle.std.proofs.lemmas.Option.{slice_get_past}
use Rattle.cdi_script.proofs.Course.{found_at, none_at}
use Rattle.cdi_script.proofs.places.Places.nth_from.Goals.{then-nth-count-via-then-nth-count, then-nth-count-via-else-nth-count+then-before-count}
use Rattle.cdi_script.proofs.places.Places.nth_from.Goals as goal

pub returns-in_err-before : goal.returns-in_err-before
returns-in_err-before c = λ catches steps are.
    c.from_residual.ensures
    ∙ none_at catches steps c.args.place c.args.nth
    (ap (λ xs. slice_get xs c.args.place) (sym are.before) ∙ sym c.get.ensures ∙ ap (λ o. option_copied o) c.in_err-before.was)

pub returns-then-nth-count : goal.returns-then-nth-count
returns-then-nth-count c = λ catches steps are.
    let past : length c.args.self.now.places ≤ c.in_ok-before.field-0.now + c.args.nth =
    (elim c.then-nth-count.branch [
      | then-nth-count-via-then-nth-count w ↦ grind (arith, w.if-nth-count.true, c.len-count.ensures)
      | then-nth-count-via-else-nth-count+then-before-count w ↦ grind (arith, w.if-nth-count.false, w.if-before-count.true, c.len-count.ensures)
    ]) in
    sym (slice_get_past c.args.self.now.places (c.in_ok-before.field-0.now + c.args.nth) past)
    ∙ ap (λ xs. slice_get xs (c.in_ok-before.field-0.now + c.args.nth)) are.places
    ∙ found_at catches steps c.args.place c.in_ok-before.field-0.now c.args.nth
    (ap (λ xs. slice_get xs c.args.place) (sym are.before) ∙ sym c.get.ensures ∙ ap (λ o. option_copied o) c.in_ok-before.was)

pub returns : goal.returns
returns c = λ catches steps are.
    c.copied.ensures ∙ c.get-2.ensures ∙ ap (λ xs. slice_get xs (c.in_ok-before.field-0.now + c.args.nth)) are.places
    ∙ found_at catches steps c.args.place c.in_ok-before.field-0.now c.args.nth
    (ap (λ xs. slice_get xs c.args.place) (sym are.before) ∙ sym c.get.ensures ∙ ap (λ o. option_copied o) c.in_ok-before.was)
