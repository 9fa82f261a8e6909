use Rattle.std.proofs.Common.{◌∙◌, ◌++◌, ◌∷◌, [], ap, sym, take}
use Rattle.cdi_event_tables.specs.Observers.{is_heard_by}
use Rattle.cdi_run_tables.specs.Observers.{heard_in}
use Rattle.cdi_run_tables.proofs.Hearing.{none_hears, one_hears}
use Rattle.cdi_run_tables.proofs.events.heard_in.Goals as goal
use Rattle.cdi_run_tables.proofs.events.heard_in.Goals.{then-branch+in_ok-clone+in_ok-push, else-branch}

pub loop-place-preserved : goal.loop-place-preserved
loop-place-preserved c =
    let event = c.args.event.now in
    let hears = is_heard_by event.declared.now event.class event.qualifiers.now in
    let planned = c.args.planned.now in
    let observers = c.args.observers.now in
    let i = c.loop-place in
    let n = c.index-observers-place.result in
    let told = sym c.in_ok-is_heard.ensures in
    elim c.if-branch.branch [
      | then-branch+in_ok-clone+in_ok-push w ↦ rw (w.heard-is, w.in_ok-push.ensures.ok)
          (ap (λ xs. xs ++ w.in_ok-clone.field-0 ∷ []) i.invariant
          ∙ ap (λ m. heard_in hears planned (take i.place observers) ++ m ∷ []) w.in_ok-clone.ensures.cases
          ∙ one_hears hears planned observers i.place n c.loop-place-test.true c.index-observers-place.is (told ∙ w.if-branch.true))
      | else-branch w ↦ rw w.heard-is (i.invariant ∙ none_hears hears planned observers i.place n c.loop-place-test.true c.index-observers-place.is (told ∙ w.if-branch.false))
    ]
