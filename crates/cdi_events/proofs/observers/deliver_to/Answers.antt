use Rattle.std.proofs.Common.{refl, sym, ap, ◌∙◌, arith}
use Rattle.cdi_host.specs.declared.beans.BeanHead.{BeanHead}
use Rattle.cdi_machine.specs.Told.{observer_told}
use Rattle.cdi_steps.specs.declared.task.Delivery.{Delivery}
use Rattle.cdi_steps.proofs.Heads.{is_absent, is_there}
use Rattle.cdi_steps.proofs.Made.{ends}
use Rattle.cdi_events.specs.Events.{is_passed_over}
use Rattle.cdi_events.proofs.ObserverSteps.{calls_it, deliver_missing, skips}
use Rattle.cdi_events.proofs.observers.deliver_to.Goals as goal

pub returns-in_default : goal.returns-in_default
returns-in_default g c =
    rw c.missing.ensures (ends (deliver_missing (g.T.Tables.tables c.args.tables.now) c.args.delivery (g.W.Contents.world c.args.world.now) (is_absent _ (rw c.into_inner-observer.ensures at c.in_default.ensures))) (omega arith) refl)

pub returns-then-is_skipped : goal.returns-then-is_skipped
returns-then-is_skipped g c =
    let t = g.T.Tables.tables c.args.tables.now in
    let w = g.W.Contents.world c.args.world.now in
    let there = is_there (t.bean c.args.delivery.value.observer.bean) c.in-Some.head (rw c.into_inner-observer.ensures at c.in-Some.ensures) in
    let same = c.in_ok-others.ensures ∙ ap (λ (d : Delivery). d.others) c.into_inner-observer.ensures in
    let over = rw c.into_inner-observer.ensures at c.is_skipped.ensures in
    skips t c.args.delivery w there.bean there.there c.in_ok-others.others same c.requires
    (ap (λ (h : BeanHead). is_passed_over w (observer_told c.args.delivery.value.observer) h.scope) there.headed ∙ sym {b = is_passed_over w (observer_told c.args.delivery.value.observer) c.in-Some.head.scope} over ∙ c.if-is_skipped.true)

pub returns : goal.returns
returns g c =
    let t = g.T.Tables.tables c.args.tables.now in
    let w = g.W.Contents.world c.args.world.now in
    let there = is_there (t.bean c.args.delivery.value.observer.bean) c.in-Some.head (rw c.into_inner-observer.ensures at c.in-Some.ensures) in
    let same = c.in_ok-others.ensures ∙ ap (λ (d : Delivery). d.others) c.into_inner-observer.ensures in
    let over = rw c.into_inner-observer.ensures at c.is_skipped.ensures in
    calls_it t c.args.delivery w there.bean there.there c.in_ok-others.others same c.requires c.in_ok-call.call
    (rw (c.deref.ensures, same, c.into_inner-observer.ensures) at c.in_ok-call.ensures)
    (ap (λ (h : BeanHead). is_passed_over w (observer_told c.args.delivery.value.observer) h.scope) there.headed ∙ sym {b = is_passed_over w (observer_told c.args.delivery.value.observer) c.in-Some.head.scope} over ∙ c.if-is_skipped.false)
