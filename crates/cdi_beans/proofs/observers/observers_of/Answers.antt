use Rattle.std.proofs.Common.{◌≡◌, ◌∙◌, List, filter, take, sym, ap, subst}
use Rattle.std.specs.List.{filter_map}
use Rattle.cdi_deployment.specs.declared.deployment.Class.{Class}
use Rattle.cdi_deployment.specs.declared.deployment.Observer.{Observer}
use Rattle.cdi_bean_check.specs.ManagedBeans.{is_bean}
use Rattle.cdi_beans.specs.Adds.{Adds}
use Rattle.cdi_beans.specs.ObserverMembers.{AreObserverMembersOf}
use Rattle.cdi_beans.specs.ObserverMethods.{AreObserversOf, IsObserverOf, observer}
use Rattle.cdi_beans.proofs.Adding.{filter_kept, filter_skipped}
use Rattle.cdi_beans.proofs.ObserverKinds.{observers-of_kind}
use Rattle.cdi_beans.proofs.ObserverLists.{bean_more}
use Rattle.cdi_beans.proofs.observers.observers_of.Goals as goal
use Rattle.cdi_beans.proofs.observers.observers_of.Goals.{then-is_some+in_ok-has+in_ok-add_observers, else-is_some}

pub loop-class-init : goal.loop-class-init
loop-class-init c = rw c.empty-observers.ensures AreObserversOf.none

pub loop-class-preserved : goal.loop-class-preserved
loop-class-preserved c =
    let d = c.args.tables.now.deployment.now in
    let qualifiers = c.args.tables.now.qualifiers.now in
    let i = c.loop-class in
    let classes = c.as_slice-class-items.result.now in
    let class = c.class-item.result in
    elim c.if-is_some.branch [
      | then-is_some+in_ok-has+in_ok-add_observers w ↦ (
          let own : AreObserverMembersOf d class w.in_ok-has.has = w.in_ok-has.ensures in
          let those : filter_map observer w.as_slice.result.now ≡ filter_map observer own.has = ap (filter_map observer) (w.as_slice.ensures ∙ own.those) ∙ observers-of_kind own.has in
          let Q : List (Class × Observer) → Type 0 = λ os. Adds (IsObserverOf d qualifiers class) os i.observers w.add_observers.new.observers in
          let P : List Class → Type 0 = λ cs. AreObserversOf d qualifiers cs w.add_observers.new.observers in
          rw w.observers-is (subst P (filter_kept is_bean classes i.class-index class c.loop-class-test.true c.class-item.is (sym c.is_some.ensures ∙ w.if-is_some.true)) (bean_more d qualifiers class own.has (filter is_bean (take i.class-index classes)) i.observers w.add_observers.new.observers own.are (subst Q those w.in_ok-add_observers.ensures) i.invariant))
          )
      | else-is_some w ↦ (
          let P : List Class → Type 0 = λ cs. AreObserversOf d qualifiers cs i.observers in
          rw w.observers-is (subst P (filter_skipped is_bean classes i.class-index class c.loop-class-test.true c.class-item.is (sym c.is_some.ensures ∙ w.if-is_some.false)) i.invariant)
          )
    ]
