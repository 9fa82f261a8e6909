use Rattle.std.proofs.Common.{◌≡◌, ◌∙◌, ◌++◌, ◌∷◌, [], List, filter, take, sym, subst}
use Rattle.std.specs.List.{AllZip}
use Rattle.cdi_deployment.specs.declared.deployment.Class.{Class}
use Rattle.cdi_deployment.specs.declared.deployment.Member.{Member}
use Rattle.cdi_bean_check.specs.Inherited.{AreMembersOf}
use Rattle.cdi_bean_rules.specs.Limits.{observer_count, IsObserverCountOf}
use Rattle.cdi_bean_check.specs.ManagedBeans.{is_bean}
use Rattle.cdi_bean_rules.proofs.Counts.{picks, picks_none, pushes, adds_up}
use Rattle.cdi_bean_rules.proofs.limits.observer_count.Goals as goal
use Rattle.cdi_bean_rules.proofs.limits.observer_count.Goals.{then-is_bean+in_ok-observers_of, else-is_bean}

pub loop-class-preserved : goal.loop-class-preserved
loop-class-preserved c =
    let classes = c.args.classes.now in
    let l = c.loop-class in
    let class = c.class-item.result in
    let inv = l.invariant in
    let R : Class → List (Class × Member) → Type 0 = AreMembersOf classes c.args.types.now in
    elim c.if-is_bean.branch [
      | then-is_bean+in_ok-observers_of w ↦ (
          let own : IsObserverCountOf classes c.args.types.now class w.in_ok-observers_of.field-0 = rw (← c.requires) w.in_ok-observers_of.ensures in
          let P : List Class → Type 0 = λ beans. AllZip R beans (inv.lists ++ own.has ∷ []) in
          record {
            lists = inv.lists ++ own.has ∷ [];
            each = subst P (sym (picks classes l.class-index class c.loop-class-test.true c.class-item.is is_bean (sym c.is_bean.ensures ∙ w.if-is_bean.true)))
                (pushes R (filter is_bean (take l.class-index classes)) inv.lists class own.has inv.each own.are);
            counted = w.count-is ∙ adds_up observer_count inv.lists own.has 18446744073709551615 l.count w.in_ok-observers_of.field-0 w.saturating_add-count.result inv.counted own.sum w.saturating_add-count.ensures;
          }
          )
      | else-is_bean w ↦ (
          let P : List Class → Type 0 = λ beans. AllZip R beans inv.lists in
          record {
            lists = inv.lists;
            each = subst P (sym (picks_none classes l.class-index class c.loop-class-test.true c.class-item.is is_bean (sym c.is_bean.ensures ∙ w.if-is_bean.false))) inv.each;
            counted = w.count-is ∙ inv.counted;
          }
          )
    ]
