use Rattle.std.proofs.Common.{◌∙◌, ◌++◌, ◌∷◌, [], sym, ap}
use Rattle.std.proofs.lemmas.List.{append-nil}
use Rattle.cdi_bean_check.specs.ManagedBeans.{is_bean}
use Rattle.cdi_bean_check.proofs.NameLists.{one_picked, none_picked, one_more}
use Rattle.cdi_bean_check.proofs.bean_names.BeanNames.build.Goals as goal
use Rattle.cdi_bean_check.proofs.bean_names.BeanNames.build.Goals.{then-is_bean+in_ok-insert+in_ok-push, else-is_bean}

pub loop-class-preserved : goal.loop-class-preserved
loop-class-preserved c =
    let l = c.loop-class in
    let class = c.class-item.result in
    elim c.if-is_bean.branch [
      | then-is_bean+in_ok-insert+in_ok-push w ↦ rw (w.names-is, w.in_ok-push.ensures.ok, w.set-is) (record {
        has = one_more l.names class.name l.set _ l.invariant.has w.in_ok-insert.ensures.updates.0;
        are =
            ap (λ names. names ++ class.name ∷ []) l.invariant.are
            ∙ sym (one_picked is_bean (λ x. x.name) c.args.classes.now l.class-index class c.loop-class-test.true c.class-item.is (sym c.is_bean.ensures ∙ w.if-is_bean.true));
      })
      | else-is_bean w ↦ rw (w.names-is, w.set-is) (record {
        has = l.invariant.has;
        are =
            l.invariant.are ∙ sym (append-nil _)
            ∙ sym (none_picked is_bean (λ x. x.name) c.args.classes.now l.class-index class c.loop-class-test.true c.class-item.is (sym c.is_bean.ensures ∙ w.if-is_bean.false));
      })
    ]
