use Rattle.std.proofs.Common.{◌∙◌, ◌==◌, ◌&&◌, is_some, sym}
use Rattle.cdi_name_check.proofs.NameSteps.{one_taken, none_taken, and_all, and_none}
use Rattle.cdi_name_check.proofs.unknown_name.name_sets.bean_class_names.Goals as goal
use Rattle.cdi_name_check.proofs.unknown_name.name_sets.bean_class_names.Goals.{then-is_some+in_ok-insert, else-is_some}

pub loop-class-preserved : goal.loop-class-preserved
loop-class-preserved c =
    let l = c.loop-class in
    let class = c.class-item.result in
    elim c.if-is_some.branch [
      | then-is_some+in_ok-insert w ↦ rw w.set-is (one_taken (λ c q. (c.name == q) && is_some c.bean) c.args.classes.now l.class-index class c.loop-class-test.true c.class-item.is l.set l.invariant class.name _ (λ q. and_all _ _ (sym c.is_some.ensures ∙ w.if-is_some.true)) w.in_ok-insert.ensures.updates.0)
      | else-is_some w ↦ rw w.set-is (none_taken (λ c q. (c.name == q) && is_some c.bean) c.args.classes.now l.class-index class c.loop-class-test.true c.class-item.is l.set l.invariant (λ q. and_none _ _ (sym c.is_some.ensures ∙ w.if-is_some.false)))
    ]
