use Rattle.std.proofs.Common.{◌==◌, ◌&&◌, not, rules}
use Rattle.cdi_name_check.proofs.NameSteps.{one_taken, none_taken, and_all, and_none}
use Rattle.cdi_name_check.proofs.unknown_name.name_sets.open_class_names.Goals as goal
use Rattle.cdi_name_check.proofs.unknown_name.name_sets.open_class_names.Goals.{then-not-class+in_ok-insert, else-not-class}

pub loop-class-preserved : goal.loop-class-preserved
loop-class-preserved c =
    let l = c.loop-class in
    let class = c.class-item.result in
    elim c.if-not-class.branch [
      | then-not-class+in_ok-insert w ↦ rw w.set-is (one_taken (λ c q. (c.name == q) && not c.is_final) c.args.classes.now l.class-index class c.loop-class-test.true c.class-item.is l.set l.invariant class.name _ (λ q. and_all (class.name == q) (not class.is_final) (search rules)) w.in_ok-insert.ensures.updates.0)
      | else-not-class w ↦ rw w.set-is (none_taken (λ c q. (c.name == q) && not c.is_final) c.args.classes.now l.class-index class c.loop-class-test.true c.class-item.is l.set l.invariant (λ q. and_none (class.name == q) (not class.is_final) (search rules)))
    ]
