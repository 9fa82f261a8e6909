use Rattle.std.proofs.Common.{◌∙◌, sym}
use Rattle.std.proofs.lemmas.Bool.{true≢false}
use Rattle.cdi_live.proofs.FieldSets.{one_class, no_class}
use Rattle.cdi_live.proofs.sets.classes_with_fields.Goals as goal
use Rattle.cdi_live.proofs.sets.classes_with_fields.Goals.{then-contains+in_ok-insert, else-contains}

pub loop-class-preserved : goal.loop-class-preserved
loop-class-preserved c =
    let l = c.loop-class in
    elim c.if-contains.branch [
      | then-contains+in_ok-insert w ↦ rw w.set-is (one_class c.args.types.now c.args.enabled.now c.args.classes.now l.class-index c.class-item.result c.loop-class-test.true c.class-item.is l.set l.invariant
          ((c.in_ok-above.ensures c.class-item.result.name).0 (sym c.contains.ensures ∙ w.if-contains.true)) _ w.in_ok-insert.ensures.updates.0)
      | else-contains w ↦ rw w.set-is (no_class c.args.types.now c.args.enabled.now c.args.classes.now l.class-index c.class-item.result c.loop-class-test.true c.class-item.is l.set l.invariant
          (λ has. true≢false (sym ((c.in_ok-above.ensures c.class-item.result.name).1 has) ∙ sym c.contains.ensures ∙ w.if-contains.false)))
    ]
