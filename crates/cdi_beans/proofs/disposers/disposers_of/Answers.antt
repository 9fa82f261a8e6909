use Rattle.std.proofs.Common.{◌∙◌, sym}
use Rattle.cdi_bean_check.specs.ManagedBeans.{is_bean}
use Rattle.cdi_beans.specs.DisposerMethods.{disposers_in}
use Rattle.cdi_beans.proofs.Adding.{adds_kept, adds_skipped}
use Rattle.cdi_beans.proofs.disposers.disposers_of.Goals as goal
use Rattle.cdi_beans.proofs.disposers.disposers_of.Goals.{then-is_some+in_ok-add_disposers, else-is_some}

pub loop-class-preserved : goal.loop-class-preserved
loop-class-preserved c =
    let i = c.loop-class in
    let classes = c.as_slice-class-items.result.now in
    let class = c.class-item.result in
    elim c.if-is_some.branch [
      | then-is_some+in_ok-add_disposers w ↦ rw w.disposers-is (adds_kept disposers_in is_bean classes i.class-index class _ i.disposers w.add_disposers.new.disposers c.loop-class-test.true c.class-item.is (sym c.is_some.ensures ∙ w.if-is_some.true) i.invariant w.in_ok-add_disposers.ensures)
      | else-is_some w ↦ rw w.disposers-is (adds_skipped disposers_in is_bean classes i.class-index class _ i.disposers c.loop-class-test.true c.class-item.is (sym c.is_some.ensures ∙ w.if-is_some.false) i.invariant)
    ]
