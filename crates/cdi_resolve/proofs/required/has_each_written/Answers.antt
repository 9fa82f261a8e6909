use Rattle.std.proofs.Common.{◌∙◌, sym}
use Rattle.cdi_quals.specs.Qualifiers.{full_use, has}
use Rattle.cdi_bean_check.proofs.Mapped.{passes, fails}
use Rattle.cdi_resolve.proofs.required.has_each_written.Goals as goal

pub returns-then-not-bean_has_written : goal.returns-then-not-bean_has_written
returns-then-not-bean_has_written c =
    fails (has c.args.own.now) (full_use c.args.types.now) c.args.uses.now c.loop-written.written-index c.written-item.result c.loop-written-test.true c.written-item.is _ (sym c.bean_has_written.ensures ∙ c.if-not-bean_has_written.true) c.loop-written.invariant

pub loop-written-preserved : goal.loop-written-preserved
loop-written-preserved c =
    passes (has c.args.own.now) (full_use c.args.types.now) c.args.uses.now c.loop-written.written-index c.written-item.result c.loop-written-test.true c.written-item.is _ (sym c.bean_has_written.ensures ∙ c.if-not-bean_has_written.false) c.loop-written.invariant
