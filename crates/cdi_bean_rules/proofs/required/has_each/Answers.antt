use Rattle.std.proofs.Common.{◌∙◌, sym}
use Rattle.cdi_quals.specs.Qualifiers.{full_use, has, has_all}
use Rattle.cdi_bean_check.specs.Qualifiers.{full_uses, uses_with_built_in}
use Rattle.cdi_bean_check.proofs.Mapped.{passes, fails}
use Rattle.cdi_bean_rules.proofs.required.has_each.Goals as goal

pub returns-then-not-has_written : goal.returns-then-not-has_written
returns-then-not-has_written c =
    let types = c.args.types.now in
    let set = full_uses types (uses_with_built_in c.args.declared.now) in
    fails (has set) (full_use types) c.args.others.now c.loop-other.other-index c.other-item.result c.loop-other-test.true c.other-item.is _ (sym c.has_written.ensures ∙ c.if-not-has_written.true) c.loop-other.invariant

pub loop-other-preserved : goal.loop-other-preserved
loop-other-preserved c =
    let types = c.args.types.now in
    let set = full_uses types (uses_with_built_in c.args.declared.now) in
    passes (has set) (full_use types) c.args.others.now c.loop-other.other-index c.other-item.result c.loop-other-test.true c.other-item.is _ (sym c.has_written.ensures ∙ c.if-not-has_written.false) c.loop-other.invariant
