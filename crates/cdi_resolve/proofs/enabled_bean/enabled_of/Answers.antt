use Rattle.std.proofs.Common.{◌∙◌, ℕ, Bool, sym}
use Rattle.cdi_beans.specs.declared.bean.Bean.{Bean}
use Rattle.cdi_resolve.specs.Filters.{is_enabled, enabled_beans}
use Rattle.cdi_resolve.proofs.Counting.{counted, passed_over, at_end}
use Rattle.cdi_resolve.proofs.Pushing.{pushed, all_pushed}
use Rattle.cdi_resolve.proofs.enabled_bean.enabled_of.Goals as goal
use Rattle.cdi_resolve.proofs.enabled_bean.enabled_of.Goals.{then-has_flag+in_ok-push, else-has_flag}

pub loop-index-preserved : goal.loop-index-preserved
loop-index-preserved c =
    let i = c.loop-index.index in
    let b = c.index-beans-index.result in
    let wanted : ℕ × Bean → Bool = λ p. is_enabled c.args.flags.now p.0 in
    elim c.if-has_flag.branch [
      | then-has_flag+in_ok-push w ↦ rw (w.enabled-is, w.in_ok-push.ensures.ok) (
          counted pushed wanted c.args.beans.now c.loop-index.enabled i b c.loop-index-test.true c.index-beans-index.is (sym c.has_flag.ensures ∙ w.if-has_flag.true)
          ∙ c.loop-index.invariant)
      | else-has_flag w ↦ rw w.enabled-is (
          passed_over pushed wanted c.args.beans.now c.loop-index.enabled i b c.loop-index-test.true c.index-beans-index.is (sym c.has_flag.ensures ∙ w.if-has_flag.false)
          ∙ c.loop-index.invariant)
    ]

pub returns : goal.returns
returns c =
    let wanted : ℕ × Bean → Bool = λ p. is_enabled c.args.flags.now p.0 in
    sym (at_end pushed wanted c.args.beans.now c.loop-index.enabled c.loop-index.index c.loop-index-test.false) ∙ c.loop-index.invariant ∙ all_pushed (enabled_beans c.args.beans.now c.args.flags.now)
