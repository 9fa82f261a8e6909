use Rattle.cdi_live.specs.Settings.{setting_of}
use Rattle.cdi_check.proofs.Adding.{adds_points}
use Rattle.cdi_check.proofs.late.add_of_points.Goals as goal

pub returns : goal.returns
returns c =
    adds_points c.args.tables.now.deployment.now (setting_of c.args.tables.now)
    c.args.problems.now c.add_problems_at.new.problems c.add_problems_at-2.new.problems c.add_problems_at-3.new.problems
    c.in_ok-unsatisfied.unsatisfied c.in_ok-ambiguous.ambiguous c.in_ok-unproxyable.unproxyable
    c.in_ok-unsatisfied.ensures
    c.in_ok-ambiguous.ensures
    c.in_ok-unproxyable.ensures
    (rw c.as_slice.ensures at c.in_ok-add_problems_at.ensures)
    (rw c.as_slice-2.ensures at c.in_ok-add_problems_at-2.ensures)
    (rw c.as_slice-3.ensures at c.in_ok-add_problems_at-3.ensures)
