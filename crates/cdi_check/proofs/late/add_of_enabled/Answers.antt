use Rattle.cdi_live.specs.Settings.{setting_of}
use Rattle.cdi_problems.specs.Elements.{shown}
use Rattle.cdi_check.proofs.Adding.{adds_enabled}
use Rattle.cdi_check.proofs.late.add_of_enabled.Goals as goal

pub returns : goal.returns
returns c =
    adds_enabled c.args.tables.now.deployment.now c.args.tables.now.beans.now.enabled (setting_of c.args.tables.now) (shown c.args.elements.now)
    c.requires
    c.args.problems.now c.add_problems_at.new.problems c.add_problems_at-2.new.problems c.add_problems_at-3.new.problems
    c.in_ok-inconsistent.inconsistent c.in_ok-cyclic.cyclic c.in_ok-finals.finals
    c.in_ok-inconsistent.ensures
    c.in_ok-cyclic.ensures
    c.in_ok-finals.ensures
    (rw c.as_slice.ensures at c.in_ok-add_problems_at.ensures)
    (rw c.as_slice-2.ensures at c.in_ok-add_problems_at-2.ensures)
    (rw c.as_slice-3.ensures at c.in_ok-add_problems_at-3.ensures)
