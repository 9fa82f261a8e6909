use Rattle.cdi_problems.specs.Elements.{shown}
use Rattle.cdi_bean_rules.proofs.AllProblems.{all_problems}
use Rattle.cdi_bean_check.proofs.PlaceSets.{on_ok}
use Rattle.cdi_bean_rules.proofs.problems.add_all.Goals as goal

pub returns : goal.returns
returns c =
    let t = c.args.tables.now in
    let classes = c.as_slice-classes.ensures in
    on_ok c.add_excess.result
    (λ excess. all_problems t.deployment.now t.types.now t.types_are (shown t.elements.now) c.requires.all t.qualifiers.now
    c.args.problems.now c.add_repeated.new.problems c.add_found.new.problems c.add_found-2.new.problems c.add_specializing.new.problems
    c.add_losing.new.problems c.add_found-3.new.problems c.add_found-4.new.problems c.add_conditional.new.problems c.add_found-5.new.problems
    c.add_excess.new.problems c.requires.none
    (rw classes at c.in_ok-add_repeated.ensures)
    c.in_ok-add_found.ensures
    c.in_ok-add_found-2.ensures
    (rw classes at c.in_ok-add_specializing.ensures)
    (rw t.beans_are at c.in_ok-add_losing.ensures)
    c.in_ok-add_found-3.ensures
    c.in_ok-add_found-4.ensures
    (rw classes at c.in_ok-add_conditional.ensures)
    c.in_ok-add_found-5.ensures
    excess)
    c.add_excess.ensures
