use Rattle.std.proofs.Common.{rules, ap}
use Rattle.std.specs.Option.{option_copied}
use Rattle.cdi_problem_hints.proofs.cycle.add_dependent_cycle.Goals as goal

pub returns-in-Some-needs : goal.returns-in-Some-needs
returns-in-Some-needs c =
    let s = c.args.subject.now in
    let tables = ap option_copied c.in-Some.is in
    let needs = ap option_copied c.in-Some-needs.is in
    let same = s.are_needs c.in-Some.tables.now tables c.in-Some-needs.needs.now needs in
    search (rules, same)
