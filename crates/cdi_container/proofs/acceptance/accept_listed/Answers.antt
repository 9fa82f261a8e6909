use Rattle.std.proofs.Common.{rules, ◌≡◌, ◌≢◌, [], refl, sym, subst, IfOk, IfErr}
use Rattle.cdi_bodies.specs.Table.{entries_of}
use Rattle.cdi_check.specs.Problems.{AreProblemsOf}
use Rattle.cdi_container.specs.Accepted.{IsAccepted, IsUnaccepted}
use Rattle.cdi_container.proofs.Accepting.{faultless_by, tables_with}
use Rattle.cdi_container.proofs.acceptance.accept_listed.Goals as goal

pub returns-then-not-is_empty-clause-err : goal.returns-then-not-is_empty-clause-err
returns-then-not-is_empty-clause-err g c =
    let some : c.in_ok-problems.problems ≢ [] = search rules in
    subst (λ u. IsUnaccepted c.args.deployment (entries_of c.args.bodies.now) u) (sym c.refused.ensures) (refl, AreProblemsOf.late c.in_ok-problems.ensures.late, some)

pub formed-requires-clause-are : goal.formed-requires-clause-are
formed-requires-clause-are g c =
    let none : c.in_ok-problems.problems ≡ [] = search rules in
    let made = c.in_ok-tables.ensures in
    tables_with (entries_of c.args.bodies.now) c.args.deployment c.in_ok-listed.listed c.in_ok-problems.problems none c.in_ok-tables.tables made.deployment made.tables c.in_ok-problems.ensures.late made.tabled made.ids made.lookups

pub formed-requires-clause-faultless : goal.formed-requires-clause-faultless
formed-requires-clause-faultless g c =
    let none : c.in_ok-problems.problems ≡ [] = search rules in
    let made = c.in_ok-tables.ensures in
    faultless_by (entries_of c.args.bodies.now) c.args.deployment c.in_ok-listed.listed c.in_ok-problems.problems none c.in_ok-tables.tables made.deployment made.tables c.in_ok-problems.ensures.by_tables

pub returns-clause-ok : goal.returns-clause-ok
returns-clause-ok g c =
    subst (λ d. IfOk c.formed.result (IsAccepted d (entries_of c.args.bodies.now))) c.in_ok-tables.ensures.deployment c.formed.ensures.ok

pub returns-clause-err : goal.returns-clause-err
returns-clause-err g c =
    subst (λ d. IfErr c.formed.result (IsUnaccepted d (entries_of c.args.bodies.now))) c.in_ok-tables.ensures.deployment c.formed.ensures.err
