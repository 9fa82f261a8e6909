use Rattle.std.proofs.Common.{◌≡◌, List, [], rules, subst}
use Rattle.std.specs.Prelude.{◌≢◌}
use Rattle.cdi_bean_rules.specs.Tiers.{AreBeanProblems}
use Rattle.cdi_problems.specs.declared.problem.Problem.{Problem}
use Rattle.cdi_beans.specs.Problems.{AreEarlyProblemsOf}
use Rattle.cdi_beans.proofs.build.list_named.Goals as goal

pub returns-then-not-is_empty-clause-refused : goal.returns-then-not-is_empty-clause-refused
returns-then-not-is_empty-clause-refused c =
    let some : c.in_ok-problems.problems ≢ [] = search rules in
    record {
      some = some;
      are = AreEarlyProblemsOf.of_beans c.in_ok-declared.ensures.qualifiers c.requires.well c.in_ok-problems.ensures;
    }

pub returns-clause-list : goal.returns-clause-list
returns-clause-list c =
    let none : c.in_ok-problems.problems ≡ [] = search rules in
    let P : List Problem → Type 0 = AreBeanProblems c.args.deployment.now c.in_ok-declared.declared.qualifiers in
    record {
      qualifiers = c.in_ok-declared.declared.qualifiers;
      are_qualifiers = c.in_ok-declared.ensures.qualifiers;
      bindings = c.in_ok-declared.declared.bindings;
      are_bindings = c.in_ok-declared.ensures.bindings;
      names_well = c.requires.well;
      beans_well = subst P none c.in_ok-problems.ensures;
      is = c.in_ok-list.ensures;
    }
