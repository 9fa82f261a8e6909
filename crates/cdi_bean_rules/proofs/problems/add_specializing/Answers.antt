use Rattle.std.proofs.Common.{ℕ, List, subst}
use Rattle.cdi_problems.specs.Elements.{shown}
use Rattle.cdi_problems.specs.declared.problem.ProblemKind.TheVariants as kinds
use Rattle.cdi_bean_check.specs.ManagedBeans.{SpecializesNothing}
use Rattle.cdi_bean_rules.specs.Tiers.{AddsProblems}
use Rattle.cdi_bean_check.proofs.PlaceSets.{on_ok}
use Rattle.cdi_bean_rules.proofs.problems.add_specializing.Goals as goal

pub returns : goal.returns
returns c =
    let P : List ℕ → Type 0 = λ beans. AddsProblems (SpecializesNothing beans) (shown c.args.elements.now) kinds.SpecializesNothing c.args.problems.now c.add_found.new.problems in
    on_ok c.add_found.result (λ adds. subst P c.in_ok-beans.ensures adds) c.add_found.ensures
