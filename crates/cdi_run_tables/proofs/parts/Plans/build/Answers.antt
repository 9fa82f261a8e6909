use Rattle.std.proofs.Common.{sym, subst}
use Rattle.std.specs.Prelude.{IsSome}
use Rattle.std.specs.List.{All}
use Rattle.cdi_planner.specs.Observers.{observer_of}
use Rattle.cdi_resolve.specs.declared.bean_tables.BeanTables.{BeanTables}
use Rattle.cdi_run_tables.proofs.parts.Plans.build.Goals as goal

pub build-requires-2-clause-declared : goal.build-requires-2-clause-declared
build-requires-2-clause-declared c =
    let d = c.args.deployment.now in
    let made = c.requires in
    let P : BeanTables → Type 0 = λ s. All (λ o. IsSome (observer_of d.classes o)) s.observers in
    let at_list = subst P (sym made.are.are) (c.law_observers_are_declared.ensures d made.list made.made) in
    rw c.in_ok-planner.ensures at_list
