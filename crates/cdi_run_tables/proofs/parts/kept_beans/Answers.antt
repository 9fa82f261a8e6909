use Rattle.std.proofs.Common.{sym, subst}
use Rattle.std.specs.List.{All}
use Rattle.cdi_planner.specs.Plans.{IsDeclared}
use Rattle.cdi_resolve.specs.declared.bean_tables.BeanTables.{BeanTables}
use Rattle.cdi_run_tables.proofs.KeptFrom.{beans_made}
use Rattle.cdi_run_tables.proofs.parts.kept_beans.Goals as goal

pub build-requires-2-clause-declared : goal.build-requires-2-clause-declared
build-requires-2-clause-declared c =
    let d = c.args.deployment.now in
    let made = c.requires.tables in
    let P : BeanTables → Type 0 = λ s. All (IsDeclared d.classes) s.resolver.beans in
    let at_list = subst P (sym made.are.are) (c.law_beans_are_declared.ensures d made.list made.made) in
    rw c.beans.ensures (rw c.requires.planner at_list)

pub returns : goal.returns
returns c =
    let is = c.in_ok-numbering.ensures in
    beans_made c.args.deployment.now c.args.tables.now c.args.ids.now c.args.planner.now c.in_ok-numbering.numbering c.beans.result.now c.requires.planner is.ids is.names is.qualifiers is.resolver c.beans.ensures c.build-2.result c.build-2.ensures.beans c.build-2.ensures.few
