use Rattle.std.proofs.Common.{subst, sym, ap}
use Rattle.cdi_bodies.specs.Table.{entries_of}
use Rattle.cdi_body_check.specs.Shapes.{shape_of}
use Rattle.cdi_check.specs.Late.{AreProblemsIn}
use Rattle.cdi_check.specs.Tables.{setting_by}
use Rattle.cdi_resolve.specs.declared.bean_tables.BeanTables.{BeanTables}
use Rattle.cdi_check.proofs.tiers.late_problems.Goals as goal

pub returns-clause-late : goal.returns-clause-late
returns-clause-late g c =
    let d = c.args.deployment.now in
    let t = c.args.tables.now in
    let shapes = shape_of (entries_of c.args.bodies.now) in
    let problems = c.in_ok-problems.problems in
    let P : BeanTables → Type 0 = λ s. AreProblemsIn d shapes s.enabled (setting_by d s) problems in
    record {
      list = c.requires.tables.list;
      made = c.requires.tables.made;
      qualifiers = t.declared.qualifiers;
      are_qualifiers = c.requires.tables.are.declared.qualifiers;
      bindings = t.declared.bindings;
      are_bindings = c.requires.tables.are.declared.bindings;
      flags = t.resolver.flags;
      are_flags = c.requires.tables.are.flags;
      are = subst P c.requires.tables.are.are c.in_ok-problems.ensures;
    }
