-- What contracts see of what is kept of a deployment for a run.
use Rattle.std.specs.Prelude.{List, [], ◌∷◌}
use Rattle.cdi_bean_lives.specs.Beans.{plan_kept}
use Rattle.cdi_bean_lives.specs.declared.kept.KeptBean.{KeptBean}
use Rattle.cdi_beans.specs.declared.bean.Bean.{Bean}
use Rattle.cdi_class_lives.specs.declared.lives.ClassLives.{ClassLives}
use Rattle.cdi_planner.specs.Tables.{PlanTables}
use Rattle.cdi_run_tables.specs.Parts.{PlannedBean, RunParts}
use Rattle.cdi_run_tables.specs.Places.{place_of, plan_tables}
use Rattle.cdi_run_tables.specs.declared.parts.KeptParts.{KeptParts}

-- a bean with its plan
abbrev pub planned_bean : PlanTables → ClassLives → Bean → KeptBean → PlannedBean
planned_bean t l b kept =
    record { place = place_of b; scope = b.scope; plan = plan_kept t l b kept }

-- beans, and what is kept of them, side by side
abbrev pub planned_beans : PlanTables → ClassLives → List Bean → List KeptBean → List PlannedBean
planned_beans t l [] kept = []
planned_beans t l (b ∷ beans) [] = []
planned_beans t l (b ∷ beans) (k ∷ kept) = planned_bean t l b k ∷ planned_beans t l beans kept

abbrev pub parts_seen : KeptParts → RunParts
parts_seen p =
    record {
      deployment = p.deployment;
      tables = p.tables;
      beans =
          planned_beans (plan_tables p.deployment p.tables) p.beans.lives p.tables.resolver.beans
          p.beans.beans;
      ids = p.ids;
      lookups = p.lookups;
    }
