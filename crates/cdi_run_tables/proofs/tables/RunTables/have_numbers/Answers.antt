use Rattle.std.proofs.Common.{◌∙◌, ap}
use Rattle.std.specs.List.{list_all}
use Rattle.cdi_numbered_plans.specs.Numbers.{has_numbers}
use Rattle.cdi_run_tables.proofs.KeptAt.{have_numbers}
use Rattle.cdi_run_tables.specs.Parts.{PlannedBean, RunParts}
use Rattle.cdi_run_tables.specs.Seen.{parts_seen}
use Rattle.cdi_run_tables.proofs.tables.RunTables.have_numbers.Goals as goal

pub returns : goal.returns
returns c =
    let p = c.self.inside.parts in
    c.have_numbers.ensures
    ∙ have_numbers (parts_seen p) p.beans.lives (parts_seen p).beans p.beans.beans c.self.invariant.kept.beans
    ∙ ap (λ (t : RunParts). list_all (λ (b : PlannedBean). has_numbers b.plan) t.beans) c.self.view_is
