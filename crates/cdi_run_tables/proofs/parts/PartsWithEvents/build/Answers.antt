use Rattle.cdi_run_tables.proofs.KeptFrom.{are_kept, is_tabled}
use Rattle.cdi_run_tables.proofs.parts.PartsWithEvents.build.Goals as goal

pub returns-clause-tabled : goal.returns-clause-tabled
returns-clause-tabled g c = is_tabled _ c.in_ok-plans.ensures.beans c.requires

pub returns-clause-kept : goal.returns-clause-kept
returns-clause-kept g c = are_kept _ c.in_ok-plans.ensures.beans
