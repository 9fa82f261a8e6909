use Rattle.std.proofs.Common.{take}
use Rattle.std.specs.List.{AllZip}
use Rattle.cdi_numbered_plans.specs.Numbered.{AsksOf}
use Rattle.cdi_run_tables.specs.Index.{AreGroupBy}
use Rattle.cdi_run_tables.proofs.observers.all_observers.Given as goal

-- those of the groups that were looked at
abbrev pub invariant-loop-group : goal.invariant-loop-group
invariant-loop-group l = AllZip (AreGroupBy l.numbering) (take l.group-index l.groups) l.all × AsksOf l.numbering l.lookup.now
