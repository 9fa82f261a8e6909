use Rattle.std.proofs.Common.{take}
use Rattle.std.specs.List.{AllZip}
use Rattle.cdi_run_tables.specs.Index.{ArePlannedBy, AsksOf}
use Rattle.cdi_run_tables.specs.Seen.{parts_seen}
use Rattle.cdi_run_tables.proofs.interceptor_steps.all_steps.Given as goal

-- those of the interceptors that were looked at
abbrev pub invariant-loop-interceptor : goal.invariant-loop-interceptor
invariant-loop-interceptor l = AllZip (ArePlannedBy (parts_seen l.parts)) (take l.interceptor-index l.interceptor-items) l.all × AsksOf (parts_seen l.parts) l.lookup.now
