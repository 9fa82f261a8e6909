use Rattle.std.proofs.Common.{take}
use Rattle.cdi_name_check.specs.NameSets.{HasNames}
use Rattle.cdi_live.specs.Live.{is_live_interceptor}
use Rattle.cdi_live.proofs.sets.names_of.Given as goal

abbrev pub invariant-loop-interceptor : goal.invariant-loop-interceptor
invariant-loop-interceptor l = HasNames (is_live_interceptor (take l.interceptor-index l.interceptors)) l.set
