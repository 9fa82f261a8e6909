use Rattle.std.proofs.Common.{◌≡◌, ◌++◌, filter, drop}
use Rattle.std.specs.List.{enumerate_from}
use Rattle.cdi_beans.specs.Interceptors.{has_priority}
use Rattle.cdi_beans.proofs.interceptors.prioritized.Given as goal

abbrev pub invariant-loop-index : goal.invariant-loop-index
invariant-loop-index l = l.found.items ++ filter has_priority (enumerate_from l.index (drop l.index l.interceptors)) ≡ filter has_priority (enumerate_from 0 l.interceptors)
