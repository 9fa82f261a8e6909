use Rattle.std.proofs.Common.{◌≡◌, ◌++◌, take}
use Rattle.std.specs.List.{enumerate_from, filter_map}
use Rattle.cdi_beans.specs.Interceptors.{listed}
use Rattle.cdi_beans.proofs.interceptors.enabled.Given as goal

abbrev pub invariant-loop-name : goal.invariant-loop-name
invariant-loop-name l = l.enabled ≡ l.initial.enabled ++ filter_map (listed (enumerate_from 0 l.interceptors)) (take l.name-index l.name-items)
