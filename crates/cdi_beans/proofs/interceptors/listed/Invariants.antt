use Rattle.std.proofs.Common.{◌≡◌, drop}
use Rattle.std.specs.List.{enumerate_from}
use Rattle.cdi_beans.specs.Interceptors.{listed}
use Rattle.cdi_beans.proofs.interceptors.listed.Given as goal

abbrev pub invariant-loop-index : goal.invariant-loop-index
invariant-loop-index l = listed (enumerate_from 0 l.interceptors) l.name ≡ listed (enumerate_from l.index (drop l.index l.interceptors)) l.name
