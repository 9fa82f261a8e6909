use Rattle.std.proofs.Common.{take}
use Rattle.std.specs.List.{AllZip}
use Rattle.cdi_beans.specs.Interceptors.{IsEnabledInterceptor}
use Rattle.cdi_beans.proofs.interceptors.interceptors_of.Given as goal

abbrev pub invariant-loop-indexed : goal.invariant-loop-indexed
invariant-loop-indexed l = AllZip (IsEnabledInterceptor l.deployment.names l.bindings) (take l.indexed-index l.indexed-items) l.interceptors
