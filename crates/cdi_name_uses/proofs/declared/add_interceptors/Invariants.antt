use Rattle.std.proofs.Common.{◌≡◌, ◌++◌, take}
use Rattle.cdi_name_uses.specs.Groups as spec
use Rattle.cdi_name_uses.proofs.declared.add_interceptors.Given as goal

abbrev pub invariant-loop-interceptor : goal.invariant-loop-interceptor
invariant-loop-interceptor l = l.names ≡ l.initial.names ++ spec.names_of_interceptors (take l.interceptor-index l.interceptors)
