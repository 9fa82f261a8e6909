use Rattle.std.proofs.Common.{◌≡◌, ◌++◌, take}
use Rattle.std.specs.List.{flat_map}
use Rattle.cdi_name_uses.specs.Known as spec
use Rattle.cdi_name_uses.proofs.known.add_interceptor_injected_fields.Given as goal

abbrev pub invariant-loop-interceptor : goal.invariant-loop-interceptor
invariant-loop-interceptor l =
    l.names ≡ l.initial.names ++ flat_map (λ j. spec.injected_names j.inject) (take l.interceptor-index l.interceptors)
