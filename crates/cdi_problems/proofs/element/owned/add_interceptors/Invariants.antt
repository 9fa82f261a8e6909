use Rattle.std.proofs.Common.{◌≡◌, ◌++◌, take}
use Rattle.std.specs.List.{flat_map, enumerate_from}
use Rattle.cdi_problems.specs.Elements as spec
use Rattle.cdi_problems.proofs.element.owned.add_interceptors.Given as goal

abbrev pub invariant-loop-index : goal.invariant-loop-index
invariant-loop-index l =
    spec.shown l.elements.items ≡ spec.shown l.initial.elements.items ++ flat_map spec.interceptor_elements (enumerate_from 0 (take l.index l.interceptors))
