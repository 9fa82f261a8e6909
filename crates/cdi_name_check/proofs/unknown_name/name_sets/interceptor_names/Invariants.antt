use Rattle.std.proofs.Common.{◌==◌, take}
use Rattle.std.specs.List.{list_any}
use Rattle.cdi_name_check.specs.NameSets.{HasNames}
use Rattle.cdi_name_check.proofs.unknown_name.name_sets.interceptor_names.Given as goal

abbrev pub invariant-loop-interceptor : goal.invariant-loop-interceptor
invariant-loop-interceptor l = HasNames (λ name. list_any (λ j. j.name == name) (take l.interceptor-index l.interceptors)) l.set
