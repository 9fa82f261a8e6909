use Rattle.std.proofs.Common.{◌≡◌, ◌++◌, take}
use Rattle.std.specs.List.{flat_map}
use Rattle.cdi_body_check.specs.Sites.{interceptor_sites, shown}
use Rattle.cdi_body_check.proofs.site.add_of_interceptors.Given as goal

abbrev pub invariant-loop-interceptor : goal.invariant-loop-interceptor
invariant-loop-interceptor l = shown l.sites.items ≡ shown l.initial.sites.items ++ flat_map interceptor_sites (take l.interceptor-index l.interceptors)
