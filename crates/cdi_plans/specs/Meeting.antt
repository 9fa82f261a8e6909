-- Which of the bindings of interceptors class-level bindings meet.
use Rattle.std.specs.Prelude.{Bool, not, List, if◌then◌else◌}
use Rattle.std.specs.List.{list_all}
use Rattle.cdi_beans.specs.declared.bean.EnabledInterceptor.{EnabledInterceptor}
use Rattle.cdi_quals.specs.Qualifiers.{has}
use Rattle.cdi_quals.specs.declared.qualifier.Qualifier.{Qualifier}

module _ (some others : List Qualifier) where
  -- both meet a required binding, or neither does
  abbrev pub meet_both : Qualifier → Bool
  meet_both required = if has some required then has others required else not (has others required)

  -- so it is with each of an interceptor's
  abbrev pub meet_same : EnabledInterceptor → Bool
  meet_same j = list_all meet_both j.bindings
