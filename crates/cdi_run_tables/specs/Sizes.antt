-- How many beans and injected fields there are.
use Rattle.std.specs.Prelude.{◌^◌, ◌&&◌, Bool, length, nat_le, nat_lt}
use Rattle.std.specs.List.{list_all}
use Rattle.cdi_deployment.specs.declared.deployment.Interceptor.{Interceptor}
use Rattle.cdi_run_tables.specs.Managed.{injections_of, managed_plan}
use Rattle.cdi_run_tables.specs.Parts.{PlannedBean}
use Rattle.cdi_run_tables.specs.declared.tables.RunTables.{RunTables}

abbrev pub has_few_injections : PlannedBean → Bool
has_few_injections b = nat_lt (length (injections_of (managed_plan b))) (2 ^ 32)

abbrev pub has_few_fields : Interceptor → Bool
has_few_fields j = nat_lt (length j.inject) (2 ^ 32)

-- at most 4,096 beans, and of each and of each interceptor at most 4,294,967,295 injected fields
abbrev pub is_small : RunTables → Bool
is_small t =
    nat_le (length t.beans) 4096 && list_all has_few_injections t.beans
    && list_all has_few_fields t.deployment.interceptors
