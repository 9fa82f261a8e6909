-- What is asked of a bean in the words of an instance's life.
use Rattle.std.specs.Prelude.{ℕ, ◌^◌, ◌&&◌, Bool, List, [], Option, Some, None, length, nat_le, option_map}
use Rattle.std.specs.List.{list_all}
use Rattle.cdi_base.specs.declared.place.Place.{Place}
use Rattle.cdi_base.specs.declared.scope.Scope.{Scope}
use Rattle.cdi_machine.specs.Tables as machine
use Rattle.cdi_machine.specs.Words.{Asked}
use Rattle.cdi_numbered_plans.specs.Numbers.{has_numbers}
use Rattle.cdi_run_tables.specs.Machine.{bean_at, machine_resolution, resolution_of}
use Rattle.cdi_run_tables.specs.Observers.{group_has_numbers, planned_groups}
use Rattle.cdi_run_tables.specs.Sizes.{has_few_fields}
use Rattle.cdi_run_tables.specs.Parts.{PlannedBean}
use Rattle.cdi_run_tables.specs.declared.planned.PlacedBean.{PlacedBean}
use Rattle.cdi_run_tables.specs.declared.tables.RunTables.{RunTables}

-- at most 4,294,967,296 beans
abbrev pub has_few_beans : RunTables → Bool
has_few_beans t = nat_le (length t.tables.resolver.beans) (2 ^ 32)

-- what each plan names, the injected fields of each interceptor, and the interceptors round each observer have numbers of 32 bits
abbrev pub is_numbered : RunTables → Bool
is_numbered t =
    has_few_beans t && list_all (λ (b : PlannedBean). has_numbers b.plan) t.beans
    && list_all has_few_fields t.deployment.interceptors
    && list_all group_has_numbers (planned_groups t)

-- what a type and qualifiers resolve to, as the machine is told
abbrev pub machine_resolve : RunTables → Asked → machine.Resolution
machine_resolve t asked = machine_resolution (resolution_of t asked.type asked.qualifiers)

-- where a bean stands, and its scope
abbrev pub head_of : PlacedBean → Place × Scope
head_of b = (b.place, b.scope)

abbrev pub kind_at : RunTables → ℕ → Option machine.Kind
kind_at t b = option_map (λ (bean : machine.Bean). bean.kind) (bean_at t b)

-- the steps by which an instance of a bean is created; a product has none
abbrev pub plan_in : Option machine.Kind → List machine.Step
plan_in None = []
plan_in (Some (machine.Kind.Class c)) = c.plan
plan_in (Some (machine.Kind.Producer p)) = []

-- what runs where an instance is destroyed; a product has none
abbrev pub pre_destroy_in : Option machine.Kind → Option machine.Lifecycle
pre_destroy_in None = None
pre_destroy_in (Some (machine.Kind.Class c)) = Some c.pre_destroy
pre_destroy_in (Some (machine.Kind.Producer p)) = None

-- what a product comes from, and what disposes of it
abbrev pub product_in : Option machine.Kind → Option machine.Product
product_in None = None
product_in (Some (machine.Kind.Class c)) = None
product_in (Some (machine.Kind.Producer p)) = Some p
