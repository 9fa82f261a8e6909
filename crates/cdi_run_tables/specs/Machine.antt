-- What the machine asks of a deployment, answered from its tables.
use Rattle.std.specs.Prelude.{ℕ, ◌&&◌, List, map, filter, Bool, not, Option, None, option_map, option_and_then, slice_get, if◌then◌else◌}
use Rattle.std.specs.List.{filter_map}
use Rattle.cdi_base.specs.declared.uses.Use.{Use}
use Rattle.cdi_bean_check.specs.Qualifiers.{full_uses}
use Rattle.cdi_beans.specs.declared.bean.Bean.{Bean}
use Rattle.cdi_beans.specs.declared.bean.EnabledInterceptor.{EnabledInterceptor}
use Rattle.cdi_beans.specs.declared.bean.ObserverMethod.{ObserverMethod}
use Rattle.cdi_bodies.specs.declared.entry.Entry.{Entry}
use Rattle.cdi_bodies.specs.declared.shape.Lookup.{Lookup}
use Rattle.cdi_body_check.specs.Exceptions.{is_checked}
use Rattle.cdi_body_check.specs.Sites.{method_body}
use Rattle.cdi_deployment.specs.declared.deployment.Class.{Class}
use Rattle.cdi_deployment.specs.declared.deployment.Deployment.{Deployment}
use Rattle.cdi_deployment.specs.declared.deployment.InjectedField.{InjectedField}
use Rattle.cdi_deployment.specs.declared.deployment.Interceptor.{Interceptor}
use Rattle.cdi_deployment.specs.declared.deployment.Observer.{Observer}
use Rattle.cdi_machine.specs.Words.{Name, Asked}
use Rattle.cdi_machine.specs.Tables as machine
pub use Rattle.cdi_numbered_plans.specs.Machine.{asked_by, body_number, code_with, does_something, first_values, has_none, is_idle, machine_code, machine_kind, machine_lifecycle, machine_managed, machine_member, machine_method, machine_methods, machine_resolution, machine_source, machine_step, machine_steps, method_in, method_with, product_with}
use Rattle.cdi_name_check.specs.UnknownName.{is_type, are_qualifiers}
use Rattle.cdi_planner.specs.Observers.{observer_of, observer_method}
use Rattle.cdi_resolve.specs.Filters.{enabled_of, is_enabled}
use Rattle.cdi_resolve.specs.Resolution.{resolution}
use Rattle.cdi_resolve.specs.declared.resolution.Resolution.{Resolution}
use Rattle.cdi_event_tables.specs.Events.{Group, groups_of, hears, written_uses}
use Rattle.cdi_event_tables.specs.Ids.{id_in, AreIdsIn}
use Rattle.cdi_event_tables.specs.Observers.{managed_bean}
use Rattle.cdi_run_tables.specs.Parts.{PlannedBean}
use Rattle.cdi_run_tables.specs.declared.tables.RunTables.{RunTables}
use Rattle.cdi_body_check.specs.WrittenPoints.{point_of_field, point_of_lookup}
use Rattle.cdi_body_check.specs.WrittenNames.{is_event}

-- ---- beans

abbrev pub bean_with : PlannedBean → machine.Kind → machine.Bean
bean_with b kind = record { place = b.place; scope = b.scope; kind = kind }

abbrev pub machine_bean : (ℕ → Option ℕ) → List Bean → PlannedBean → Option machine.Bean
machine_bean ids beans b = option_map (bean_with b) (machine_kind ids beans b.plan)

-- the number of the body of a name
abbrev pub id_of : RunTables → ℕ → Option ℕ
id_of t = id_in t.ids

-- the names of bodies in a deployment have the numbers under which these entries are registered
abbrev pub AreIdsOf : {X : Type 0} {F : X → Type 0} {g : _} → List (Entry X F g) → RunTables
    → Type 0
AreIdsOf entries t = AreIdsIn entries t.deployment t.ids

-- the bean with an index, if it is enabled: of no other one is an instance made
abbrev pub planned_at : RunTables → ℕ → Option PlannedBean
planned_at t b = if is_enabled t.tables.resolver.flags b then slice_get t.beans b else None

abbrev pub bean_at : RunTables → ℕ → Option machine.Bean
bean_at t b =
    option_and_then (machine_bean (id_of t) t.tables.resolver.beans) (planned_at t b)

-- the method of a bean, as its plan has it
abbrev pub method_of : RunTables → ℕ → Name → Option machine.Method
method_of t b name =
    option_and_then (λ (bean : PlannedBean). method_in (id_of t) bean.plan name) (planned_at t b)

-- ---- names

abbrev pub resolution_of : RunTables → Name → List Use → Resolution
resolution_of t type qualifiers =
    resolution type (full_uses t.tables.declared.qualifiers qualifiers)
    (enabled_of t.tables.resolver)

abbrev pub is_known : Deployment → Name → List Use → Bool
is_known d type qualifiers = is_type d type && are_qualifiers d qualifiers

-- ---- interceptors

abbrev pub injection : InjectedField → Name × Asked
injection f = (f.name, asked_by (point_of_field f))

-- An interceptor has those methods that it declares; one whose body isn't registered has the number of no body.
abbrev pub machine_interceptor : (ℕ → Option ℕ) → Interceptor → machine.Interceptor
machine_interceptor ids j =
    record {
      name = j.name;
      fields = first_values j.fields;
      injected = map injection j.inject;
      body = λ role. option_map (body_number ids) (method_body j role);
    }

-- the declaration of an enabled interceptor, by its place among the enabled ones
abbrev pub declared_at : RunTables → ℕ → Option Interceptor
declared_at t i =
    option_and_then (λ (j : EnabledInterceptor). slice_get t.deployment.interceptors j.index)
    (slice_get t.tables.chains.interceptors i)

abbrev pub interceptor_at : RunTables → ℕ → Option machine.Interceptor
interceptor_at t i = option_map (machine_interceptor (id_of t)) (declared_at t i)

-- ---- observers

abbrev pub observer_with : RunTables → ObserverMethod → ℕ → Class × Observer → machine.Observer
observer_with t o bean declared =
    record {
      bean = bean;
      member = machine_member (id_of t) (observer_method t.tables.chains o.bean declared);
      conditional = o.if_exists;
    }

-- one of a bean that is enabled
abbrev pub observer_of_bean : RunTables → ObserverMethod → ℕ → Option machine.Observer
observer_of_bean t o bean =
    if is_enabled t.tables.resolver.flags bean
    then option_map (observer_with t o bean) (observer_of t.deployment.classes o) else None

abbrev pub machine_observer : RunTables → ObserverMethod → Option machine.Observer
machine_observer t o =
    option_and_then (observer_of_bean t o) (managed_bean t.tables.resolver.beans o.bean)

-- that hear an event of a class with qualifiers, as these were written
abbrev pub hearers : RunTables → Name → List Use → List ObserverMethod
hearers t class qualifiers =
    filter
    (hears t.tables.declared.types class (full_uses t.tables.declared.qualifiers qualifiers))
    t.tables.observers

-- in groups by priority, of which none is empty
abbrev pub observers_of : RunTables → Name → List Use → List (List machine.Observer)
observers_of t class qualifiers =
    filter (λ group. not (has_none group))
    (map (λ (g : Group). filter_map (machine_observer t) g.observers)
    (groups_of (hearers t class qualifiers)))

-- ---- lookups

abbrev pub asked_by_lookup : Lookup → Asked
asked_by_lookup l = asked_by (point_of_lookup l)

-- those of the body with a number
abbrev pub lookups_at : RunTables → ℕ → Option (List Lookup)
lookups_at t body = slice_get t.lookups body

abbrev pub lookup_in : Option (List Lookup) → ℕ → Option Asked
lookup_in all k = option_map asked_by_lookup (option_and_then (λ ls. slice_get ls k) all)

-- ---- the whole

abbrev pub machine_tables : RunTables → machine.Tables
machine_tables t =
    record {
      bean = bean_at t;
      interceptor = interceptor_at t;
      resolve = λ asked. machine_resolution (resolution_of t asked.type asked.qualifiers);
      written = written_uses t.deployment.names t.tables.declared.qualifiers;
      observers = observers_of t;
      lookup = λ body k. lookup_in (lookups_at t body) k;
      is_checked = is_checked t.deployment.exceptions;
      text = slice_get t.deployment.names;
      is_known = λ asked. is_known t.deployment asked.type asked.qualifiers;
      is_event = λ class qualifiers. is_event t.deployment
          (record { class = class; qualifiers = qualifiers });
    }
