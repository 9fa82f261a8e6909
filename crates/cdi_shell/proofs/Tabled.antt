-- A deployment with its scripts has one set of tables, as far as they are asked.
use Rattle.std.proofs.Common.{ℕ, ◌≡◌, ◌∙◌, List, filter, map, not, Option, None, sym, ap, subst}
use Rattle.std.specs.Prelude.{if◌then◌else◌, option_and_then, option_map, slice_get}
use Rattle.std.specs.List.{AllZip, filter_map}
use Rattle.cdi_bean_check.specs.Qualifiers.{full_uses}
use Rattle.cdi_beans.specs.declared.bean.EnabledInterceptor.{EnabledInterceptor}
use Rattle.cdi_body_check.specs.Exceptions.{is_checked}
use Rattle.cdi_deployment.specs.declared.deployment.Class.{Class}
use Rattle.cdi_deployment.specs.declared.deployment.Deployment.{Deployment}
use Rattle.cdi_deployment.specs.declared.deployment.Observer.{Observer}
use Rattle.cdi_machine.specs.Tables as machine
use Rattle.cdi_planner.specs.Observers.{observer_of, observer_method}
use Rattle.cdi_planner.specs.Tables.{PlanTables}
use Rattle.cdi_resolve.specs.Filters.{enabled_of, is_enabled}
use Rattle.cdi_resolve.specs.Resolution.{resolution}
use Rattle.cdi_event_tables.specs.Events.{Group, groups_of, hears, written_uses}
use Rattle.cdi_event_tables.specs.Observers.{managed_bean}
use Rattle.cdi_run_tables.specs.Machine.{has_none, id_of, interceptor_at, is_known, lookup_in, machine_bean, machine_interceptor, machine_member, machine_observer, machine_resolution, machine_tables, observers_of}
use Rattle.cdi_run_tables.specs.Planned.{IsPlanned, plan_tables}
use Rattle.cdi_run_tables.specs.declared.tables.RunTables.{RunTables}
use Rattle.cdi_resolve.specs.BeanTables.{AreTablesOf}
use Rattle.cdi_resolve.specs.declared.bean_tables.BeanTables.{BeanTables}
use Rattle.cdi_body_check.specs.WrittenNames.{is_event}
use Rattle.cdi_prepare.specs.declared.scripts.NamedScript.{NamedScript}
use Rattle.cdi_accepted.proofs.Plans.{one_plan_list}
use Rattle.cdi_accepted.proofs.Tables.{one_tables}
use Rattle.cdi_shell.specs.Drive.{AreTablesWith}

module _ (ss : List NamedScript) (d : Deployment) (t u : RunTables) (a : AreTablesWith ss d t) (b : AreTablesWith ss d u) where
  same_deployment : t.deployment ≡ u.deployment
  same_deployment = a.deployment_is ∙ sym b.deployment_is

  same_tables : t.tables ≡ u.tables
  same_tables = one_tables u.deployment t.tables u.tables (subst (λ k. AreTablesOf k t.tables) same_deployment a.tabled.tables) b.tabled.tables

  same_plans : plan_tables t.deployment t.tables ≡ plan_tables u.deployment u.tables
  same_plans = λ i. plan_tables (same_deployment i) (same_tables i)

  same_beans : t.beans ≡ u.beans
  same_beans =
      let P : PlanTables → Type 0 = λ k. AllZip (IsPlanned k) t.tables.resolver.beans t.beans in
      let Q : BeanTables → Type 0 = λ k. AllZip (IsPlanned (plan_tables u.deployment u.tables)) k.resolver.beans t.beans in
      one_plan_list (plan_tables u.deployment u.tables) u.tables.resolver.beans t.beans u.beans (subst Q same_tables (subst P same_plans a.tabled.planned)) b.tabled.planned

  same_ids : id_of t ≡ id_of u
  same_ids = λ i name. ap (option_and_then (λ (id : Option ℕ). id)) (a.ids name ∙ sym (b.ids name)) i

  same_lookups : t.lookups ≡ u.lookups
  same_lookups = a.lookups ∙ sym b.lookups

  -- ---- what the machine asks of them

  same_interceptors : interceptor_at t ≡ interceptor_at u
  same_interceptors =
      λ i n. option_map (machine_interceptor (same_ids i))
      (option_and_then (λ (j : EnabledInterceptor). slice_get (same_deployment i).interceptors j.index) (slice_get (same_tables i).chains.interceptors n))

  same_observer : machine_observer t ≡ machine_observer u
  same_observer =
      λ i o. option_and_then
      (λ bean. if is_enabled (same_tables i).resolver.flags bean
      then option_map
      (λ (declared : Class × Observer). record { bean = bean; member = machine_member (same_ids i) (observer_method (same_tables i).chains o.bean declared); conditional = o.if_exists })
      (observer_of (same_deployment i).classes o)
      else None)
      (managed_bean (same_tables i).resolver.beans o.bean)

  same_observers : observers_of t ≡ observers_of u
  same_observers =
      λ i class qualifiers. filter (λ (group : List machine.Observer). not (has_none group))
      (map (λ (g : Group). filter_map (same_observer i) g.observers)
      (groups_of (filter (hears (same_tables i).declared.types class (full_uses (same_tables i).declared.qualifiers qualifiers)) (same_tables i).observers)))

  pub same_machine : machine_tables t ≡ machine_tables u
  same_machine =
      λ i. record {
        bean = λ n. option_and_then (machine_bean (same_ids i) (same_tables i).resolver.beans) (if is_enabled (same_tables i).resolver.flags n then slice_get (same_beans i) n else None);
        interceptor = same_interceptors i;
        resolve = λ asked. machine_resolution (resolution asked.type (full_uses (same_tables i).declared.qualifiers asked.qualifiers) (enabled_of (same_tables i).resolver));
        written = written_uses (same_deployment i).names (same_tables i).declared.qualifiers;
        observers = same_observers i;
        lookup = λ body k. lookup_in (slice_get (same_lookups i) body) k;
        is_checked = is_checked (same_deployment i).exceptions;
        text = slice_get (same_deployment i).names;
        is_known = λ asked. is_known (same_deployment i) asked.type asked.qualifiers;
        is_event = λ class qualifiers. is_event (same_deployment i) (record { class = class; qualifiers = qualifiers });
      }
