-- What the engine is told of beans that are served.
use Rattle.std.proofs.Common.{ℕ, ◌≡◌, ◌∙◌, ◌<◌, ◌≤◌, ◌^◌, ◌&&◌, true, nat_le, List, [], length, Option, Some, None, IsSome, is_some, refl, sym, ap, arith}
use Rattle.std.specs.Prelude.{option_map, option_and_then, slice_get}
use Rattle.std.specs.List.{list_all}
use Rattle.std.proofs.lemmas.Bool.{and_parts, leb-true}
use Rattle.cdi_base.specs.declared.place.Place.{Place}
use Rattle.cdi_base.specs.declared.scope.Scope.{Scope}
use Rattle.cdi_base.specs.declared.uses.Use.{Use}
use Rattle.cdi_event_tables.specs.Observers.{managed_bean}
use Rattle.cdi_host.specs.Asked.{fields_of, head_of, method_at, method_in, interceptor_fields, interceptor_plan, plan_of, pre_destroy_of, product_of}
use Rattle.cdi_host.specs.declared.beans.BeanHead.{BeanHead}
use Rattle.cdi_machine.specs.Tables as machine
use Rattle.cdi_plans.specs.declared.plan.ManagedPlan.{ManagedPlan}
use Rattle.cdi_plans.specs.declared.plan.Plan.{Plan}
use Rattle.cdi_plans.specs.declared.plan.Plan.TheVariants as plans
use Rattle.cdi_plans.specs.declared.plan.ProductPlan.{ProductPlan}
use Rattle.cdi_resolve.specs.declared.resolution.Resolution.{Resolution}
use Rattle.cdi_resolve.specs.declared.resolution.Resolution.TheVariants as resolutions
use Rattle.cdi_run_tables.proofs.Enabled.{stands_at}
use Rattle.cdi_run_tables.specs.Interceptors as interceptors
use Rattle.cdi_run_tables.specs.Interceptors.{fields_in}
use Rattle.cdi_run_tables.specs.Machine as tables
use Rattle.cdi_run_tables.specs.Machine.{bean_at, bean_with, id_of, machine_managed, machine_tables, method_of, planned_at, product_with, resolution_of}
use Rattle.cdi_run_tables.specs.Managed as managed
use Rattle.cdi_run_tables.specs.Managed.{managed_plan}
use Rattle.cdi_run_tables.specs.Numbered as numbered
use Rattle.cdi_run_tables.specs.Sizes.{has_few_fields, has_few_injections, is_small}
use Rattle.cdi_run_tables.specs.Parts.{PlannedBean}
use Rattle.cdi_run_tables.specs.declared.planned.PlacedBean.{PlacedBean}
use Rattle.cdi_run_tables.specs.declared.tables.RunTables.{RunTables}
use Rattle.cdi_runtime.proofs.Lists.{within}
use Rattle.cdi_runtime.specs.Standing.{HasNumber, IsServable}

-- ---- plans

-- the same steps, and what runs before a destruction, in the words of the tables
pub same_plan : (x : Option machine.Bean) → plan_of x ≡ numbered.plan_in (option_map (λ (bean : machine.Bean). bean.kind) x)
same_plan None = refl
same_plan (Some bean) = by bean.kind
  where
    by : (k : machine.Kind) → plan_of (Some (record { place = bean.place; scope = bean.scope; kind = k })) ≡ numbered.plan_in (Some k)
    by (machine.Kind.Class c) = refl
    by (machine.Kind.Producer p) = refl

pub same_pre_destroy : (x : Option machine.Bean) → pre_destroy_of x ≡ numbered.pre_destroy_in (option_map (λ (bean : machine.Bean). bean.kind) x)
same_pre_destroy None = refl
same_pre_destroy (Some bean) = by bean.kind
  where
    by : (k : machine.Kind) → pre_destroy_of (Some (record { place = bean.place; scope = bean.scope; kind = k })) ≡ numbered.pre_destroy_in (Some k)
    by (machine.Kind.Class c) = refl
    by (machine.Kind.Producer p) = refl

pub same_interceptor_plan : (x : Option machine.Interceptor) → interceptor_plan x ≡ interceptors.plan_of x
same_interceptor_plan None = refl
same_interceptor_plan (Some j) = refl

pub interceptor_fields_at : (x : Option machine.Interceptor) → interceptor_fields x ≡ fields_in x
interceptor_fields_at None = refl
interceptor_fields_at (Some j) = refl

module _ (t : RunTables) where
  -- a method of a bean is that of its plan
  method_of_plan : (b : PlannedBean) (plan : Plan) (name : ℕ)
      → option_and_then (λ (bean : machine.Bean). method_in bean.kind name) (option_map (bean_with b) (tables.machine_kind (id_of t) t.tables.resolver.beans plan)) ≡ tables.method_in (id_of t) plan name
  method_of_plan b (plans.Managed p) name = refl
  method_of_plan b (plans.Product p) name = by (managed_bean t.tables.resolver.beans p.declaring)
    where
      by : (o : Option ℕ) → option_and_then (λ (bean : machine.Bean). method_in bean.kind name) (option_map (bean_with b) (option_map (product_with (id_of t) p) o)) ≡ None
      by None = refl
      by (Some k) = refl

  pub method_is : (n name : ℕ) → method_at (machine_tables t) n name ≡ method_of t n name
  method_is n name = by (planned_at t n)
    where
      by : (o : Option PlannedBean)
          → option_and_then (λ (bean : machine.Bean). method_in bean.kind name) (option_and_then (tables.machine_bean (id_of t) t.tables.resolver.beans) o)
          ≡ option_and_then (λ (bean : PlannedBean). tables.method_in (id_of t) bean.plan name) o
      by None = refl
      by (Some b) = method_of_plan b b.plan name

-- ---- beans

-- a bean, as its place and its scope tell it
abbrev pub placed : Place × Scope → BeanHead
placed p = record { place = p.0; scope = p.1 }

-- the head of a bean that instances can be made of
pub head_is : (x : Option machine.Bean) (found : Option PlacedBean) → option_map numbered.head_of found ≡ option_map (λ (b : machine.Bean). (b.place, b.scope)) x
    → option_map head_of x ≡ option_map (λ b. placed (numbered.head_of b)) found
head_is x found e = of_machine x ∙ sym (ap (option_map placed) e) ∙ of_tables found
  where
    of_machine : (x : Option machine.Bean) → option_map head_of x ≡ option_map placed (option_map (λ (b : machine.Bean). (b.place, b.scope)) x)
    of_machine None = refl
    of_machine (Some b) = refl

    of_tables : (found : Option PlacedBean) → option_map placed (option_map numbered.head_of found) ≡ option_map (λ b. placed (numbered.head_of b)) found
    of_tables None = refl
    of_tables (Some b) = refl

-- what a bean comes from, in the words of the tables
pub same_product : (x : Option machine.Bean) → product_of x ≡ numbered.product_in (option_map (λ (bean : machine.Bean). bean.kind) x)
same_product None = refl
same_product (Some bean) = by bean.kind
  where
    by : (k : machine.Kind) → product_of (Some (record { place = bean.place; scope = bean.scope; kind = k })) ≡ numbered.product_in (Some k)
    by (machine.Kind.Class c) = refl
    by (machine.Kind.Producer p) = refl

module _ (t : RunTables) where
  abbrev told : PlannedBean → Plan → Option machine.Bean
  told b plan = option_map (bean_with b) (tables.machine_kind (id_of t) t.tables.resolver.beans plan)

  -- a product has no fields
  fields_of_plan : (b : PlannedBean) (plan : Plan) → fields_of (told b plan) ≡ managed.fields_of (managed.managed_of plan)
  fields_of_plan b (plans.Managed p) = refl
  fields_of_plan b (plans.Product p) = by (managed_bean t.tables.resolver.beans p.declaring)
    where
      by : (o : Option ℕ) → fields_of (option_map (bean_with b) (option_map (product_with (id_of t) p) o)) ≡ []
      by None = refl
      by (Some k) = refl

  pub fields_at : (n : ℕ) → fields_of (bean_at t n) ≡ managed.fields_of (option_and_then managed_plan (planned_at t n))
  fields_at n = by (planned_at t n)
    where
      by : (o : Option PlannedBean) → fields_of (option_and_then (tables.machine_bean (id_of t) t.tables.resolver.beans) o) ≡ managed.fields_of (option_and_then managed_plan o)
      by None = refl
      by (Some b) = fields_of_plan b b.plan

  -- a statement on what stands at an index holds if it does of a managed bean, of a product, and where there is no bean
  module _ (P : Option PlannedBean → Option machine.Bean → Type 0) (none : (b : Option PlannedBean) → P b None)
      (managed_one : (b : PlannedBean) (p : ManagedPlan) → b.plan ≡ plans.Managed p → P (Some b) (Some (bean_with b (machine.Kind.Class (machine_managed (id_of t) p)))))
      (product_one : (b : PlannedBean) (p : ProductPlan) (k : ℕ) → b.plan ≡ plans.Product p → P (Some b) (Some (bean_with b (product_with (id_of t) p k)))) where
    of_plan : (b : PlannedBean) (plan : Plan) → b.plan ≡ plan → P (Some b) (told b plan)
    of_plan b (plans.Managed p) e = managed_one b p e
    of_plan b (plans.Product p) e = by (managed_bean t.tables.resolver.beans p.declaring)
      where
        by : (o : Option ℕ) → P (Some b) (option_map (bean_with b) (option_map (product_with (id_of t) p) o))
        by None = none (Some b)
        by (Some k) = product_one b p k e

    pub at_index : (n : ℕ) → P (planned_at t n) (bean_at t n)
    at_index n = by (planned_at t n)
      where
        by : (o : Option PlannedBean) → P o (option_and_then (tables.machine_bean (id_of t) t.tables.resolver.beans) o)
        by None = none None
        by (Some b) = of_plan b b.plan refl

-- ---- what resolves has a number

module _ (t : RunTables) (small : is_small t ≡ true) where
  few : length t.beans ≤ 4096
  few =
      let three = and_parts (nat_le (length t.beans) 4096 && list_all has_few_injections t.beans) (list_all has_few_fields t.deployment.interceptors) small in
      leb-true (length t.beans) 4096 (and_parts (nat_le (length t.beans) 4096) (list_all has_few_injections t.beans) three.0).0

  there_at : (n : ℕ) (o : Option PlannedBean) → planned_at t n ≡ o → IsSome (option_and_then (tables.machine_bean (id_of t) t.tables.resolver.beans) o) → IsSome (slice_get t.beans n)
  there_at n None e some = absurd cc
  there_at n (Some b) e some = ap is_some (stands_at t n b e)

  -- the index of a bean is small
  pub small_index : (n : ℕ) → IsSome (bean_at t n) → n < 2 ^ 32
  small_index n some =
      let less = within t.beans n (there_at n (planned_at t n) refl some) in
      omega (arith, less, few)

pub small_resolved : (t : RunTables) → IsServable t → (type : ℕ) (uses : List Use) (b : ℕ) → resolution_of t type uses ≡ resolutions.One b → b < 2 ^ 32
small_resolved t h type uses b e = small_index t h.small b (h.there (record { type = type; qualifiers = uses }) b (ap tables.machine_resolution e))

pub numbered_resolved : (t : RunTables) → IsServable t → (type : ℕ) (uses : List Use) (r : Resolution) → r ≡ resolution_of t type uses → HasNumber r
numbered_resolved t h type uses (resolutions.One b) e = small_resolved t h type uses b (sym e)
numbered_resolved t h type uses resolutions.Nothing e = tt
numbered_resolved t h type uses resolutions.Many e = tt
