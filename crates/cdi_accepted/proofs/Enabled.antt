-- An enabled bean by its index, with its plan.
use Rattle.std.proofs.Common.{ℕ, ◌≡◌, ◌∙◌, ◌+◌, ◌&&◌, Bool, true, false, nat_eq, Option, Some, None, refl, ap, subst, arith}
use Rattle.std.specs.Prelude.{option_and_then, option_map, slice_get, if◌then◌else◌}
use Rattle.std.proofs.lemmas.Bool.{and_parts, eqb-true}
use Rattle.std.proofs.lemmas.Option.{same_Some}
use Rattle.std.specs.List.{enumerate_from}
use Rattle.cdi_beans.specs.Kinds.{is_managed}
use Rattle.cdi_beans.specs.declared.bean.Bean.{Bean}
use Rattle.cdi_event_tables.specs.Observers.{managed_bean}
use Rattle.cdi_resolve.specs.Filters.{enabled_of, is_enabled}
use Rattle.cdi_run_tables.specs.Machine.{bean_at, bean_with, id_of, machine_bean, machine_kind, planned_at}
use Rattle.cdi_run_tables.specs.Planned.{IsTabled}
use Rattle.cdi_run_tables.specs.Parts.{PlannedBean}
use Rattle.cdi_run_tables.specs.declared.tables.RunTables.{RunTables}
use Rattle.cdi_accepted.proofs.Lists.{Among, among_filter, of_filter}
use Rattle.cdi_accepted.proofs.Positions.{found_at, numbered_at}
use Rattle.cdi_accepted.proofs.FitPlans.{HasPlan, has_plan, kind_of}

module _ (t : RunTables) (b : ℕ) where
  -- an enabled bean has its flag
  pub has_flag : (listed : Bean) → Among (b, listed) (enabled_of t.tables.resolver) → is_enabled t.tables.resolver.flags b ≡ true
  has_flag listed enabled = (of_filter (λ k. is_enabled t.tables.resolver.flags k.0) (enumerate_from 0 t.tables.resolver.beans) (b, listed) enabled).1

  -- a bean with its flag is enabled
  pub by_flag : (listed : Bean) → slice_get t.tables.resolver.beans b ≡ Some listed → is_enabled t.tables.resolver.flags b ≡ true → Among (b, listed) (enabled_of t.tables.resolver)
  by_flag listed has on =
      let beans = t.tables.resolver.beans in
      let place : 0 + b ≡ b = omega arith in
      let placed : Among (b, listed) (enumerate_from 0 beans) = subst (λ (k : ℕ). Among (k, listed) (enumerate_from 0 beans)) place (numbered_at 0 beans b listed has) in
      among_filter (λ p. is_enabled t.tables.resolver.flags p.0) (enumerate_from 0 beans) (b, listed) placed on

  module _ (planned : PlannedBean) where
    -- the plan of an enabled bean is the one at its index
    pub with_plan : is_enabled t.tables.resolver.flags b ≡ true → slice_get t.beans b ≡ Some planned → planned_at t b ≡ Some planned
    with_plan on has = ap (λ (k : Bool). if k then slice_get t.beans b else None) on ∙ has

    -- a bean that has a plan is enabled, and the plan stands at its index
    pub of_planned : planned_at t b ≡ Some planned → (is_enabled t.tables.resolver.flags b ≡ true) × (slice_get t.beans b ≡ Some planned)
    of_planned e = by (is_enabled t.tables.resolver.flags b) refl e
      where
        by : (k : Bool) → is_enabled t.tables.resolver.flags b ≡ k → (if k then slice_get t.beans b else None) ≡ Some planned → (is_enabled t.tables.resolver.flags b ≡ true) × (slice_get t.beans b ≡ Some planned)
        by true on h = (on, h)
        by false on h = absurd cc

    -- a bean with a plan, as the machine has it
    pub known_by : planned_at t b ≡ Some planned → bean_at t b ≡ option_map (bean_with planned) (machine_kind (id_of t) t.tables.resolver.beans planned.plan)
    known_by has = ap (option_and_then (machine_bean (id_of t) t.tables.resolver.beans)) has

-- an enabled managed bean by its place
pub record IsManagedAt (t : RunTables) (n : ℕ) (class : ℕ) : Type 0 where
  pub listed : Bean
  pub enabled : Among (n, listed) (enabled_of t.tables.resolver)
  pub kind : is_managed listed.kind ≡ true
  pub of_class : listed.class ≡ class
  pub plan : HasPlan t n listed

-- where the managed bean of a class is enabled, it is one
pub managed_at : (t : RunTables) → IsTabled t → (n class : ℕ) → managed_bean t.tables.resolver.beans class ≡ Some n → is_enabled t.tables.resolver.flags n ≡ true → IsManagedAt t n class
managed_at t tabled n class e on =
    let found = found_at (λ (b : Bean). is_managed b.kind && nat_eq b.class class) t.tables.resolver.beans n e in
    let both = and_parts (is_managed found.item.kind) (nat_eq found.item.class class) found.passes in
    record {
      listed = found.item;
      enabled = by_flag t n found.item found.has on;
      kind = both.0;
      of_class = eqb-true found.item.class class both.1;
      plan = has_plan t tabled n found.item found.has (kind_of found.item.kind both.0);
    }

-- what the managed bean of a class tells, if it is enabled
pub record IsTold {A : Type 0} (t : RunTables) (class : ℕ) (told : ℕ → Option A) (x : A) : Type 0 where
  pub bean : ℕ
  pub found : managed_bean t.tables.resolver.beans class ≡ Some bean
  pub on : is_enabled t.tables.resolver.flags bean ≡ true
  pub is : told bean ≡ Some x

-- an answer by way of the managed bean of a class is what that tells
pub is_told : {A : Type 0} (t : RunTables) (class : ℕ) (told : ℕ → Option A) (x : A)
    → option_and_then (λ n. if is_enabled t.tables.resolver.flags n then told n else None) (managed_bean t.tables.resolver.beans class) ≡ Some x → IsTold t class told x
is_told {A} t class told x e = by (managed_bean t.tables.resolver.beans class) refl e
  where
    enabled : (n : ℕ) → managed_bean t.tables.resolver.beans class ≡ Some n → (b : Bool) → is_enabled t.tables.resolver.flags n ≡ b → (if b then told n else None) ≡ Some x → IsTold t class told x
    enabled n found false on h = absurd cc
    enabled n found true on h = record { bean = n; found = found; on = on; is = h }

    by : (o : Option ℕ) → managed_bean t.tables.resolver.beans class ≡ o → option_and_then (λ n. if is_enabled t.tables.resolver.flags n then told n else None) o ≡ Some x → IsTold t class told x
    by None found h = absurd cc
    by (Some n) found h = enabled n found (is_enabled t.tables.resolver.flags n) refl h

-- what an answer was made from
pub made_from : {A B : Type 0} (f : A → B) (o : Option A) (y : B) → option_map f o ≡ Some y → (x : A) × (o ≡ Some x) × (f x ≡ y)
made_from f None y e = absurd cc
made_from f (Some x) y e = (x, refl, same_Some (f x) y e)
