-- Plans in the words of an instance's life tell what the machine is told.
use Rattle.std.proofs.Common.{ℕ, ◌≡◌, ◌∙◌, ◌^◌, ◌<◌, ◌≤◌, Bor, Bool, true, false, cond, filter, nat_le, nat_lt, List, [], ◌∷◌, Option, Some, None, length, map, refl, sym, ap, arith, subst, zero, suc}
use Rattle.std.specs.Prelude.{slice_get, option_map, option_and_then, IfSome}
use Rattle.std.specs.List.{All, list_all}
use Rattle.std.specs.Option.{is_some, option_copied}
use Rattle.std.proofs.lemmas.Bool.{and_from, and_parts, ltb-true}
use Rattle.std.proofs.lemmas.List.{length-map}
use Rattle.std.proofs.lemmas.List.Elements.{All-nil}
use Rattle.cdi_bean_check.specs.Qualifiers.{full_uses}
use Rattle.cdi_bean_lives.specs.Beans.{fields_at, fields_if_any, method_at, method_kept, numbered_at, numbered_kept, steps_if_any}
use Rattle.cdi_bean_lives.specs.declared.kept.KeptBean.{KeptBean}
use Rattle.cdi_class_lives.specs.declared.lives.ClassLives.{ClassLives}
use Rattle.cdi_event_tables.specs.Ids.{id_in}
use Rattle.cdi_event_tables.specs.Observers.{managed_bean}
use Rattle.cdi_event_tables.specs.declared.ids.BodyIds.{BodyIds}
use Rattle.cdi_machine.specs.Told.{lifecycle_told, method_told, product_told, step_told}
use Rattle.cdi_machine.specs.Resolved.{IsResolvedProduct, IsResolvedStep}
use Rattle.cdi_machine.specs.Tables as machine
use Rattle.cdi_machine.specs.Words.{Asked}
use Rattle.cdi_numbered_plans.specs.Life.{NumberedPlan}
use Rattle.cdi_numbered_plans.specs.Machine.{first_values}
use Rattle.cdi_numbered_plans.specs.Methods.{method_by}
use Rattle.cdi_numbered_plans.specs.Numbers.{has_numbers}
use Rattle.cdi_numbered_plans.specs.Plans.{IsNumberedPlan, IsResolvedIfAny, TellsOf, pre_destroy_in, product_in}
use Rattle.cdi_numbered_plans.specs.declared.numbering.Numbering.{Numbering}
use Rattle.cdi_plans.specs.declared.plan.Plan.{Plan}
use Rattle.cdi_plans.specs.declared.plan.Plan.TheVariants as plan_kinds
use Rattle.cdi_quals.specs.declared.types.QualifierType.{QualifierType}
use Rattle.cdi_resolve.specs.Filters.{Candidates, enabled_of, is_enabled}
use Rattle.cdi_resolve.specs.Resolution.{resolution}
use Rattle.cdi_run_tables.proofs.Enabled.{enabled_at, if_enabled, none_at}
use Rattle.cdi_run_tables.proofs.NumberedParts.{numbers_of}
use Rattle.cdi_run_tables.proofs.KeptAt.{kept_at}
use Rattle.cdi_run_tables.specs.Index.{IsNumberedOf, IsNumberingOf}
use Rattle.cdi_run_tables.specs.Kept.{AreKept, IsKeptAt}
use Rattle.cdi_run_tables.specs.Machine.{bean_at, bean_with, does_something, machine_bean, machine_kind, machine_resolution, machine_step, method_in, method_of, planned_at, product_with}
use Rattle.cdi_run_tables.specs.Managed.{fields_of, managed_plan}
use Rattle.cdi_run_tables.specs.Numbered as spec
use Rattle.cdi_run_tables.specs.Parts.{PlannedBean, RunParts}
use Rattle.cdi_run_tables.specs.Seen.{parts_seen}
use Rattle.cdi_run_tables.specs.declared.parts.KeptParts.{KeptParts}

-- what was numbered by what the deployment has
module _ (t : RunParts) (n : Numbering) (of : IsNumberingOf t n) (plan : Plan) (made : Option NumberedPlan) (is : IsNumberedPlan n plan made) where
  abbrev few : Candidates → Type 0
  few c = nat_le (length c.beans) (2 ^ 32) ≡ true

  abbrev Told : BodyIds → Candidates → Type 0
  Told ids c = TellsOf (machine_kind (id_in ids) c.beans plan) made

  abbrev Resolved : List QualifierType → Candidates → Type 0
  Resolved types c = IsResolvedIfAny (λ asked. machine_resolution (resolution asked.type (full_uses types asked.qualifiers) (enabled_of c))) made

  pub numbered_of : IsNumberedOf t plan made
  numbered_of =
      record {
        tells = λ h can.
            let here : few n.resolver.now = subst few (sym of.resolver) h in
            let told : Told n.ids.now n.resolver.now = is.tells (and_from (nat_le (length n.resolver.now.beans) (2 ^ 32)) (has_numbers plan) here can) in
            subst (λ ids. Told ids t.tables.resolver) of.ids (subst (Told n.ids.now) of.resolver told);
        resolved =
            subst (λ types. Resolved types t.tables.resolver) of.qualifiers (subst (Resolved n.qualifiers.now) of.resolver is.resolved);
      }

-- the kind of a bean is that of its plan
kind_is : (b : PlannedBean) (k : Option machine.Kind) → k ≡ option_map (λ (bean : machine.Bean). bean.kind) (option_map (bean_with b) k)
kind_is b None = refl
kind_is b (Some k) = refl

has_numbers_at : (beans : List PlannedBean) → list_all (λ (b : PlannedBean). has_numbers b.plan) beans ≡ true → (n : ℕ) → IfSome (slice_get beans n) (λ b. has_numbers b.plan ≡ true)
has_numbers_at [] all n = tt
has_numbers_at (b ∷ bs) all zero = (and_parts (has_numbers b.plan) (list_all (λ (x : PlannedBean). has_numbers x.plan) bs) all).0
has_numbers_at (b ∷ bs) all (suc n) = has_numbers_at bs (and_parts (has_numbers b.plan) (list_all (λ (x : PlannedBean). has_numbers x.plan) bs) all).1 n

abbrev pub kind_in : RunParts → Option PlannedBean → Option machine.Kind
kind_in t b = option_map (λ (bean : machine.Bean). bean.kind) (option_and_then (machine_bean (id_in t.ids) t.tables.resolver.beans) b)

module _ (t : RunParts) (l : ClassLives) where
  abbrev numbered_in : Option KeptBean → Option NumberedPlan
  numbered_in kept = option_and_then (numbered_kept l) kept

  told_in : (b : Option PlannedBean) (kept : Option KeptBean) → IsKeptAt t l b kept → spec.has_few_beans t ≡ true → IfSome b (λ x. has_numbers x.plan ≡ true) → TellsOf (kind_in t b) (numbered_in kept)
  told_in None None h few can = tt
  told_in None (Some k) h few can = absurd h
  told_in (Some b) None h few can = absurd h
  told_in (Some b) (Some k) h few can =
      subst (λ kind. TellsOf kind (numbered_kept l k)) (kind_is b (machine_kind (id_in t.ids) t.tables.resolver.beans b.plan)) (h.numbered.tells few can)

  resolved_in : (b : Option PlannedBean) (kept : Option KeptBean) → IsKeptAt t l b kept → IsResolvedIfAny (spec.machine_resolve t) (numbered_in kept)
  resolved_in None None h = tt
  resolved_in None (Some k) h = absurd h
  resolved_in (Some b) None h = absurd h
  resolved_in (Some b) (Some k) h = h.numbered.resolved

  method_in_both : (name : ℕ) (b : Option PlannedBean) (kept : Option KeptBean) → IsKeptAt t l b kept → IfSome b (λ x. has_numbers x.plan ≡ true)
      → option_map method_told (option_and_then (λ (k : KeptBean). method_kept l k name) kept) ≡ option_and_then (λ (x : PlannedBean). method_in (id_in t.ids) x.plan name) b
  method_in_both name None None h can = refl
  method_in_both name None (Some k) h can = absurd h
  method_in_both name (Some b) None h can = absurd h
  method_in_both name (Some b) (Some k) h can = ap (option_map method_told) (h.methods.same can name) ∙ back (method_in (id_in t.ids) b.plan name)
    where
      back : (o : Option machine.Method) → option_map method_told (option_map method_by o) ≡ o
      back None = refl
      back (Some m) = refl

module _ (t : RunParts) (all : spec.is_numbered t ≡ true) (n : ℕ) where
  parts : (spec.has_few_beans t ≡ true) × (list_all (λ (b : PlannedBean). has_numbers b.plan) t.beans ≡ true)
  parts = let numbers = numbers_of t all in (numbers.few, numbers.plans)

  pub have_numbers : IfSome (planned_at t n) (λ b. has_numbers b.plan ≡ true)
  have_numbers = if_enabled t (λ o. IfSome o (λ b. has_numbers b.plan ≡ true)) n tt (has_numbers_at t.beans parts.1 n)

-- what is kept of a bean, if it is enabled
module _ (p : KeptParts) (kept : AreKept p) (n : ℕ) where
  abbrev seen : RunParts
  seen = parts_seen p

  there : IsKeptAt seen p.beans.lives (slice_get seen.beans n) (slice_get p.beans.beans n)
  there = kept_at seen p.beans.lives seen.beans p.beans.beans kept.beans n

  abbrev IsOn : RunParts → Type 0
  IsOn t = is_enabled t.tables.resolver.flags n ≡ true

  here : IsOn seen → IsKeptAt seen p.beans.lives (planned_at seen n) (slice_get p.beans.beans n)
  here on = subst (λ o. IsKeptAt seen p.beans.lives o (slice_get p.beans.beans n)) (enabled_at seen n on) there

  -- by what contracts see
  module _ (t : RunParts) (is : seen ≡ t) (on : IsOn t) where
    on_seen : IsOn seen
    on_seen = subst IsOn (sym is) on

    pub tells_at : spec.is_numbered t ≡ true → TellsOf (spec.kind_at t n) (numbered_at p.beans n)
    tells_at all =
        subst (λ (x : RunParts). spec.is_numbered x ≡ true → TellsOf (spec.kind_at x n) (numbered_at p.beans n)) is
        (λ all. told_in seen p.beans.lives (planned_at seen n) (slice_get p.beans.beans n) (here on_seen) (parts seen all n).0 (have_numbers seen all n))
        all

    pub resolved_at : IsResolvedIfAny (spec.machine_resolve t) (numbered_at p.beans n)
    resolved_at =
        subst (λ (x : RunParts). IsResolvedIfAny (spec.machine_resolve x) (numbered_at p.beans n)) is
        (resolved_in seen p.beans.lives (planned_at seen n) (slice_get p.beans.beans n) (here on_seen))

    pub method_is_told : spec.is_numbered t ≡ true → (name : ℕ) → option_map method_told (method_at p.beans n name) ≡ method_of t n name
    method_is_told all name =
        subst (λ (x : RunParts). spec.is_numbered x ≡ true → option_map method_told (method_at p.beans n name) ≡ method_of x n name) is
        (λ all. method_in_both seen p.beans.lives name (planned_at seen n) (slice_get p.beans.beans n) (here on_seen) (have_numbers seen all n))
        all

    pub fields_are_told : first_values (fields_at p.beans n) ≡ fields_of (option_and_then managed_plan (planned_at t n))
    fields_are_told =
        subst (λ (x : RunParts). first_values (fields_at p.beans n) ≡ fields_of (option_and_then managed_plan (planned_at x n))) is
        (by (planned_at seen n) (slice_get p.beans.beans n) (here on_seen))
      where
        by : (b : Option PlannedBean) (k : Option KeptBean) → IsKeptAt seen p.beans.lives b k → first_values (fields_if_any p.beans.lives k) ≡ fields_of (option_and_then managed_plan b)
        by None None h = refl
        by None (Some k) h = absurd h
        by (Some b) None h = absurd h
        by (Some b) (Some k) h = h.fields

-- of a bean that isn't enabled there is nothing
module _ (t : RunParts) (n : ℕ) (off : is_enabled t.tables.resolver.flags n ≡ false) where
  pub no_kind : None ≡ spec.kind_at t n
  no_kind = ap (kind_in t) (none_at t n off)

  pub no_method : (name : ℕ) → None ≡ method_of t n name
  no_method name = ap (option_and_then (λ (x : PlannedBean). method_in (id_in t.ids) x.plan name)) (none_at t n off)

  pub no_fields : [] ≡ fields_of (option_and_then managed_plan (planned_at t n))
  no_fields = ap (λ o. fields_of (option_and_then managed_plan o)) (none_at t n off)

  pub no_bean : None ≡ bean_at t n
  no_bean = ap (option_and_then (machine_bean (id_in t.ids) t.tables.resolver.beans)) (none_at t n off)

-- ---- parts of what is told

pub steps_told : (k : Option machine.Kind) (p : Option NumberedPlan) → TellsOf k p → map step_told (steps_if_any p) ≡ spec.plan_in k
steps_told None None h = refl
steps_told None (Some p) h = absurd h
steps_told (Some k) None h = absurd h
steps_told (Some (machine.Kind.Class c)) (Some (NumberedPlan.Managed life)) h = h.plan
steps_told (Some (machine.Kind.Class c)) (Some (NumberedPlan.Produced product)) h = absurd h
steps_told (Some (machine.Kind.Producer x)) (Some (NumberedPlan.Managed life)) h = absurd h
steps_told (Some (machine.Kind.Producer x)) (Some (NumberedPlan.Produced product)) h = refl

pub pre_destroy_told : (k : Option machine.Kind) (p : Option NumberedPlan) → TellsOf k p → option_map lifecycle_told (option_and_then pre_destroy_in p) ≡ spec.pre_destroy_in k
pre_destroy_told None None h = refl
pre_destroy_told None (Some p) h = absurd h
pre_destroy_told (Some k) None h = absurd h
pre_destroy_told (Some (machine.Kind.Class c)) (Some (NumberedPlan.Managed life)) h = ap Some h.pre_destroy
pre_destroy_told (Some (machine.Kind.Class c)) (Some (NumberedPlan.Produced product)) h = absurd h
pre_destroy_told (Some (machine.Kind.Producer x)) (Some (NumberedPlan.Managed life)) h = absurd h
pre_destroy_told (Some (machine.Kind.Producer x)) (Some (NumberedPlan.Produced product)) h = refl

pub product_is_told : (k : Option machine.Kind) (p : Option NumberedPlan) → TellsOf k p → option_map product_told (option_and_then product_in p) ≡ spec.product_in k
product_is_told None None h = refl
product_is_told None (Some p) h = absurd h
product_is_told (Some k) None h = absurd h
product_is_told (Some (machine.Kind.Class c)) (Some (NumberedPlan.Managed life)) h = refl
product_is_told (Some (machine.Kind.Class c)) (Some (NumberedPlan.Produced product)) h = absurd h
product_is_told (Some (machine.Kind.Producer x)) (Some (NumberedPlan.Managed life)) h = absurd h
product_is_told (Some (machine.Kind.Producer x)) (Some (NumberedPlan.Produced product)) h = ap Some h

-- the steps and the product of a plan are resolved if it is
pub steps_resolved : (resolve : Asked → machine.Resolution) (p : Option NumberedPlan) → IsResolvedIfAny resolve p → All (IsResolvedStep resolve) (steps_if_any p)
steps_resolved resolve None h = All-nil (IsResolvedStep resolve)
steps_resolved resolve (Some (NumberedPlan.Managed life)) h = h
steps_resolved resolve (Some (NumberedPlan.Produced product)) h = All-nil (IsResolvedStep resolve)

pub product_resolved : (resolve : Asked → machine.Resolution) (p : Option NumberedPlan) → IsResolvedIfAny resolve p → IfSome (option_and_then product_in p) (IsResolvedProduct resolve)
product_resolved resolve None h = tt
product_resolved resolve (Some (NumberedPlan.Managed life)) h = tt
product_resolved resolve (Some (NumberedPlan.Produced product)) h = h

-- there is a plan where there is a kind
pub both_or_none : (k : Option machine.Kind) (p : Option NumberedPlan) → TellsOf k p → is_some p ≡ is_some k
both_or_none None None h = refl
both_or_none None (Some p) h = absurd h
both_or_none (Some k) None h = absurd h
both_or_none (Some k) (Some p) h = refl

-- ---- what is lent

pub all_at : {X : Type 0} (P : X → Type 0) (xs : List X) → All P xs → (n : ℕ) → IfSome (slice_get xs n) P
all_at P [] a n = tt
all_at P (x ∷ xs) a zero = a zero x (omega arith)
all_at P (x ∷ xs) a (suc n) = all_at P xs (λ k d lt. a (suc k) d (omega (arith, lt))) n

module _ {X Y : Type 0} (f : X → Y) where
  pub lent : (r : Option (Bor X)) → option_map (λ x. f x.now) r ≡ option_map f (option_copied r)
  lent None = refl
  lent (Some x) = refl

pub lent_so : {X : Type 0} (P : X → Type 0) (r : Option (Bor X)) (o : Option X) → option_copied r ≡ o → IfSome o P → IfSome r (λ x. P x.now)
lent_so {X} P r o e h = by r (subst (λ x. IfSome x P) (sym e) h)
  where
    by : (r : Option (Bor X)) → IfSome (option_copied r) P → IfSome r (λ x. P x.now)
    by None h = tt
    by (Some x) h = h

-- ---- how many steps

few_kept : {X : Type 0} (test : X → Bool) (xs : List X) → length (filter test xs) ≤ length xs
few_kept test [] = omega arith
few_kept test (x ∷ xs) = by (test x) (few_kept test xs)
  where
    by : (b : Bool) → length (filter test xs) ≤ length xs → length (cond b (x ∷ filter test xs) (filter test xs)) ≤ length (x ∷ xs)
    by true h = omega (arith, h)
    by false h = omega (arith, h)

module _ (t : RunParts) where
  few_in : (plan : Plan) → has_numbers plan ≡ true → length (spec.plan_in (machine_kind (id_in t.ids) t.tables.resolver.beans plan)) < 2 ^ 32
  few_in (plan_kinds.Managed p) can =
      let long : nat_lt (length p.steps) (2 ^ 32) ≡ true = (and_parts _ _ (and_parts _ _ (and_parts _ _ can).0).0).0 in
      let few : length p.steps < 2 ^ 32 = ltb-true (length p.steps) (2 ^ 32) long in
      let kept = few_kept does_something p.steps in
      let same = length-map (filter does_something p.steps) (machine_step (id_in t.ids)) in
      omega (arith, few, kept, same)
  few_in (plan_kinds.Product p) can = by (managed_bean t.tables.resolver.beans p.declaring)
    where
      by : (b : Option ℕ) → length (spec.plan_in (option_map (product_with (id_in t.ids) p) b)) < 2 ^ 32
      by None = omega arith
      by (Some b) = omega arith

  pub few_steps : spec.is_numbered t ≡ true → (n : ℕ) → length (spec.plan_in (spec.kind_at t n)) < 2 ^ 32
  few_steps all n = by (planned_at t n) (have_numbers t all n)
    where
      by : (b : Option PlannedBean) → IfSome b (λ x. has_numbers x.plan ≡ true) → length (spec.plan_in (kind_in t b)) < 2 ^ 32
      by None h = omega arith
      by (Some b) h = let kind = machine_kind (id_in t.ids) t.tables.resolver.beans b.plan in subst (λ k. length (spec.plan_in k) < 2 ^ 32) (kind_is b kind) (few_in b.plan h)
