-- What is kept of the beans of a deployment is by their plans.
use Rattle.std.proofs.Common.{suc, ◌≡◌, ◌^◌, ◌≤◌, true, nat_le, nat_lt, List, [], ◌∷◌, Option, Some, None, Result, Ok, Err, length, refl, ap, subst, arith}
use Rattle.std.specs.Prelude.{IfOk}
use Rattle.std.specs.List.{AllZip, cons_option, filter_map}
use Rattle.std.specs.declared.alloc.AllocError.{AllocError}
use Rattle.std.proofs.lemmas.Bool.{and_parts, lt-ltb, ltb-true}
use Rattle.cdi_bean_lives.specs.Beans.{AreFew, AreKeptBeans, IsKeptBean, fields_kept, method_kept, numbered_kept, plan_kept}
use Rattle.cdi_bean_lives.specs.declared.kept.KeptBean.{KeptBean}
use Rattle.cdi_bean_lives.specs.declared.kept.KeptBean.TheVariants as kept_beans
use Rattle.cdi_bean_lives.specs.declared.kept.KeptBeans.{KeptBeans}
use Rattle.cdi_beans.specs.declared.bean.Bean.{Bean}
use Rattle.cdi_class_lives.specs.declared.lives.ClassLives.{ClassLives}
use Rattle.cdi_deployment.specs.declared.deployment.Deployment.{Deployment}
use Rattle.cdi_event_tables.specs.Ids.{id_in}
use Rattle.cdi_event_tables.specs.declared.ids.BodyIds.{BodyIds}
use Rattle.cdi_numbered_plans.specs.Machine.{first_values}
use Rattle.cdi_numbered_plans.specs.Methods.{AreMethodsBy}
use Rattle.cdi_numbered_plans.specs.Numbers.{has_numbers}
use Rattle.cdi_numbered_plans.specs.declared.numbering.Numbering.{Numbering}
use Rattle.cdi_plans.specs.declared.plan.Plan.{Plan}
use Rattle.cdi_plans.specs.declared.plan.Plan.TheVariants as plans
use Rattle.cdi_planner.specs.Tables.{PlanTables}
use Rattle.cdi_resolve.specs.BeanTables.{AreTablesOf}
use Rattle.cdi_resolve.specs.Filters.{Candidates}
use Rattle.cdi_resolve.specs.declared.bean_tables.BeanTables.{BeanTables}
use Rattle.cdi_run_tables.proofs.Telling.{numbered_of}
use Rattle.cdi_run_tables.specs.Index.{IsNumberingOf}
use Rattle.cdi_run_tables.specs.Kept.{AreBeansOf, AreKept, IsKeptOf}
use Rattle.cdi_run_tables.specs.Managed.{fields_of, injected, injections_of, managed_of, managed_plan}
use Rattle.cdi_run_tables.specs.Parts.{RunParts}
use Rattle.cdi_run_tables.specs.Planned.{IsPlanned, IsTabled}
use Rattle.cdi_run_tables.specs.Places.{plan_tables}
use Rattle.cdi_run_tables.specs.Seen.{parts_seen, planned_bean, planned_beans}
use Rattle.cdi_run_tables.specs.Sizes.{has_few_injections}
use Rattle.cdi_run_tables.specs.declared.parts.KeptParts.{KeptParts}

-- some of the items of a list are no more than all
no_longer : {X Y : Type 0} (f : X → Option Y) (xs : List X) → length (filter_map f xs) ≤ length xs
no_longer f [] = omega arith
no_longer {X} {Y} f (x ∷ xs) = by (f x) (no_longer f xs)
  where
    by : (o : Option Y) → length (filter_map f xs) ≤ length xs → length (cons_option o (filter_map f xs)) ≤ length (x ∷ xs)
    by None h = omega (arith, h)
    by (Some y) h = omega (arith, h)

-- a plan that has numbers has few injected fields
few_injected : (plan : Plan) → has_numbers plan ≡ true → nat_lt (length (injections_of (managed_of plan))) (2 ^ 32) ≡ true
few_injected (plans.Managed p) can =
    let long : nat_lt (length p.steps) (2 ^ 32) ≡ true = (and_parts _ _ (and_parts _ _ (and_parts _ _ can).0).0).0 in
    lt-ltb (length (filter_map injected p.steps)) (2 ^ 32) (omega (arith, ltb-true (length p.steps) (2 ^ 32) long, no_longer injected p.steps))
few_injected (plans.Product p) can = refl

module _ (t : PlanTables) (l : ClassLives) where
  -- side by side
  as_many : (n : Numbering) (beans : List Bean) (kept : List KeptBean) → AllZip (IsKeptBean t n l) beans kept → length (planned_beans t l beans kept) ≡ length beans
  as_many n [] [] a = refl
  as_many n [] (k ∷ ks) a = absurd a
  as_many n (b ∷ bs) [] a = absurd a
  as_many n (b ∷ bs) (k ∷ ks) a = ap suc (as_many n bs ks a.1)

  all_planned : (n : Numbering) (beans : List Bean) (kept : List KeptBean) → AllZip (IsKeptBean t n l) beans kept → AllZip (IsPlanned t) beans (planned_beans t l beans kept)
  all_planned n [] [] a = tt
  all_planned n [] (k ∷ ks) a = absurd a
  all_planned n (b ∷ bs) [] a = absurd a
  all_planned n (b ∷ bs) (k ∷ ks) a = (record { place = refl; scope = refl; plan = a.0.plan }, all_planned n bs ks a.1)

  fields_are : (n : Numbering) (b : Bean) (kept : KeptBean) → IsKeptBean t n l b kept → first_values (fields_kept l kept) ≡ fields_of (managed_plan (planned_bean t l b kept))
  fields_are n b (kept_beans.Managed life) is = ap first_values (is.fields life refl)
  fields_are n b (kept_beans.Product product) is = refl

  few_of : (n : Numbering) (b : Bean) (kept : KeptBean) → IsKeptBean t n l b kept → has_few_injections (planned_bean t l b kept) ≡ true
  few_of n b (kept_beans.Managed life) is = few_injected (plan_kept t l b (kept_beans.Managed life)) is.numbers
  few_of n b (kept_beans.Product product) is = refl

module _ (p : KeptParts) (is : AreBeansOf p.deployment p.tables p.ids p.beans) where
  abbrev t : RunParts
  t = parts_seen p

  abbrev tables : PlanTables
  tables = plan_tables p.deployment p.tables

  abbrev l : ClassLives
  l = p.beans.lives

  of : IsNumberingOf t is.n
  of = record { ids = is.ids_are; names = is.names; qualifiers = is.qualifiers; resolver = is.resolver }

  one : (b : Bean) (kept : KeptBean) → IsKeptBean tables is.n l b kept → IsKeptOf t l (planned_bean tables l b kept) kept
  one b kept k = record {
    numbered = numbered_of t is.n of (plan_kept tables l b kept) (numbered_kept l kept) k.numbered;
    methods = subst (λ ids. AreMethodsBy (id_in ids) (plan_kept tables l b kept) (method_kept l kept)) is.ids_are k.methods;
    numbers = k.numbers;
    fields = fields_are tables l is.n b kept k;
    few = few_of tables l is.n b kept k;
  }

  each : (beans : List Bean) (kept : List KeptBean) → AllZip (IsKeptBean tables is.n l) beans kept → AllZip (IsKeptOf t l) (planned_beans tables l beans kept) kept
  each [] [] a = tt
  each [] (k ∷ ks) a = absurd a
  each (b ∷ bs) [] a = absurd a
  each (b ∷ bs) (k ∷ ks) a = (one b k a.0, each bs ks a.1)

  pub are_kept : AreKept p
  are_kept =
      let Few : Candidates → Type 0 = λ c. nat_le (length c.beans) (2 ^ 32) ≡ true in
      record {
        few = subst Few is.resolver is.few.beans;
        count = as_many tables l is.n p.tables.resolver.beans p.beans.beans is.are;
        beans = each p.tables.resolver.beans p.beans.beans is.are;
      }

  pub is_tabled : AreTablesOf p.deployment p.tables → IsTabled t
  is_tabled made = record { tables = made; planned = all_planned tables l is.n p.tables.resolver.beans p.beans.beans is.are }

-- what was made of the beans, if there was memory
pub beans_made : (d : Deployment) (t : BeanTables) (ids : BodyIds) (planner : PlanTables) (n : Numbering) (beans : List Bean)
    → planner ≡ plan_tables d t → n.ids.now ≡ ids → n.names.now ≡ d.names → n.qualifiers.now ≡ t.declared.qualifiers → n.resolver.now ≡ t.resolver
    → beans ≡ t.resolver.beans → (r : Result KeptBeans AllocError) → IfOk r (AreKeptBeans planner n beans) → IfOk r (λ kept. AreFew planner n)
    → IfOk r (AreBeansOf d t ids)
beans_made d t ids planner n beans same ids_are names qualifiers resolver all (Ok kept) are few =
    record {
      n = n;
      ids_are = ids_are;
      names = names;
      qualifiers = qualifiers;
      resolver = resolver;
      few = subst (λ (p : PlanTables). AreFew p n) same few;
      are = subst (λ (p : PlanTables). AreKeptBeans p n t.resolver.beans kept) same (subst (λ bs. AreKeptBeans planner n bs kept) all are);
    }
beans_made d t ids planner n beans same ids_are names qualifiers resolver all (Err x) are few = tt
