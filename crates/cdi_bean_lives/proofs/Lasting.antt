-- What is kept of a bean stays by its plan while more classes are kept.
use Rattle.std.proofs.Common.{ℕ, ◌≡◌, ◌∙◌, ◌+◌, ◌<◌, ◌≤◌, ◌^◌, ◌⊎◌, inl, inr, true, nat_lt, List, [], ◌∷◌, ◌++◌, length, drop, get_or, Option, Some, None, slice_get, refl, sym, ap, subst, arith}
use Rattle.std.specs.Prelude.{IsSome, fold}
use Rattle.std.specs.List.{AllZip, list_all}
use Rattle.std.specs.Option.{is_some}
use Rattle.std.proofs.lemmas.Bool.{and_from}
use Rattle.std.proofs.lemmas.List.{at_drop_more}
use Rattle.std.proofs.lemmas.List.Elements.{All-contains}
use Rattle.std.proofs.lemmas.List.Sums.{AllPass-from_list_all}
use Rattle.std.proofs.lemmas.Option.{get_or_from_slice_get, slice_get_cases, slice_get_within}
use Rattle.cdi_base.specs.Fields.{put}
use Rattle.cdi_bean_lives.proofs.Creating.{line_so}
use Rattle.cdi_bean_lives.specs.Beans.{IsKeptBean, IsKeptWith, kept_line, method_kept, numbered_kept, plan_kept}
use Rattle.cdi_bean_lives.specs.Lives.{KeepsLives, classes_named}
use Rattle.cdi_bean_lives.specs.Steps.{HaveFewSteps, has_few_steps, kept_steps}
use Rattle.cdi_bean_lives.specs.declared.bean.BeanLife.{BeanLife}
use Rattle.cdi_bean_lives.specs.declared.kept.KeptBean.{KeptBean}
use Rattle.cdi_bean_lives.specs.declared.kept.KeptBean.TheVariants as kept_beans
use Rattle.cdi_beans.specs.declared.bean.Bean.{Bean}
use Rattle.cdi_class_lives.specs.ClassLives.{KeepsLife, fields_of, life_of, line_of}
use Rattle.cdi_class_lives.specs.declared.lives.ClassLives.{ClassLives}
use Rattle.cdi_deployment.specs.declared.deployment.Field.{Field}
use Rattle.cdi_machine.specs.Words.{Fields}
use Rattle.cdi_numbered_plans.specs.Life.{NumberedPlan}
use Rattle.cdi_numbered_plans.specs.Methods.{AreMethodsBy}
use Rattle.cdi_numbered_plans.specs.Numbered.{bodies_by}
use Rattle.cdi_numbered_plans.specs.Numbers.{has_numbers}
use Rattle.cdi_numbered_plans.specs.Plans.{IsNumberedPlan}
use Rattle.cdi_numbered_plans.specs.declared.numbering.Numbering.{Numbering}
use Rattle.cdi_planner.specs.Plans.{IsPlanOf, constructor_of, managed_plan}
use Rattle.cdi_planner.specs.Tables.{PlanTables}
use Rattle.cdi_plans.specs.declared.plan.Plan.TheVariants as plans

same_life : (life other : BeanLife) → kept_beans.Managed life ≡ kept_beans.Managed other → life ≡ other
same_life life other e = cc

module _ (t : PlanTables) (n : Numbering) (old new : ClassLives) (keeps : KeepsLives old new) where
  module _ (b : Bean) (life : BeanLife) (is : IsKeptWith t n old b (kept_beans.Managed life)) where
    lasts_at : (names : List ℕ) → line_of old life.class ≡ Some names → IsKeptWith t n new b (kept_beans.Managed life)
    lasts_at names e =
        let k : KeepsLife old new life.class = keeps life.class names e in
        let line : kept_line t.classes new life ≡ kept_line t.classes old life =
        ap (classes_named t.classes) (line_so new (life_of new life.class) names (k.line ∙ e) ∙ sym (line_so old (life_of old life.class) names e)) in
        let plan : plan_kept t new b (kept_beans.Managed life) ≡ plan_kept t old b (kept_beans.Managed life) =
        ap (λ all. plans.Managed (managed_plan t.chains (constructor_of t.classes b.class) b all)) line in
        let steps : kept_steps new life ≡ kept_steps old life = ap (λ all. life.first ++ all ++ life.last) k.injections in
        let numbered : numbered_kept new (kept_beans.Managed life) ≡ numbered_kept old (kept_beans.Managed life) =
        ap (λ all. Some (NumberedPlan.Managed (record { steps = all; pre_destroy = life.pre_destroy }))) steps in
        let by = is.by_plan in
        record {
          by_plan = record {
            plan = subst (IsPlanOf t b) (sym plan) by.plan;
            numbered =
                subst (λ p. IsNumberedPlan n p (numbered_kept new (kept_beans.Managed life))) (sym plan)
                (subst (IsNumberedPlan n (plan_kept t old b (kept_beans.Managed life))) (sym numbered) by.numbered);
            methods =
                subst (λ p. AreMethodsBy (bodies_by n) p (method_kept new (kept_beans.Managed life))) (sym plan)
                (record { same = λ h name. k.methods name ∙ by.methods.same h name });
            numbers = ap has_numbers plan ∙ by.numbers;
            fields = λ other f.
                subst (λ (x : BeanLife). fields_of new x.class ≡ (managed_plan t.chains (constructor_of t.classes b.class) b (kept_line t.classes new x)).fields) (same_life life other f)
                (k.fields ∙ by.fields life refl ∙ ap (λ all. (managed_plan t.chains (constructor_of t.classes b.class) b all).fields) (sym line));
          };
          has_line = ap is_some (k.line ∙ e);
          few_steps = ap (λ all. nat_lt (length all) (2 ^ 32)) steps ∙ is.few_steps;
        }

    lasts_managed : (o : Option (List ℕ)) → line_of old life.class ≡ o → IsSome o → IsKeptWith t n new b (kept_beans.Managed life)
    lasts_managed None e some = absurd cc
    lasts_managed (Some names) e some = lasts_at names e

  lasts : (b : Bean) (kept : KeptBean) → IsKeptWith t n old b kept → IsKeptWith t n new b kept
  lasts b (kept_beans.Managed life) is = lasts_managed b life is (line_of old life.class) refl is.has_line
  lasts b (kept_beans.Product product) is =
      let by = is.by_plan in
      record {
        by_plan = record {
          plan = by.plan;
          numbered = by.numbered;
          methods = record { same = λ h name. by.methods.same h name };
          numbers = by.numbers;
          fields = λ life e. absurd cc;
        };
        has_line = tt;
        few_steps = refl;
      }

  pub all_last : (bs : List Bean) (ks : List KeptBean) → AllZip (IsKeptWith t n old) bs ks → AllZip (IsKeptWith t n new) bs ks
  all_last [] [] zip = tt
  all_last [] (k ∷ ks) zip = absurd zip
  all_last (b ∷ bs) [] zip = absurd zip
  all_last (b ∷ bs) (k ∷ ks) zip = (lasts b k zip.0, all_last bs ks zip.1)

-- one bean more
pub both_more : {X Y : Type 0} (R : X → Y → Type 0) (xs : List X) (ys : List Y) (x : X) (y : Y) → AllZip R xs ys → R x y → AllZip R (xs ++ x ∷ []) (ys ++ y ∷ [])
both_more R [] [] x y zip is = (is, tt)
both_more R [] (z ∷ ys) x y zip is = absurd zip
both_more R (z ∷ xs) [] x y zip is = absurd zip
both_more R (z ∷ xs) (w ∷ ys) x y zip is = (zip.0, both_more R xs ys x y zip.1 is)

module _ (t : PlanTables) (n : Numbering) (l : ClassLives) where
  pub by_plans : (bs : List Bean) (ks : List KeptBean) → AllZip (IsKeptWith t n l) bs ks → AllZip (IsKeptBean t n l) bs ks
  by_plans [] [] zip = tt
  by_plans [] (k ∷ ks) zip = absurd zip
  by_plans (b ∷ bs) [] zip = absurd zip
  by_plans (b ∷ bs) (k ∷ ks) zip = (zip.0.by_plan, by_plans bs ks zip.1)

  pub have_few : (bs : List Bean) (ks : List KeptBean) → AllZip (IsKeptWith t n l) bs ks → HaveFewSteps l ks
  have_few [] [] zip = refl
  have_few [] (k ∷ ks) zip = absurd zip
  have_few (b ∷ bs) [] zip = absurd zip
  have_few (b ∷ bs) (k ∷ ks) zip = and_from (has_few_steps l k) (list_all (has_few_steps l) ks) zip.0.few_steps (have_few bs ks zip.1)

pub few_at : (l : ClassLives) (ks : List KeptBean) (place : ℕ) (k : KeptBean) → HaveFewSteps l ks → slice_get ks place ≡ Some k → has_few_steps l k ≡ true
few_at l ks place k few e =
    All-contains (λ (x : KeptBean). has_few_steps l x ≡ true) ks k (AllPass-from_list_all (has_few_steps l) ks few)
    (place, slice_get_within ks place k e, get_or_from_slice_get ks place k k e)

-- ---- first values

abbrev pub put_first : Fields → Field → Fields
put_first all f = put all f.name f.value

pub next_value : (fs : List Field) (place : ℕ) (f : Field) (all : Fields) → slice_get fs place ≡ Some f
    → fold put_first all (drop place fs) ≡ fold put_first (put all f.name f.value) (drop (place + 1) fs)
next_value fs place f all e =
    at_drop_more (fold put_first all) fs place f (slice_get_within fs place f e)
    ∙ ap (λ x. fold put_first all (x ∷ drop (place + 1) fs)) (get_or_from_slice_get fs place f f e)

pub is_there : {X : Type 0} (xs : List X) (place : ℕ) → place < length xs → slice_get xs place ≡ None → ⊥
is_there {X} xs place within none = by (slice_get_cases xs place).1
  where
    by : ((x : X) × (place < length xs) × (slice_get xs place ≡ Some x) × (get_or xs place x ≡ x)) ⊎ ((length xs ≤ place) × (slice_get xs place ≡ None)) → ⊥
    by (inl (x, lt, e, same)) = absurd cc
    by (inr past) = absurd (omega (arith, within, past.0))
