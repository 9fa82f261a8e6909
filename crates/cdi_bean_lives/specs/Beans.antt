-- What is kept of the beans of a deployment for the lives of their instances.
use Rattle.std.specs.Prelude.{ℕ, ◌≡◌, ◌^◌, ◌≤◌, Bool, true, List, [], length, Option, Some, None, option_and_then, option_map, slice_get, IsSome}
use Rattle.std.specs.List.{AllZip, list_all}
use Rattle.cdi_bean_lives.specs.Lives.{classes_named}
use Rattle.cdi_bean_lives.specs.Steps.{has_few_steps, kept_steps}
use Rattle.cdi_bean_lives.specs.declared.bean.BeanLife.{BeanLife}
use Rattle.cdi_bean_lives.specs.declared.kept.KeptBean.{KeptBean}
use Rattle.cdi_bean_lives.specs.declared.kept.KeptBean.TheVariants as kept_beans
use Rattle.cdi_bean_lives.specs.declared.kept.KeptBeans.{KeptBeans}
use Rattle.cdi_beans.specs.declared.bean.Bean.{Bean}
use Rattle.cdi_class_lives.specs.ClassLives.{fields_of, life_of, line_in, line_of, method_of}
use Rattle.cdi_class_lives.specs.declared.lives.ClassLives.{ClassLives}
use Rattle.cdi_deployment.specs.declared.deployment.Class.{Class}
use Rattle.cdi_deployment.specs.declared.deployment.Field.{Field}
use Rattle.cdi_machine.specs.declared.member.Method.{Method}
use Rattle.cdi_machine.specs.declared.member.Product.{Product}
use Rattle.cdi_machine.specs.declared.step.Lifecycle.{Lifecycle}
use Rattle.cdi_machine.specs.declared.step.Step.{Step}
use Rattle.cdi_numbered_plans.specs.Life.{NumberedPlan}
use Rattle.cdi_numbered_plans.specs.Methods.{AreMethodsBy}
use Rattle.cdi_numbered_plans.specs.Numbered.{bodies_by, has_few_beans}
use Rattle.cdi_numbered_plans.specs.Numbers.{has_numbers, numbers_product}
use Rattle.cdi_numbered_plans.specs.Plans.{IsNumberedPlan, pre_destroy_in, product_in, steps_in}
use Rattle.cdi_numbered_plans.specs.declared.numbering.Numbering.{Numbering}
use Rattle.cdi_planner.specs.Plans.{IsPlanOf, constructor_of, managed_plan}
use Rattle.cdi_planner.specs.Tables.{PlanTables}
use Rattle.cdi_plans.specs.declared.plan.Plan.{Plan}
use Rattle.cdi_plans.specs.declared.plan.Plan.TheVariants as plans

-- ---- of one bean, by what is kept of classes

-- the classes of its line
abbrev pub kept_line : List Class → ClassLives → BeanLife → List Class
kept_line classes l life = classes_named classes (line_in l (life_of l life.class))

-- its plan
abbrev pub plan_kept : PlanTables → ClassLives → Bean → KeptBean → Plan
plan_kept t l b (kept_beans.Managed life) =
    plans.Managed
    (managed_plan t.chains (constructor_of t.classes b.class) b (kept_line t.classes l life))
plan_kept t l b (kept_beans.Product product) = plans.Product product.plan

-- the same in the words of an instance's life
abbrev pub numbered_kept : ClassLives → KeptBean → Option NumberedPlan
numbered_kept l (kept_beans.Managed life) =
    Some (NumberedPlan.Managed
    (record { steps = kept_steps l life; pre_destroy = life.pre_destroy }))
numbered_kept l (kept_beans.Product product) =
    option_map NumberedPlan.Produced product.numbered

-- its methods by their names; a product has none
abbrev pub method_kept : ClassLives → KeptBean → ℕ → Option Method
method_kept l (kept_beans.Managed life) name = method_of l life.class name
method_kept l (kept_beans.Product product) name = None

-- the fields of a new instance with the values that they begin with; a product has none
abbrev pub fields_kept : ClassLives → KeptBean → List Field
fields_kept l (kept_beans.Managed life) = fields_of l life.class
fields_kept l (kept_beans.Product product) = []

-- whether the places of interceptors in its plan are numbers of 32 bits; those of a managed bean are
abbrev pub numbers_kept : KeptBean → Bool
numbers_kept (kept_beans.Managed life) = true
numbers_kept (kept_beans.Product product) = numbers_product product.plan

-- what is kept of a bean is by its plan
pub record IsKeptBean (t : PlanTables) (n : Numbering) (l : ClassLives) (b : Bean) (kept : KeptBean)
    : Type 0 where
  pub plan : IsPlanOf t b (plan_kept t l b kept)
  pub numbered : IsNumberedPlan n (plan_kept t l b kept) (numbered_kept l kept)
  pub methods : AreMethodsBy (bodies_by n) (plan_kept t l b kept) (method_kept l kept)
  pub numbers : has_numbers (plan_kept t l b kept) ≡ numbers_kept kept
  pub fields :
      (life : BeanLife) → kept ≡ kept_beans.Managed life
      → fields_of l life.class
      ≡ (managed_plan t.chains (constructor_of t.classes b.class) b (kept_line t.classes l life)).fields

-- the line of its class is kept, if it is a managed bean
abbrev pub HasLine : ClassLives → KeptBean → Type 0
HasLine l (kept_beans.Managed life) = IsSome (line_of l life.class)
HasLine l (kept_beans.Product product) = Unit {0}

-- so it stays by its plan while more classes are kept
pub record IsKeptWith (t : PlanTables) (n : Numbering) (l : ClassLives) (b : Bean) (kept : KeptBean)
    : Type 0 where
  pub by_plan : IsKeptBean t n l b kept
  pub has_line : HasLine l kept
  pub few_steps : has_few_steps l kept ≡ true

-- ---- of all beans

abbrev pub AreKeptBeans : PlanTables → Numbering → List Bean → KeptBeans → Type 0
AreKeptBeans t n beans all = AllZip (IsKeptBean t n all.lives) beans all.beans

-- there are few enough to be numbered, and few enabled interceptors
pub record AreFew (t : PlanTables) (n : Numbering) : Type 0 where
  pub beans : has_few_beans n ≡ true
  pub interceptors : length t.chains.interceptors ≤ 2 ^ 32

-- what isn't there has no steps and no fields
abbrev pub steps_if_any : Option NumberedPlan → List Step
steps_if_any None = []
steps_if_any (Some plan) = steps_in plan

abbrev pub fields_if_any : ClassLives → Option KeptBean → List Field
fields_if_any l None = []
fields_if_any l (Some kept) = fields_kept l kept

module _ (all : KeptBeans) where
  -- of the bean with an index, if there is one
  abbrev pub numbered_at : ℕ → Option NumberedPlan
  numbered_at b = option_and_then (numbered_kept all.lives) (slice_get all.beans b)

  abbrev pub steps_at : ℕ → List Step
  steps_at b = steps_if_any (numbered_at b)

  abbrev pub pre_destroy_at : ℕ → Option Lifecycle
  pre_destroy_at b = option_and_then pre_destroy_in (numbered_at b)

  abbrev pub product_at : ℕ → Option Product
  product_at b = option_and_then product_in (numbered_at b)

  abbrev pub method_at : ℕ → ℕ → Option Method
  method_at b name =
      option_and_then (λ (kept : KeptBean). method_kept all.lives kept name) (slice_get all.beans b)

  abbrev pub fields_at : ℕ → List Field
  fields_at b = fields_if_any all.lives (slice_get all.beans b)

  -- the places of interceptors in all plans are numbers of 32 bits
  abbrev pub have_numbers : Bool
  have_numbers = list_all numbers_kept all.beans
