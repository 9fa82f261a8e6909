-- What it means that a deployment is numbered, part by part.
use Rattle.std.proofs.Common.{◌≡◌, ◌&&◌, Bool, true}
use Rattle.std.specs.List.{list_all}
use Rattle.std.proofs.lemmas.Bool.{and_from, and_parts}
use Rattle.cdi_numbered_plans.specs.Numbers.{has_numbers}
use Rattle.cdi_run_tables.specs.Numbered.{has_few_beans, is_numbered}
use Rattle.cdi_run_tables.specs.Observers.{group_has_numbers, planned_groups}
use Rattle.cdi_run_tables.specs.Sizes.{has_few_fields}
use Rattle.cdi_run_tables.specs.Parts.{RunParts}
use Rattle.cdi_run_tables.specs.Parts.{PlannedBean}

module _ (t : RunParts) where
  abbrev plans : Bool
  plans = list_all (λ (b : PlannedBean). has_numbers b.plan) t.beans

  abbrev fields : Bool
  fields = list_all has_few_fields t.deployment.interceptors

  abbrev observers : Bool
  observers = list_all group_has_numbers (planned_groups t)

  pub record AreNumbers : Type 0 where
    pub few : has_few_beans t ≡ true
    pub plans : plans ≡ true
    pub fields : fields ≡ true
    pub observers : observers ≡ true

  pub numbers_of : is_numbered t ≡ true → AreNumbers
  numbers_of all =
      let three = and_parts (has_few_beans t && plans && fields) observers all in
      let two = and_parts (has_few_beans t && plans) fields three.0 in
      let one = and_parts (has_few_beans t) plans two.0 in
      record { few = one.0; plans = one.1; fields = two.1; observers = three.1 }

  pub from_numbers : AreNumbers → is_numbered t ≡ true
  from_numbers n =
      and_from (has_few_beans t && plans && fields) observers
      (and_from (has_few_beans t && plans) fields
      (and_from (has_few_beans t) plans n.few n.plans) n.fields)
      n.observers
