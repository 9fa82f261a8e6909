-- Beans with their plans, by what is kept of them.
use Rattle.std.specs.Prelude.{◌≡◌, true, length, Option, Some, None}
use Rattle.std.specs.List.{AllZip}
use Rattle.cdi_bean_lives.specs.Beans.{AreFew, AreKeptBeans, fields_kept, method_kept, numbered_kept, numbers_kept}
use Rattle.cdi_bean_lives.specs.declared.kept.KeptBean.{KeptBean}
use Rattle.cdi_bean_lives.specs.declared.kept.KeptBeans.{KeptBeans}
use Rattle.cdi_class_lives.specs.declared.lives.ClassLives.{ClassLives}
use Rattle.cdi_deployment.specs.declared.deployment.Deployment.{Deployment}
use Rattle.cdi_event_tables.specs.Ids.{id_in}
use Rattle.cdi_event_tables.specs.declared.ids.BodyIds.{BodyIds}
use Rattle.cdi_numbered_plans.specs.Machine.{first_values}
use Rattle.cdi_numbered_plans.specs.Methods.{AreMethodsBy}
use Rattle.cdi_numbered_plans.specs.Numbers.{has_numbers}
use Rattle.cdi_numbered_plans.specs.declared.numbering.Numbering.{Numbering}
use Rattle.cdi_resolve.specs.declared.bean_tables.BeanTables.{BeanTables}
use Rattle.cdi_run_tables.specs.Index.{IsIndexOf, IsNumberedOf}
use Rattle.cdi_run_tables.specs.Managed.{fields_of, managed_plan}
use Rattle.cdi_run_tables.specs.Numbered.{has_few_beans}
use Rattle.cdi_run_tables.specs.Parts.{PlannedBean, RunParts}
use Rattle.cdi_run_tables.specs.Places.{plan_tables}
use Rattle.cdi_run_tables.specs.Seen.{parts_seen}
use Rattle.cdi_run_tables.specs.Sizes.{has_few_injections}
use Rattle.cdi_run_tables.specs.declared.index.RunIndex.{RunIndex}
use Rattle.cdi_run_tables.specs.declared.parts.KeptParts.{KeptParts}

-- what is kept of a bean tells what the machine is told of its plan, with each point resolved
pub record IsKeptOf (t : RunParts) (l : ClassLives) (b : PlannedBean) (kept : KeptBean) : Type 0 where
  pub numbered : IsNumberedOf t b.plan (numbered_kept l kept)
  pub methods : AreMethodsBy (id_in t.ids) b.plan (method_kept l kept)
  pub numbers : has_numbers b.plan ≡ numbers_kept kept
  pub fields : first_values (fields_kept l kept) ≡ fields_of (managed_plan b)
  pub few : has_few_injections b ≡ true

-- so of each bean; and there are few enough to be numbered
pub record AreKept (p : KeptParts) : Type 0 where
  pub few : has_few_beans (parts_seen p) ≡ true
  pub count : length (parts_seen p).beans ≡ length p.tables.resolver.beans
  pub beans : AllZip (IsKeptOf (parts_seen p) p.beans.lives) (parts_seen p).beans p.beans.beans

-- what stands at an index is kept of the bean there
abbrev pub IsKeptAt : RunParts → ClassLives → Option PlannedBean → Option KeptBean → Type 0
IsKeptAt t l None None = Unit {0}
IsKeptAt t l None (Some kept) = ⊥
IsKeptAt t l (Some b) None = ⊥
IsKeptAt t l (Some b) (Some kept) = IsKeptOf t l b kept

-- what is made of the beans of a deployment, by a numbering of it
pub record AreBeansOf (d : Deployment) (t : BeanTables) (ids : BodyIds) (kept : KeptBeans)
    : Type 0 where
  pub n : Numbering
  pub ids_are : n.ids.now ≡ ids
  pub names : n.names.now ≡ d.names
  pub qualifiers : n.qualifiers.now ≡ t.declared.qualifiers
  pub resolver : n.resolver.now ≡ t.resolver
  pub few : AreFew (plan_tables d t) n
  pub are : AreKeptBeans (plan_tables d t) n t.resolver.beans kept

-- the tables of a run: what is kept of the beans, and what is looked up
pub record AreRunTables (p : KeptParts) (i : RunIndex) : Type 0 where
  pub kept : AreKept p
  pub index : IsIndexOf (parts_seen p) i
