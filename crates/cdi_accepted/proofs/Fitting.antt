-- The managed beans of an accepted deployment fit.
use Rattle.std.proofs.Common.{ℕ, ◌≡◌, ◌∙◌, ◌++◌, List, Option, Some, None, sym, ap, subst}
use Rattle.std.specs.Prelude.{option_map}
use Rattle.std.proofs.lemmas.Option.{same_Some}
use Rattle.cdi_beans.specs.declared.bean.Bean.{Bean}
use Rattle.cdi_beans.specs.declared.bean.BeanKind.TheVariants as kinds
use Rattle.cdi_bodies.specs.Gives.{LieInShape}
use Rattle.cdi_bodies.specs.declared.entry.Entry.{Entry}
use Rattle.cdi_body_check.specs.Shapes.{shape_of}
use Rattle.cdi_check.proofs.Accepted.{append_none, bodies_sound}
use Rattle.cdi_check.specs.Accepted.{AreBodiesSound}
use Rattle.cdi_check.specs.Tables.{setting_by}
use Rattle.cdi_beans.specs.Kinds.{is_managed}
use Rattle.cdi_machine.specs.Registered.{legal_of}
use Rattle.cdi_machine.specs.Tables as machine
use Rattle.cdi_planner.specs.Plans.{IsPlanOf}
use Rattle.cdi_planner.specs.Tables.{PlanTables}
use Rattle.cdi_plans.specs.declared.plan.Plan.{Plan}
use Rattle.cdi_plans.specs.declared.plan.Plan.TheVariants as plans
use Rattle.cdi_event_tables.specs.Observers.{managed_bean}
use Rattle.cdi_run_tables.specs.Machine.{bean_with, id_of, machine_kind, machine_tables, product_with}
use Rattle.cdi_run_tables.specs.Planned.{IsPlanned, plan_tables}
use Rattle.cdi_run_tables.specs.Parts.{PlannedBean}
use Rattle.cdi_run_tables.specs.declared.tables.RunTables.{RunTables}
use Rattle.cdi_whole.specs.Fits.{FitsClass}
use Rattle.cdi_accepted.proofs.Beans.{beside, stands_listed, target}
use Rattle.cdi_accepted.proofs.Enabled.{has_flag, known_by, with_plan}
use Rattle.cdi_accepted.proofs.Methods.{known, managed}
use Rattle.cdi_accepted.proofs.FitPlans.{has_plan}
use Rattle.cdi_accepted.proofs.Ready.{class_fits}
use Rattle.cdi_accepted.specs.Accepted.{IsFaultless, ManagedFit}

pub sound : {X : Type 0} {F : X → Type 0} {g : _} (entries : List (Entry X F g)) (t : RunTables) → IsFaultless entries t → AreBodiesSound t.deployment (shape_of entries) (setting_by t.deployment t.tables)
sound entries t a =
    let problems = a.problems in
    let all = append_none (problems.of_bodies ++ problems.of_points) problems.of_enabled problems.are in
    let two = append_none problems.of_bodies problems.of_points all.0 in
    bodies_sound t.deployment (shape_of entries) (setting_by t.deployment t.tables) problems.of_bodies two.0 problems.are_of_bodies

-- what the machine has as a class is a managed bean
pub class_is_managed : (t : RunTables) (planning : PlanTables) (listed : Bean) (planned : PlannedBean) (plan : Plan) → IsPlanOf planning listed plan → (bean : machine.Bean) (c : machine.Managed)
    → option_map (bean_with planned) (machine_kind (id_of t) t.tables.resolver.beans plan) ≡ Some bean → bean.kind ≡ machine.Kind.Class c → listed.kind ≡ kinds.Managed
class_is_managed t planning listed planned (plans.Managed p) (IsPlanOf.managed kind is) bean c e k = kind
class_is_managed t planning listed planned (plans.Product p) (IsPlanOf.product is) bean c e k = by (managed_bean t.tables.resolver.beans p.declaring) e
  where
    by : (o : Option ℕ) → option_map (bean_with planned) (option_map (product_with (id_of t) p) o) ≡ Some bean → listed.kind ≡ kinds.Managed
    by None h = absurd cc
    by (Some n) h =
        let kind : product_with (id_of t) p n ≡ bean.kind = ap (λ (x : machine.Bean). x.kind) (same_Some (bean_with planned (product_with (id_of t) p n)) bean h) in
        let other = kind ∙ k in
        absurd cc

pub same_class : (x y : machine.Managed) → machine.Kind.Class x ≡ machine.Kind.Class y → x ≡ y
same_class x y e = cc

pub managed_fit : {X : Type 0} {F : X → Type 0} {g : _} (entries : List (Entry X F g)) → LieInShape entries → ManagedFit entries
managed_fit entries lies t a asked b resolves bean known_bean c kind_is =
    let bodies = sound entries t a in
    let it = target t asked b resolves in
    let stands = stands_listed t b it.bean it.enabled in
    let found = beside (IsPlanned (plan_tables t.deployment t.tables)) t.tables.resolver.beans t.beans b it.bean a.tabled.planned stands in
    let has : option_map (bean_with found.item) (machine_kind (id_of t) t.tables.resolver.beans found.item.plan) ≡ Some bean =
    sym (known_by t b found.item (with_plan t b found.item (has_flag t b it.bean it.enabled) found.stands)) ∙ known_bean in
    let kind = class_is_managed t (plan_tables t.deployment t.tables) it.bean found.item found.item.plan found.related.plan bean c has kind_is in
    let plan = has_plan t a.tabled b it.bean stands kind in
    let own : machine.Managed = managed entries t a.tabled a.ids bodies b it.bean it.enabled plan in
    let one : bean_with plan.planned (machine.Kind.Class own) ≡ bean = same_Some (bean_with plan.planned (machine.Kind.Class own)) bean (sym (known entries t a.tabled a.ids bodies b it.bean it.enabled plan) ∙ known_bean) in
    let same : own ≡ c = same_class own c (ap (λ (x : machine.Bean). x.kind) one ∙ kind_is) in
    let P : machine.Managed → Type 0 = λ m. FitsClass (machine_tables t) (legal_of entries) m in
    subst P same (class_fits entries lies t a.tabled a.lookups a.ids bodies a.texts b it.bean it.enabled plan (ap is_managed kind))
