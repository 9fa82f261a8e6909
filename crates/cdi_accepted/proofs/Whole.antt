-- The tables of an accepted deployment fit.
use Rattle.std.proofs.Common.{ℕ, ◌≡◌, ◌∙◌, true, nat_eq, List, map, Some, refl, sym, ap, subst}
use Rattle.std.specs.Prelude.{option_map, slice_get}
use Rattle.std.specs.List.{AllByRecursion, filter_map, list_any}
use Rattle.cdi_base.specs.Fields.{has}
use Rattle.cdi_beans.specs.declared.bean.Bean.{Bean}
use Rattle.cdi_bodies.specs.Gives.{LieInShape, lookups_of}
use Rattle.cdi_bodies.specs.declared.entry.Entry.{Entry}
use Rattle.cdi_body_check.specs.Shapes.{shape_of}
use Rattle.cdi_check.specs.Accepted.{AreBodiesSound}
use Rattle.cdi_check.specs.Tables.{setting_by}
use Rattle.cdi_deployment.specs.Member.{member_name, member_params}
use Rattle.cdi_deployment.specs.declared.deployment.Class.{Class}
use Rattle.cdi_deployment.specs.declared.deployment.Deployment.{Deployment}
use Rattle.cdi_deployment.specs.declared.deployment.Member.{Member}
use Rattle.cdi_beans.specs.Kinds.{is_managed}
use Rattle.cdi_machine.specs.Registered.{legal_of}
use Rattle.cdi_machine.specs.Runs.{Legal}
use Rattle.cdi_machine.specs.Tables as machine
use Rattle.cdi_machine.specs.Words.{Asked}
use Rattle.cdi_types.specs.Line.{class_named}
use Rattle.cdi_planner.specs.Codes.{injected_method}
use Rattle.cdi_planner.specs.Plans.{IsPlanOf}
use Rattle.cdi_planner.specs.Products.{IsProductPlan, disposer_method}
use Rattle.cdi_plans.specs.declared.plan.InjectedMethod.{InjectedMethod}
use Rattle.cdi_plans.specs.declared.plan.ManagedPlan.{ManagedPlan}
use Rattle.cdi_plans.specs.declared.plan.Plan.{Plan}
use Rattle.cdi_plans.specs.declared.plan.Plan.TheVariants as plans
use Rattle.cdi_plans.specs.declared.plan.ProductPlan.{ProductPlan}
use Rattle.cdi_plans.specs.declared.plan.Source.{Source}
use Rattle.cdi_resolve.specs.Filters.{enabled_of}
use Rattle.cdi_run_tables.specs.Machine.{AreIdsOf, bean_with, first_values, id_of, machine_kind, machine_member, machine_source, machine_tables, product_with}
use Rattle.cdi_run_tables.specs.Planned.{IsPlanned, IsTabled, plan_tables}
use Rattle.cdi_run_tables.specs.Texts.{has_texts}
use Rattle.cdi_run_tables.specs.Parts.{PlannedBean}
use Rattle.cdi_run_tables.specs.declared.tables.RunTables.{RunTables}
use Rattle.cdi_shape_check.specs.OwnParts.{has_field}
use Rattle.cdi_whole.specs.Fits.{FitsBean, FitsMember, FitsSource}
use Rattle.cdi_accepted.proofs.Beans.{beside, stands_listed, target}
use Rattle.cdi_accepted.proofs.Fields.{has_first}
use Rattle.cdi_accepted.proofs.Lines.{is_listed}
use Rattle.cdi_accepted.proofs.Lists.{Among, any_passes, given, mapped}
use Rattle.cdi_accepted.proofs.Texts.{built_in_text}
use Rattle.cdi_accepted.proofs.Enabled.{IsManagedAt, has_flag, known_by, with_plan}
use Rattle.cdi_accepted.proofs.Fitting.{sound}
use Rattle.cdi_accepted.proofs.MemberCodes.{IsMethodOf, IsSourceOf, of_disposer, of_source}
use Rattle.cdi_accepted.proofs.Methods.{known, managed}
use Rattle.cdi_accepted.proofs.Observers.{class_at, observed}
use Rattle.cdi_accepted.proofs.FitPlans.{has_plan}
use Rattle.cdi_accepted.proofs.Producing.{declaring, of_bean, own_stands}
use Rattle.cdi_accepted.proofs.Products.{names_field, of_those, own_class}
use Rattle.cdi_accepted.proofs.Ready.{all_of, class_fits, member_is_fit}
use Rattle.cdi_accepted.specs.Accepted.{WholeFits}

module _ {X : Type 0} {F : X → Type 0} {g : _} (entries : List (Entry X F g)) (lies : LieInShape entries) (t : RunTables) (tabled : IsTabled t) (lookups : t.lookups ≡ lookups_of entries) (ids : AreIdsOf entries t)
    (sound_bodies : AreBodiesSound t.deployment (shape_of entries) (setting_by t.deployment t.tables)) (texts : has_texts t.deployment ≡ true) where
  abbrev d : Deployment
  d = t.deployment

  abbrev T : machine.Tables
  T = machine_tables t

  abbrev L : Legal
  L = legal_of entries

  -- ---- what a producer's class has

  module _ (n : ℕ) (declared : Class × Member) (at : IsManagedAt t n declared.0.name) (named : class_named d.classes declared.0.name ≡ Some declared.0) where
    abbrev own : machine.Managed
    own = managed entries t tabled ids sound_bodies n at.listed at.enabled at.plan

    -- a producer method or a disposer, as the plan of a product has it
    method_fits : (m : Member) → Among m declared.0.members → (k : InjectedMethod) → IsMethodOf t.tables.chains (declared.0, m) k → FitsMember T L own (machine_member (id_of t) k)
    method_fits m a k of =
        let P : InjectedMethod → Type 0 = λ x. FitsMember T L own (machine_member (id_of t) x) in
        let Q : ℕ → Type 0 = λ c. FitsMember T L own (machine_member (id_of t) (injected_method t.tables.chains c declared.0 (member_name m) of.body (member_params m))) in
        subst P (sym of.is)
        (subst Q at.of_class (member_is_fit entries lies t tabled lookups ids sound_bodies texts n at.listed at.enabled at.plan declared.0 m of.body of.has (own_stands t tabled declared n at named m a)))

    source_fits : (s : Source) → Among declared.1 declared.0.members → IsSourceOf t.tables.chains declared s → FitsSource T L own (machine_source (id_of t) s)
    source_fits s a (IsSourceOf.method k e of) =
        let P : Source → Type 0 = λ x. FitsSource T L own (machine_source (id_of t) x) in
        subst P (sym e) (method_fits declared.1 a k of)
    source_fits s a (IsSourceOf.field f e is) =
        let P : Source → Type 0 = λ x. FitsSource T L own (machine_source (id_of t) x) in
        let Q : Member → Type 0 = λ m. Among m declared.0.members in
        let well = tabled.tables.made.names_well in
        let here : list_any (λ k. nat_eq k.name f.field) declared.0.fields ≡ true = names_field d well declared.0 (is_listed d well declared.0.name declared.0 named) f (subst Q is a) in
        let there : list_any (λ (c : Class). has_field f.field c.fields) at.plan.line ≡ true =
        any_passes (λ (c : Class). has_field f.field c.fields) at.plan.line declared.0
        (own_class d well at.listed.class at.plan.line at.plan.is_line declared.0 (of_bean t tabled declared n at named)) here in
        subst P (sym e) (ap (λ (p : ManagedPlan). has (first_values p.fields) f.field) at.plan.is ∙ has_first at.plan.line f.field there)

  -- ---- products

  module _ (b : ℕ) (listed : Bean) (enabled : Among (b, listed) (enabled_of t.tables.resolver)) (planned : PlannedBean) (has_planned : slice_get t.beans b ≡ Some planned) where
    product_fits : (p : ProductPlan) → planned.plan ≡ plans.Product p → IsProductPlan (plan_tables d t.tables) listed.class listed.kind p → FitsBean T L b
    product_fits p is_plan is =
        let of = declaring t tabled b listed enabled p is in
        let n = of.index in
        let at = of.at in
        let own : machine.Managed = managed entries t tabled ids sound_bodies n at.listed at.enabled at.plan in
        let disposers = is.by.disposers in
        let R : List InjectedMethod → Type 0 = λ l. AllByRecursion (FitsMember T L own) (map (machine_member (id_of t)) l) in
        record {
          bean = bean_with planned (product_with (id_of t) p n);
          known =
              known_by t b planned (with_plan t b planned (has_flag t b listed enabled) has_planned)
              ∙ ap (λ k. option_map (bean_with planned) (machine_kind (id_of t) t.tables.resolver.beans k)) is_plan
              ∙ ap (λ o. option_map (bean_with planned) (option_map (product_with (id_of t) p) o)) of.found;
          kind =
              record {
                class = own;
                declares = class_at entries lies t tabled lookups ids sound_bodies texts n is.declared.0.name at;
                source = source_fits n is.declared at of.named p.source of.own (of_source t.tables.chains is.declared p.source is.by.source);
                disposers =
                    subst R (sym disposers.are)
                    (all_of (FitsMember T L own) (map (machine_member (id_of t)) (filter_map (disposer_method t.tables.chains is.declared.0) disposers.serving))
                    (λ x a.
                    let m = mapped (machine_member (id_of t)) (filter_map (disposer_method t.tables.chains is.declared.0) disposers.serving) x a in
                    let from = given (disposer_method t.tables.chains is.declared.0) disposers.serving m.item m.stands in
                    let S : machine.Member → Type 0 = λ k. FitsMember T L own k in
                    subst S (sym m.is)
                    (method_fits n is.declared at of.named from.item (of_those _ is.declared.0.members disposers.serving from.item disposers.serve from.stands) m.item
                    (of_disposer t.tables.chains is.declared.0 from.item m.item from.is))));
              };
        }

    bean_fits : (plan : Plan) → planned.plan ≡ plan → IsPlanOf (plan_tables d t.tables) listed plan → FitsBean T L b
    bean_fits (plans.Managed p) is_plan (IsPlanOf.managed kind is) =
        let plan = has_plan t tabled b listed (stands_listed t b listed enabled) kind in
        let own : machine.Managed = managed entries t tabled ids sound_bodies b listed enabled plan in
        record {
          bean = bean_with plan.planned (machine.Kind.Class own);
          known = known entries t tabled ids sound_bodies b listed enabled plan;
          kind = class_fits entries lies t tabled lookups ids sound_bodies texts b listed enabled plan (ap is_managed kind);
        }
    bean_fits (plans.Product p) is_plan (IsPlanOf.product is) = product_fits p is_plan is

  pub resolved_fit : (asked : Asked) (b : ℕ) → T.resolve asked ≡ machine.Resolution.One b → FitsBean T L b
  resolved_fit asked b e =
      let it = target t asked b e in
      let stands = stands_listed t b it.bean it.enabled in
      let found = beside (IsPlanned (plan_tables d t.tables)) t.tables.resolver.beans t.beans b it.bean tabled.planned stands in
      bean_fits b it.bean it.enabled found.item found.stands found.item.plan refl found.related.plan

pub whole_fits : {X : Type 0} {F : X → Type 0} {g : _} (entries : List (Entry X F g)) → LieInShape entries → WholeFits entries
whole_fits entries lies t a =
    let bodies = sound entries t a in
    record {
      resolved = resolved_fit entries lies t a.tabled a.lookups a.ids bodies a.texts;
      observed = observed entries lies t a.tabled a.lookups a.ids bodies a.texts;
      texts = λ x. built_in_text t.deployment a.texts x;
    }
