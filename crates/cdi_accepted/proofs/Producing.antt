-- The managed bean of the class that declares the producer of an enabled product.
use Rattle.std.proofs.Common.{ℕ, ◌≡◌, ◌∙◌, ◌&&◌, Bool, true, nat_eq, List, Some, sym, ap, subst}
use Rattle.std.specs.Prelude.{slice_get}
use Rattle.std.specs.List.{position_or_len}
use Rattle.std.proofs.lemmas.Bool.{and_from, and_parts, eq-eqb, eqb-true}
use Rattle.cdi_beans.specs.Kinds.{is_managed}
use Rattle.cdi_beans.specs.declared.bean.Bean.{Bean}
use Rattle.cdi_deployment.specs.declared.deployment.Class.{Class}
use Rattle.cdi_deployment.specs.declared.deployment.Deployment.{Deployment}
use Rattle.cdi_deployment.specs.declared.deployment.Member.{Member}
use Rattle.cdi_enable.specs.Enablement.{enablement_of, listed_bean}
use Rattle.cdi_event_tables.specs.Observers.{managed_bean}
use Rattle.cdi_planner.specs.Products.{IsProductPlan}
use Rattle.cdi_plans.specs.declared.plan.ProductPlan.{ProductPlan}
use Rattle.cdi_resolve.specs.Filters.{enabled_of, is_enabled}
use Rattle.cdi_resolve.specs.declared.bean_tables.BeanTables.{BeanTables}
use Rattle.cdi_run_tables.specs.Planned.{IsTabled, plan_tables}
use Rattle.cdi_run_tables.specs.declared.tables.RunTables.{RunTables}
use Rattle.cdi_types.specs.Line.{class_named}
use Rattle.cdi_types.specs.Members.{members_of}
use Rattle.cdi_accepted.proofs.Beans.{stands_listed}
use Rattle.cdi_accepted.proofs.Lines.{is_of_name}
use Rattle.cdi_accepted.proofs.Lists.{Among, at_among}
use Rattle.cdi_accepted.proofs.Managed.{HasManaged, has_managed}
use Rattle.cdi_accepted.proofs.Positions.{found_at, some_position}
use Rattle.cdi_accepted.proofs.Enabled.{IsManagedAt, has_flag, managed_at}
use Rattle.cdi_accepted.proofs.Products.{IsProducerOf, mapped_get, own_member, producer_is, same_flag}

module _ (t : RunTables) (tabled : IsTabled t) where
  abbrev d : Deployment
  d = t.deployment

  beans_are : t.tables.resolver.beans ≡ tabled.tables.list.beans
  beans_are = ap (λ (s : BeanTables). s.resolver.beans) tabled.tables.are.are

  -- the bean of the declaring class is enabled as the product is
  pub record HasDeclaring (p : ProductPlan) (declared : Class × Member) : Type 0 where
    pub index : ℕ
    pub found : managed_bean t.tables.resolver.beans p.declaring ≡ Some index
    pub at : IsManagedAt t index declared.0.name
    pub named : class_named d.classes declared.0.name ≡ Some declared.0
    pub own : Among declared.1 declared.0.members

  module _ (b : ℕ) (listed : Bean) (enabled : Among (b, listed) (enabled_of t.tables.resolver)) (p : ProductPlan) (is : IsProductPlan (plan_tables d t.tables) listed.class listed.kind p) where
    at_list : slice_get t.tables.resolver.beans b ≡ Some listed
    at_list = stands_listed t b listed enabled

    producer : IsProducerOf d.classes listed.class is.declared
    producer = producer_is d.classes listed.class listed.kind is.declared is.is

    name : is.declared.0.name ≡ listed.class
    name = is_of_name d tabled.tables.made.names_well listed.class is.declared.0 producer.named

    abbrev test : Bean → Bool
    test x = is_managed x.kind && nat_eq x.class p.declaring

    -- its class has a managed bean
    there : HasManaged t.tables.resolver.beans listed.class
    there =
        let made = tabled.tables.made in
        let beans = tabled.tables.list.beans in
        let P : List Bean → Type 0 = λ l. Among listed l in
        let Q : List Bean → Type 0 = λ l. HasManaged l listed.class in
        subst Q (sym beans_are) (has_managed d made.qualifiers beans made.is.beans listed (subst P beans_are (at_among t.tables.resolver.beans b listed at_list)))

    -- that bean, by its index
    found_declaring : (n : ℕ) → managed_bean t.tables.resolver.beans p.declaring ≡ Some n → HasDeclaring p is.declared
    found_declaring n e =
        let found = found_at (λ (x : Bean). is_managed x.kind && nat_eq x.class p.declaring) t.tables.resolver.beans n e in
        let class : found.item.class ≡ p.declaring = eqb-true found.item.class p.declaring (and_parts (is_managed found.item.kind) (nat_eq found.item.class p.declaring) found.passes).1 in
        let same : listed.class ≡ found.item.class = sym name ∙ sym is.by.declaring ∙ sym class in
        let P : List Bean → Type 0 = λ l. slice_get l b ≡ Some listed in
        let Q : List Bean → Type 0 = λ l. slice_get l n ≡ Some found.item in
        let beans = tabled.tables.list.beans in
        let flag : is_enabled t.tables.resolver.flags n ≡ true =
        same_flag (enablement_of tabled.tables.list) t.tables.resolver.flags tabled.tables.are.flags b n (listed_bean listed) (listed_bean found.item)
        (mapped_get listed_bean beans b listed (subst P beans_are at_list)) (mapped_get listed_bean beans n found.item (subst Q beans_are found.has)) same (has_flag t b listed enabled) in
        record {
          index = n;
          found = e;
          at = managed_at t tabled n is.declared.0.name (ap (managed_bean t.tables.resolver.beans) (sym is.by.declaring) ∙ e) flag;
          named = ap (class_named d.classes) name ∙ producer.named;
          own = producer.own;
        }

    -- the class of each enabled product has such a bean
    pub declaring : HasDeclaring p is.declared
    declaring =
        let m = there in
        let yes : test m.bean ≡ true =
        and_from (is_managed m.bean.kind) (nat_eq m.bean.class p.declaring) (ap is_managed m.kind) (eq-eqb m.bean.class p.declaring (m.of_class ∙ sym name ∙ sym is.by.declaring)) in
        found_declaring (position_or_len test t.tables.resolver.beans) (some_position test t.tables.resolver.beans m.bean m.stands yes)

  module _ (declared : Class × Member) (n : ℕ) (at : IsManagedAt t n declared.0.name) (named : class_named d.classes declared.0.name ≡ Some declared.0) where
    -- the bean's class is the declaring one
    pub of_bean : class_named d.classes at.listed.class ≡ Some declared.0
    of_bean = ap (class_named d.classes) at.of_class ∙ named

    -- what that class declares, its bean has
    pub own_stands : (m : Member) → Among m declared.0.members → Among (declared.0, m) (members_of at.plan.line)
    own_stands m a = own_member d tabled.tables.made.names_well at.listed.class at.plan.line at.plan.is_line declared.0 of_bean m a
