-- The bodies of a destruction are told from all others by their places: a member's place is that of its class and its name.
use Rattle.std.proofs.Common.{ℕ, zero, suc, ◌≡◌, ◌∙◌, ◌⊎◌, inl, inr, Bool, true, not, nat_eq, List, [], ◌∷◌, ◌++◌, map, filter, Option, Some, None, refl, sym, ap, subst}
use Rattle.std.specs.Prelude.{option_and_then, option_map, slice_get}
use Rattle.std.specs.List.{AllZip, filter_map}
use Rattle.std.proofs.lemmas.Bool.{true≢false}
use Rattle.std.proofs.lemmas.Option.{same_Some}
use Rattle.cdi_base.specs.Maps.{at}
use Rattle.cdi_base.specs.declared.place.Place.{Place}
use Rattle.cdi_base.specs.declared.place.Place.TheVariants as places
use Rattle.cdi_beans.specs.declared.bean.Bean.{Bean}
use Rattle.cdi_beans.specs.declared.bean.BeanKind.{BeanKind}
use Rattle.cdi_beans.specs.declared.bean.ObserverMethod.{ObserverMethod}
use Rattle.cdi_plans.specs.Chains.{ChainTables, interceptors_of}
use Rattle.cdi_deployment.specs.Member.{member_name}
use Rattle.cdi_deployment.specs.declared.deployment.Class.{Class}
use Rattle.cdi_deployment.specs.declared.deployment.Constructor.{Constructor}
use Rattle.cdi_deployment.specs.declared.deployment.Deployment.{Deployment}
use Rattle.cdi_deployment.specs.declared.deployment.Member.{Member}
use Rattle.cdi_deployment.specs.declared.deployment.Member.TheVariants as members
use Rattle.cdi_deployment.specs.declared.deployment.Observer.{Observer}
use Rattle.cdi_deployment.specs.declared.deployment.Point.{Point}
use Rattle.cdi_machine.specs.Tables as machine
use Rattle.cdi_name_check.specs.NameProblems.{AreNameProblems}
use Rattle.cdi_planner.specs.Codes.{business_method, completion, constructor_body, post_construct, pre_destroy}
use Rattle.cdi_planner.specs.Observers.{as_observer, observer_in, observer_named, observer_of}
use Rattle.cdi_planner.specs.Plans.{IsPlanOf}
use Rattle.cdi_planner.specs.Products.{IsProductPlan, disposer_method}
use Rattle.cdi_planner.specs.Steps.{construction, injections, steps_of}
use Rattle.cdi_planner.specs.Tables.{PlanTables}
use Rattle.cdi_plans.specs.declared.plan.Code.{Code}
use Rattle.cdi_plans.specs.declared.plan.InjectedMethod.{InjectedMethod}
use Rattle.cdi_plans.specs.declared.plan.ManagedPlan.{ManagedPlan}
use Rattle.cdi_plans.specs.declared.plan.Plan.{Plan}
use Rattle.cdi_plans.specs.declared.plan.Plan.TheVariants as plans
use Rattle.cdi_plans.specs.declared.plan.ProductPlan.{ProductPlan}
use Rattle.cdi_plans.specs.declared.plan.Source.{Source}
use Rattle.cdi_plans.specs.declared.plan.Step.{Step}
use Rattle.cdi_plans.specs.declared.plan.Step.TheVariants as steps
use Rattle.cdi_event_tables.specs.Observers.{managed_bean}
use Rattle.cdi_run_tables.specs.Machine.{bean_at, bean_with, does_something, id_of, machine_bean, machine_code, machine_kind, machine_managed, machine_member, machine_methods, machine_observer, machine_source, machine_step, machine_steps, observer_with, planned_at, product_with}
use Rattle.cdi_run_tables.specs.Planned.{IsPlanned, IsTabled, plan_tables}
use Rattle.cdi_run_tables.specs.Parts.{PlannedBean}
use Rattle.cdi_run_tables.specs.declared.tables.RunTables.{RunTables}
use Rattle.cdi_types.specs.Declarations.{declarations_of}
use Rattle.cdi_types.specs.Line.{IsLineOf, class_named}
use Rattle.cdi_types.specs.Members.{members_of}
use Rattle.cdi_ledger.specs.Whose.{IsIn}
use Rattle.cdi_ledger.specs.Callbacks.{codes_in}
use Rattle.cdi_accepted.proofs.Beans.{kept_at}
use Rattle.cdi_accepted.proofs.Duplicates.{named_apart}
use Rattle.cdi_accepted.proofs.Lines.{front_of, is_listed, is_of_name}
use Rattle.cdi_accepted.proofs.Lists.{Among, among_parts, found_among, given, mapped, of_filter, of_is_in}
use Rattle.cdi_accepted.proofs.Members.{of_line}
use Rattle.cdi_accepted.proofs.Enabled.{is_told, known_by, made_from, of_planned, with_plan}
use Rattle.cdi_accepted.proofs.Fitting.{class_is_managed, same_class}
use Rattle.cdi_accepted.proofs.Observing.{of_as_observer}
use Rattle.cdi_accepted.proofs.MemberCodes.{IsCodeOf, IsMethodOf, IsSourceOf, is_farewell, is_other, of_disposer, of_initialization, of_post_construct, of_pre_destroy, of_source}
use Rattle.cdi_accepted.proofs.Methods.{of_plan}
use Rattle.cdi_accepted.proofs.FitPlans.{HasPlan, has_plan}
use Rattle.cdi_accepted.proofs.Products.{of_those, producer_is}
use Rattle.cdi_accepted.proofs.Ready.{IsFrom, of_injections}

-- the place is that of a member which passes the test
pub record IsDeclaredAt (d : Deployment) (place : Place) (test : Member → Bool) : Type 0 where
  pub class : Class
  pub named : class_named d.classes class.name ≡ Some class
  pub member : Member
  pub own : Among member class.members
  pub is : place ≡ places.Member class.name (member_name member)
  pub passes : test member ≡ true

-- one place, one member
pub never_both : (d : Deployment) → AreNameProblems d [] → (place : Place) → IsDeclaredAt d place is_farewell → IsDeclaredAt d place is_other → ⊥
never_both d well place a b =
    let q : places.Member a.class.name (member_name a.member) ≡ places.Member b.class.name (member_name b.member) = sym a.is ∙ b.is in
    let named : a.class.name ≡ b.class.name = cc in
    let called : member_name a.member ≡ member_name b.member = cc in
    let C : ℕ → Type 0 = λ n. class_named d.classes n ≡ Some a.class in
    let same : a.class ≡ b.class = same_Some a.class b.class (sym (subst C named a.named) ∙ b.named) in
    let M : Class → Type 0 = λ c. Among a.member c.members in
    let one : a.member ≡ b.member =
    (named_apart d well b.class (is_listed d well b.class.name b.class b.named)).members a.member b.member (subst M same a.own) b.own called in
    true≢false (sym b.passes ∙ ap is_other (sym one) ∙ ap not a.passes)

-- a member's place, or a constructor's
abbrev pub IsOfOther : Deployment → Place → Type 0
IsOfOther d place = IsDeclaredAt d place is_other ⊎ ((n : ℕ) × (place ≡ places.Constructor n))

-- ---- what a member's code stands at

pub record IsAtMember (p : Class × Member) (place : Place) (test : Member → Bool) : Type 0 where
  pub is : place ≡ places.Member p.0.name (member_name p.1)
  pub passes : test p.1 ≡ true

-- a member's code stands at the member's place
at_code : (test : Member → Bool) (p : Class × Member) (k : Code) (points : List Point) → IsCodeOf test p k points → IsAtMember p k.place test
at_code test p k points of = record { is = ap (λ (x : Code). x.place) of.is; passes = of.passes }

-- and so does that of a producer method or a disposer
at_method : (t : ChainTables) (p : Class × Member) (k : InjectedMethod) → IsMethodOf t p k → IsAtMember p k.code.place is_other
at_method t p k of = record { is = ap (λ (x : InjectedMethod). x.code.place) of.is; passes = of.passes }

-- an item of the one list has one of the other at its place
pub record Beneath {A B : Type 0} (R : A → B → Type 0) (xs : List A) (i : ℕ) (y : B) : Type 0 where
  pub item : A
  pub stands : slice_get xs i ≡ Some item
  pub related : R item y

pub beneath : {A B : Type 0} (R : A → B → Type 0) (xs : List A) (ys : List B) (i : ℕ) (y : B) → AllZip R xs ys → slice_get ys i ≡ Some y → Beneath R xs i y
beneath R [] [] i y zip e = absurd cc
beneath R [] (z ∷ ys) i y zip e = absurd zip
beneath R (x ∷ xs) [] i y zip e = absurd zip
beneath R (x ∷ xs) (z ∷ ys) zero y zip e = record { item = x; stands = refl; related = subst (R x) (same_Some z y e) zip.0 }
beneath R (x ∷ xs) (z ∷ ys) (suc i) y zip e = let more = beneath R xs ys i y zip.1 e in record { item = more.item; stands = more.stands; related = more.related }

module _ (t : RunTables) (tabled : IsTabled t) where
  abbrev d : Deployment
  d = t.deployment

  abbrev ids : ℕ → Option ℕ
  ids = id_of t

  abbrev planning : PlanTables
  planning = plan_tables t.deployment t.tables

  well : AreNameProblems d []
  well = tabled.tables.made.names_well

  -- ---- members of a line

  pub named_in : (name : ℕ) (line : List Class) → IsLineOf (declarations_of d) d.classes name line → (c : Class) → Among c line → class_named d.classes c.name ≡ Some c
  named_in name line is c a = (front_of d well name line is c a).named

  at_member : (name : ℕ) (line : List Class) → IsLineOf (declarations_of d) d.classes name line → (p : Class × Member) → Among p.0 line → Among p.1 p.0.members
      → (place : Place) (test : Member → Bool) → IsAtMember p place test → IsDeclaredAt d place test
  at_member name line is p a own place test at =
      record { class = p.0; named = named_in name line is p.0 a; member = p.1; own = own; is = at.is; passes = at.passes }

  at_listed : (name : ℕ) (line : List Class) → IsLineOf (declarations_of d) d.classes name line → (p : Class × Member) → Among p (members_of line)
      → (place : Place) (test : Member → Bool) → IsAtMember p place test → IsDeclaredAt d place test
  at_listed name line is p a place test at =
      let of = of_line line p.0 p.1 a in
      at_member name line is p of.class of.member place test at

  -- ---- a class of the machine by its bean

  pub record IsOfBean (b : ℕ) (c : machine.Managed) : Type 0 where
    pub listed : Bean
    pub plan : HasPlan t b listed
    pub is : c ≡ machine_managed ids plan.plan

  pub class_bean : (b : ℕ) (x : machine.Bean) (c : machine.Managed) → bean_at t b ≡ Some x → x.kind ≡ machine.Kind.Class c → IsOfBean b c
  class_bean b x c e k = by (planned_at t b) refl e
    where
      by : (o : Option PlannedBean) → planned_at t b ≡ o → option_and_then (machine_bean ids t.tables.resolver.beans) o ≡ Some x → IsOfBean b c
      by None is h = absurd cc
      by (Some planned) is h =
          let there = of_planned t b planned is in
          let below = beneath (IsPlanned planning) t.tables.resolver.beans t.beans b planned tabled.planned there.1 in
          let kind = class_is_managed t planning below.item planned planned.plan below.related.plan x c h k in
          let plan = has_plan t tabled b below.item below.stands kind in
          let own = machine_managed ids plan.plan in
          let known : bean_at t b ≡ Some (bean_with plan.planned (machine.Kind.Class own)) =
          known_by t b plan.planned (with_plan t b plan.planned there.0 plan.has)
          ∙ ap (λ p. option_map (bean_with plan.planned) (machine_kind ids t.tables.resolver.beans p)) plan.is_plan in
          let one : bean_with plan.planned (machine.Kind.Class own) ≡ x = same_Some (bean_with plan.planned (machine.Kind.Class own)) x (sym known ∙ e) in
          record { listed = below.item; plan = plan; is = sym (same_class own c (ap (λ (y : machine.Bean). y.kind) one ∙ k)) }

  module _ (b : ℕ) (c : machine.Managed) (of : IsOfBean b c) where
    abbrev plan : HasPlan t b of.listed
    plan = of.plan

    abbrev line : List Class
    line = of.plan.line

    -- codes of members that stand at a place of the machine's
    of_codes : (code : Class × Member → Option Code) (test : Member → Bool) → ((p : Class × Member) (k : Code) → code p ≡ Some k → IsCodeOf test p k [])
        → (m : machine.Code) → IsIn m (map (machine_code ids) (filter_map code (members_of line))) → IsDeclaredAt d m.place test
    of_codes code test at m a =
        let found = mapped (machine_code ids) (filter_map code (members_of line)) m (of_is_in m (map (machine_code ids) (filter_map code (members_of line))) a) in
        let member = given code (members_of line) found.item found.stands in
        let P : Place → Type 0 = λ p. IsDeclaredAt d p test in
        subst P (sym (ap (λ (x : machine.Code). x.place) found.is))
        (at_listed of.listed.class line plan.is_line member.item member.stands found.item.place test (at_code test member.item found.item [] (at member.item found.item member.is)))

    callbacks_are : c.pre_destroy.callbacks ≡ map (machine_code ids) (filter_map pre_destroy (members_of line))
    callbacks_are = ap (λ (x : machine.Managed). x.pre_destroy.callbacks) of.is ∙ ap (λ (p : ManagedPlan). map (machine_code ids) p.pre_destroy.callbacks) plan.is

    pub callback_at : (m : machine.Code) → IsIn m c.pre_destroy.callbacks → IsDeclaredAt d m.place is_farewell
    callback_at m a = let P : List machine.Code → Type 0 = λ l. IsIn m l in of_codes pre_destroy is_farewell of_pre_destroy m (subst P callbacks_are a)

    -- ---- methods

    pub method_at : (name : ℕ) (m : machine.Method) → at c.methods name ≡ Some m → IsOfOther d m.code.place
    method_at name m e =
        let chains = t.tables.chains in
        let all = filter_map (business_method chains of.listed.class) (members_of line) in
        let methods_are : c.methods ≡ machine_methods ids all = ap (λ (x : machine.Managed). x.methods) of.is ∙ ap (λ (p : ManagedPlan). machine_methods ids p.methods) plan.is in
        let P : List (ℕ × machine.Method) → Type 0 = λ l. Among (name, m) l in
        let from = of_plan ids chains of.listed.class line name m (subst P methods_are (kept_at c.methods name m e)) in
        inl (at_listed of.listed.class line plan.is_line (from.class, members.Method from.method) from.declared m.code.place is_other (record { is = from.place; passes = refl }))

    -- ---- steps

    abbrev Runs : Step → Type 0
    Runs s = (m : machine.Code) → IsIn m (codes_in (machine_step ids s)) → IsOfOther d m.place

    runs_construction : (constructor : Option Constructor) → Runs (construction t.tables.chains of.listed.class constructor)
    runs_construction None m a = absurd a
    runs_construction (Some k) m a = by k.body a
      where
        by : (o : Option ℕ) → IsIn m (map (machine_code ids) (constructor_body of.listed.class o)) → IsOfOther d m.place
        by None h = absurd h
        by (Some body) (inl e) = inr (of.listed.class, ap (λ (x : machine.Code). x.place) (sym e))
        by (Some body) (inr h) = absurd h

    -- the steps between construction and completion
    runs_injection : (s : Step) → IsFrom (members_of line) s → Runs s
    runs_injection s (IsFrom.injects field point e) = let P : Step → Type 0 = λ x. Runs x in subst P (sym e) (λ m h. absurd h)
    runs_injection s (IsFrom.initializes p a e) =
        let P : Step → Type 0 = λ x. Runs x in
        let from = of_initialization p s e in
        subst P (sym from.is) (λ m h. by from.code (at_code is_other p from.code from.points from.of) m h)
      where
        by : (code : Code) → IsAtMember p code.place is_other → (m : machine.Code) → IsIn m (machine_code ids code ∷ []) → IsOfOther d m.place
        by code there m (inl q) =
            let Q : machine.Code → Type 0 = λ x. IsOfOther d x.place in
            subst Q q (inl (at_listed of.listed.class line plan.is_line p a code.place is_other there))
        by code there m (inr never) = absurd never

    runs_completion : (s : Step) → s ≡ steps.Complete (completion t.tables.chains of.listed.class (members_of line)) → Runs s
    runs_completion s e =
        let P : Step → Type 0 = λ x. Runs x in
        subst P (sym e) (λ m h. inl (of_codes post_construct is_other of_post_construct m h))

    runs_all : (s : Step) → Among s (steps_of t.tables.chains plan.constructor of.listed line) → Runs s
    runs_all s a = by (among_parts ((map steps.Intercept (interceptors_of t.tables.chains of.listed) ++ (first ∷ [])) ++ injections line) (last ∷ []) s a)
      where
        first : Step
        first = construction t.tables.chains of.listed.class plan.constructor

        last : Step
        last = steps.Complete (completion t.tables.chains of.listed.class (members_of line))

        P : Step → Type 0
        P x = Runs x

        at_front : Among s (map steps.Intercept (interceptors_of t.tables.chains of.listed)) ⊎ Among s (first ∷ []) → Runs s
        at_front (inl q) = let found = mapped steps.Intercept (interceptors_of t.tables.chains of.listed) s q in subst P (sym found.is) (λ m h. absurd h)
        at_front (inr (inl e)) = subst P (sym e) (runs_construction plan.constructor)
        at_front (inr (inr q)) = absurd q

        before_last : Among s (map steps.Intercept (interceptors_of t.tables.chains of.listed) ++ (first ∷ [])) ⊎ Among s (injections line) → Runs s
        before_last (inl q) = at_front (among_parts (map steps.Intercept (interceptors_of t.tables.chains of.listed)) (first ∷ []) s q)
        before_last (inr q) = runs_injection s (of_injections line s q)

        by : Among s ((map steps.Intercept (interceptors_of t.tables.chains of.listed) ++ (first ∷ [])) ++ injections line) ⊎ Among s (last ∷ []) → Runs s
        by (inl q) = before_last (among_parts (map steps.Intercept (interceptors_of t.tables.chains of.listed) ++ (first ∷ [])) (injections line) s q)
        by (inr (inl e)) = runs_completion s e
        by (inr (inr q)) = absurd q

    pub step_at : (s : machine.Step) (m : machine.Code) → IsIn s c.plan → IsIn m (codes_in s) → IsOfOther d m.place
    step_at s m a h =
        let all = steps_of t.tables.chains plan.constructor of.listed line in
        let plan_is : c.plan ≡ machine_steps ids all = ap (λ (x : machine.Managed). x.plan) of.is ∙ ap (λ (p : ManagedPlan). machine_steps ids p.steps) plan.is in
        let P : List machine.Step → Type 0 = λ l. IsIn s l in
        let found = mapped (machine_step ids) (filter does_something all) s (of_is_in s (machine_steps ids all) (subst P plan_is a)) in
        let Q : machine.Step → Type 0 = λ x. IsIn m (codes_in x) in
        runs_all found.item (of_filter does_something all found.item found.stands).0 m (subst Q found.is h)

  -- ---- a product of the machine by its bean

  pub record IsOfProduct (p : machine.Product) : Type 0 where
    pub name : ℕ
    pub kind : BeanKind
    pub plan : ProductPlan
    pub by : IsProductPlan planning name kind plan
    pub source : p.source ≡ machine_source ids plan.source
    pub disposers : p.disposers ≡ map (machine_member ids) plan.disposers

  same_product : (x y : machine.Product) → machine.Kind.Producer x ≡ machine.Kind.Producer y → x ≡ y
  same_product x y e = cc

  pub product_bean : (b : ℕ) (x : machine.Bean) (p : machine.Product) → bean_at t b ≡ Some x → x.kind ≡ machine.Kind.Producer p → IsOfProduct p
  product_bean b x p e k = by (planned_at t b) refl e
    where
      of_kind : (planned : PlannedBean) (listed : Bean) (plan : Plan) → IsPlanOf planning listed plan
          → option_map (bean_with planned) (machine_kind ids t.tables.resolver.beans plan) ≡ Some x → IsOfProduct p
      of_kind planned listed (plans.Managed plan) (IsPlanOf.managed kind is) h =
          absurd (let q : machine.Kind.Class (machine_managed ids plan) ≡ machine.Kind.Producer p = ap (λ (y : machine.Bean). y.kind) (same_Some (bean_with planned (machine.Kind.Class (machine_managed ids plan))) x h) ∙ k in cc)
      of_kind planned listed (plans.Product plan) (IsPlanOf.product is) h = at_bean (managed_bean t.tables.resolver.beans plan.declaring) h
        where
          at_bean : (o : Option ℕ) → option_map (bean_with planned) (option_map (product_with ids plan) o) ≡ Some x → IsOfProduct p
          at_bean None q = absurd cc
          at_bean (Some n) q =
              let one = same_product (record { declaring = n; source = machine_source ids plan.source; disposers = map (machine_member ids) plan.disposers }) p
              (ap (λ (y : machine.Bean). y.kind) (same_Some (bean_with planned (product_with ids plan n)) x q) ∙ k) in
              record {
                name = listed.class;
                kind = listed.kind;
                plan = plan;
                by = is;
                source = ap (λ (y : machine.Product). y.source) (sym one);
                disposers = ap (λ (y : machine.Product). y.disposers) (sym one);
              }

      by : (o : Option PlannedBean) → planned_at t b ≡ o → option_and_then (machine_bean ids t.tables.resolver.beans) o ≡ Some x → IsOfProduct p
      by None is h = absurd cc
      by (Some planned) is h =
          let below = beneath (IsPlanned planning) t.tables.resolver.beans t.beans b planned tabled.planned (of_planned t b planned is).1 in
          of_kind planned below.item planned.plan below.related.plan h

  module _ (p : machine.Product) (of : IsOfProduct p) where
    -- a member of the class that declares the producer
    at_declared : (m : Member) → Among m of.by.declared.0.members → (place : Place) → IsAtMember (of.by.declared.0, m) place is_other → IsOfOther d place
    at_declared m own place at =
        let c = of.by.declared.0 in
        let producer = producer_is planning.classes of.name of.kind of.by.declared of.by.is in
        let P : ℕ → Type 0 = λ n. class_named d.classes n ≡ Some c in
        inl (record { class = c; named = subst P (sym (is_of_name d well of.name c producer.named)) producer.named; member = m; own = own; is = at.is; passes = at.passes })

    pub producer_at : (m : machine.Member) → p.source ≡ machine.Source.ProducerMethod m → IsOfOther d m.code.place
    producer_at m e = by of.plan.source (of_source t.tables.chains of.by.declared of.plan.source of.by.by.source) (sym of.source ∙ e)
      where
        same_member : (x y : machine.Member) → machine.Source.ProducerMethod x ≡ machine.Source.ProducerMethod y → x ≡ y
        same_member x y e = cc

        by : (s : Source) → IsSourceOf t.tables.chains of.by.declared s → machine_source ids s ≡ machine.Source.ProducerMethod m → IsOfOther d m.code.place
        by s (IsSourceOf.field f is member) h =
            let q : machine.Source.ProducerField f.field ≡ machine.Source.ProducerMethod m = sym (ap (machine_source ids) is) ∙ h in
            absurd cc
        by s (IsSourceOf.method k is from) h =
            let own = (producer_is planning.classes of.name of.kind of.by.declared of.by.is).own in
            let same = same_member (machine_member ids k) m (sym (ap (machine_source ids) is) ∙ h) in
            let P : Place → Type 0 = λ x. IsOfOther d x in
            subst P (ap (λ (x : machine.Member). x.code.place) same) (at_declared of.by.declared.1 own k.code.place (at_method t.tables.chains of.by.declared k from))

    pub disposer_at : (m : machine.Member) → IsIn m p.disposers → IsOfOther d m.code.place
    disposer_at m a =
        let P : List machine.Member → Type 0 = λ l. IsIn m l in
        let found = mapped (machine_member ids) of.plan.disposers m (of_is_in m (map (machine_member ids) of.plan.disposers) (subst P of.disposers a)) in
        let these = of.by.by.disposers in
        let Q : List InjectedMethod → Type 0 = λ l. Among found.item l in
        let member = given (disposer_method t.tables.chains of.by.declared.0) these.serving found.item (subst Q these.are found.stands) in
        let own = of_those _ of.by.declared.0.members these.serving member.item these.serve member.stands in
        let R : Place → Type 0 = λ x. IsOfOther d x in
        subst R (sym (ap (λ (x : machine.Member). x.code.place) found.is))
        (at_declared member.item own found.item.code.place
        (at_method t.tables.chains (of.by.declared.0, member.item) found.item (of_disposer t.tables.chains of.by.declared.0 member.item found.item member.is)))

  -- ---- observers

  observer_is : (o : ObserverMethod) (declared : Class × Observer) → observer_of d.classes o ≡ Some declared → IsDeclaredAt d (places.Member declared.0.name declared.1.name) is_other
  observer_is o declared e = by (class_named d.classes o.class) refl e
    where
      in_class : (c : Class) → class_named d.classes o.class ≡ Some c → (k : Option Observer) → observer_named o.name c.members ≡ k → option_map (λ (x : Observer). (c, x)) k ≡ Some declared
          → IsDeclaredAt d (places.Member declared.0.name declared.1.name) is_other
      in_class c named None is h = absurd cc
      in_class c named (Some x) is h =
          let first = found_among (λ (k : Observer). nat_eq k.name o.name) (filter_map as_observer c.members) x is in
          let member = given as_observer c.members x first.0 in
          let P : Member → Type 0 = λ m. Among m c.members in
          let Q : ℕ → Type 0 = λ n. class_named d.classes n ≡ Some c in
          let R : Class × Observer → Type 0 = λ q. IsDeclaredAt d (places.Member q.0.name q.1.name) is_other in
          subst R (same_Some (c, x) declared h)
          (record {
            class = c;
            named = subst Q (sym (is_of_name d well o.class c named)) named;
            member = members.Observer x;
            own = subst P (of_as_observer member.item x member.is) member.stands;
            is = refl;
            passes = refl;
          })

      by : (k : Option Class) → class_named d.classes o.class ≡ k → option_and_then (observer_in o.name) k ≡ Some declared → IsDeclaredAt d (places.Member declared.0.name declared.1.name) is_other
      by None is h = absurd cc
      by (Some c) is h = in_class c is (observer_named o.name c.members) refl h

  pub observer_at : (o : ObserverMethod) (x : machine.Observer) → machine_observer t o ≡ Some x → IsOfOther d x.member.code.place
  observer_at o x e =
      let P : machine.Observer → Type 0 = λ y. IsOfOther d y.member.code.place in
      let told = is_told t o.bean (λ n. option_map (observer_with t o n) (observer_of d.classes o)) x e in
      let made = made_from (observer_with t o told.bean) (observer_of d.classes o) x told.is in
      subst P made.2 (inl (observer_is o made.0 made.1))
