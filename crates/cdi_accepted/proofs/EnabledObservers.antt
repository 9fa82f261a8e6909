-- The machine has exactly the observers of enabled beans.
use Rattle.std.proofs.Common.{ℕ, ◌≡◌, ◌∙◌, ◌&&◌, inl, inr, Bool, true, false, cond, nat_eq, List, [], ◌∷◌, map, filter, Option, Some, None, refl, sym, ap, subst}
use Rattle.std.specs.Prelude.{option_and_then, option_map, slice_get, if◌then◌else◌}
use Rattle.std.proofs.lemmas.Bool.{and_from, and_parts, eq-eqb, eqb-true, true≢false}
use Rattle.std.proofs.lemmas.Option.{slice_get-map}
use Rattle.std.specs.List.{filter_map, find, position_or_len}
use Rattle.cdi_bean_check.specs.ManagedBeans.{is_bean}
use Rattle.cdi_beans.specs.Kinds.{is_managed}
use Rattle.cdi_beans.specs.ObserverMethods.{observer}
use Rattle.cdi_beans.specs.declared.bean.Bean.{Bean}
use Rattle.cdi_beans.specs.declared.bean.ObserverMethod.{ObserverMethod}
use Rattle.cdi_deployment.specs.declared.deployment.Class.{Class}
use Rattle.cdi_deployment.specs.declared.deployment.Deployment.{Deployment}
use Rattle.cdi_deployment.specs.declared.deployment.Member.{Member}
use Rattle.cdi_deployment.specs.declared.deployment.Member.TheVariants as members
use Rattle.cdi_deployment.specs.declared.deployment.Observer.{Observer}
use Rattle.cdi_enable.specs.Enablement.{IsEnabledBean, IsEnabledClass, enablement_of, listed_bean}
use Rattle.cdi_enable.specs.declared.listed_bean.ListedBean.{ListedBean}
use Rattle.cdi_machine.specs.Tables as machine
use Rattle.cdi_observers.proofs.Retained.{not_enabled}
use Rattle.cdi_planner.specs.Observers.{as_observer, observer_in, observer_of}
use Rattle.cdi_resolve.specs.Filters.{is_enabled}
use Rattle.cdi_resolve.specs.declared.bean_tables.BeanTables.{BeanTables}
use Rattle.cdi_event_tables.specs.Observers.{managed_bean}
use Rattle.cdi_run_tables.specs.Machine.{machine_observer, observer_of_bean, observer_with}
use Rattle.cdi_run_tables.specs.Planned.{IsTabled}
use Rattle.cdi_run_tables.specs.declared.tables.RunTables.{RunTables}
use Rattle.cdi_types.specs.Line.{class_named}
use Rattle.cdi_types.specs.Members.{members_of}
use Rattle.cdi_accepted.proofs.Lines.{front_of}
use Rattle.cdi_accepted.proofs.Lists.{Among, among_filter_map, given, of_filter}
use Rattle.cdi_accepted.proofs.Managed.{HasManaged, managed_of}
use Rattle.cdi_accepted.proofs.Members.{of_line}
use Rattle.cdi_accepted.proofs.Observing.{IsObserverIn, as_member, observer_in_list}
use Rattle.cdi_accepted.proofs.Positions.{IsFound, found_at, some_position}

found_some : {A : Type 0} (p : A → Bool) (xs : List A) (x : A) → Among x xs → p x ≡ true → (y : A) × (find p xs ≡ Some y)
found_some p [] x a e = absurd a
found_some {A} p (z ∷ zs) x a e = by (λ q. found_some p zs x q e) (p z) refl a
  where
    by : (Among x zs → (y : A) × (find p zs ≡ Some y)) → (b : Bool) → p z ≡ b → Among x (z ∷ zs) → (y : A) × (cond b (Some z) (find p zs) ≡ Some y)
    by rest true f q = (z, refl)
    by rest false f (inl same) = absurd (true≢false (sym e ∙ ap p same ∙ f))
    by rest false f (inr q) = rest q

-- whether the machine has an observer is told by whether its bean is enabled
pub data IsTold (t : RunTables) (o : ObserverMethod) : Type 0 where
  heard : (x : machine.Observer) → machine_observer t o ≡ Some x → IsEnabledClass t.tables.enabled o.bean true → IsTold t o
  silent : machine_observer t o ≡ None → (IsEnabledClass t.tables.enabled o.bean true → ⊥) → IsTold t o

module _ (t : RunTables) (tabled : IsTabled t) (o : ObserverMethod) (stands : Among o t.tables.observers) where
  abbrev d : Deployment
  d = t.deployment

  inside : IsObserverIn d tabled.tables.made.qualifiers (filter is_bean d.classes) o
  inside =
      let P : List ObserverMethod → Type 0 = λ os. Among o os in
      observer_in_list d tabled.tables.made.qualifiers (filter is_bean d.classes) tabled.tables.list.observers tabled.tables.made.is.observers o
      (subst P (ap (λ (s : BeanTables). s.observers) tabled.tables.are.are) stands)

  -- its class declares it
  declared : (p : Class × Observer) × (observer_of d.classes o ≡ Some p)
  declared =
      let c = inside.declared.0 in
      let x = inside.declared.1 in
      let from = given observer inside.has inside.declared inside.stands in
      let P : List (Class × Member) → Type 0 = λ ms. Among from.item ms in
      let Q : Class × Member → Type 0 = λ p. Among p (members_of inside.are.line) in
      let there = subst Q (as_member from.item inside.declared from.is) (subst P inside.are.are from.stands) in
      let of = of_line inside.are.line c (members.Observer x) there in
      let front = front_of d tabled.tables.made.names_well inside.bean.name inside.are.line inside.are.is_line c of.class in
      let found = found_some (λ (k : Observer). nat_eq k.name o.name) (filter_map as_observer c.members) x (among_filter_map as_observer c.members (members.Observer x) x of.member refl) (eq-eqb x.name o.name (sym inside.is.name)) in (
        (c, found.0),
        ap (λ (k : ℕ). option_and_then (observer_in o.name) (class_named d.classes k)) inside.is.of_class
            ∙ ap (option_and_then (observer_in o.name)) front.named
            ∙ ap (option_map (λ (y : Observer). (c, y))) found.1,
      )

  abbrev test : Bean → Bool
  test b = is_managed b.kind && nat_eq b.class o.bean

  abbrev beans : List Bean
  beans = t.tables.resolver.beans

  abbrev n : ℕ
  n = position_or_len test beans

  -- the managed bean of its class is in the list
  at : managed_bean beans o.bean ≡ Some n
  at =
      let listed = of_filter is_bean d.classes inside.bean inside.listed in
      let made = tabled.tables.made in
      let P : List Bean → Type 0 = λ l. HasManaged l inside.bean.name in
      let bean : HasManaged beans inside.bean.name =
      subst P (sym (ap (λ (s : BeanTables). s.resolver.beans) tabled.tables.are.are)) (managed_of d made.qualifiers tabled.tables.list.beans made.is.beans inside.bean listed.0 listed.1) in
      some_position test beans bean.bean bean.stands
      (and_from (is_managed bean.bean.kind) (nat_eq bean.bean.class o.bean) (ap is_managed bean.kind) (eq-eqb bean.bean.class o.bean (bean.of_class ∙ sym inside.is.of_bean)))

  -- its flag says whether it is enabled
  flag : IsEnabledClass t.tables.enabled o.bean (is_enabled t.tables.resolver.flags n)
  flag =
      let list = tabled.tables.list in
      let found : IsFound test beans n = found_at test beans n at in
      let both = and_parts (is_managed found.item.kind) (nat_eq found.item.class o.bean) found.passes in
      let P : List Bean → Type 0 = λ l. slice_get l n ≡ Some found.item in
      let listed : slice_get list.beans n ≡ Some found.item = subst P (ap (λ (s : BeanTables). s.resolver.beans) tabled.tables.are.are) found.has in
      let of_list : slice_get (map listed_bean list.beans) n ≡ Some (listed_bean found.item) = slice_get-map listed_bean list.beans n ∙ ap (option_map listed_bean) listed in
      let E : Option ListedBean → Type 0 = λ b. IsEnabledBean (enablement_of list) b (is_enabled t.tables.resolver.flags n) in
      let C : ℕ → Type 0 = λ c. IsEnabledClass (enablement_of list) c (is_enabled t.tables.resolver.flags n) in
      let own : C o.bean = subst C (eqb-true found.item.class o.bean both.1) (subst E of_list (tabled.tables.are.flags.each n)) in
      subst (λ e. IsEnabledClass e o.bean (is_enabled t.tables.resolver.flags n)) (sym (ap (λ (s : BeanTables). s.enabled) tabled.tables.are.are)) own

  pub told : IsTold t o
  told = by (is_enabled t.tables.resolver.flags n) refl
    where
      at_bean : (b : Bool) → is_enabled t.tables.resolver.flags n ≡ b → machine_observer t o ≡ (if b then option_map (observer_with t o n) (observer_of d.classes o) else None)
      at_bean b e =
          ap (option_and_then (observer_of_bean t o)) at
          ∙ ap (λ (k : Bool). if k then option_map (observer_with t o n) (observer_of d.classes o) else None) e

      by : (b : Bool) → is_enabled t.tables.resolver.flags n ≡ b → IsTold t o
      by true e = IsTold.heard (observer_with t o n declared.0) (at_bean true e ∙ ap (option_map (observer_with t o n)) declared.1) (subst (IsEnabledClass t.tables.enabled o.bean) e flag)
      by false e = IsTold.silent (at_bean false e) (not_enabled t.tables.enabled o.bean (subst (IsEnabledClass t.tables.enabled o.bean) e flag))
