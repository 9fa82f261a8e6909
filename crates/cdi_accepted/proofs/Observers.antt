-- The observers of enabled beans fit.
use Rattle.std.proofs.Common.{ℕ, ◌≡◌, ◌∙◌, not, inl, inr, Bool, true, false, cond, nat_eq, List, [], ◌∷◌, map, filter, Option, Some, None, refl, sym, ap, subst}
use Rattle.std.specs.Prelude.{int_lt, option_and_then, option_map}
use Rattle.std.specs.Ordering.{int_eq}
use Rattle.std.proofs.lemmas.Bool.{eqb-true}
use Rattle.std.proofs.lemmas.Option.{same_Some}
use Rattle.std.specs.List.{AllByRecursion, filter_map}
use Rattle.cdi_base.specs.declared.uses.Use.{Use}
use Rattle.cdi_bean_check.specs.ManagedBeans.{is_bean}
use Rattle.cdi_beans.specs.ObserverMethods.{observer}
use Rattle.cdi_beans.specs.declared.bean.ObserverMethod.{ObserverMethod}
use Rattle.cdi_bodies.specs.Gives.{LieInShape, lookups_of}
use Rattle.cdi_bodies.specs.declared.entry.Entry.{Entry}
use Rattle.cdi_body_check.specs.Shapes.{shape_of}
use Rattle.cdi_check.specs.Accepted.{AreBodiesSound}
use Rattle.cdi_check.specs.Tables.{setting_by}
use Rattle.cdi_deployment.specs.declared.deployment.Class.{Class}
use Rattle.cdi_deployment.specs.declared.deployment.Deployment.{Deployment}
use Rattle.cdi_deployment.specs.declared.deployment.Member.{Member}
use Rattle.cdi_deployment.specs.declared.deployment.Member.TheVariants as members
use Rattle.cdi_deployment.specs.declared.deployment.Observer.{Observer}
use Rattle.cdi_machine.specs.Registered.{legal_of}
use Rattle.cdi_machine.specs.Runs.{Legal}
use Rattle.cdi_machine.specs.Tables as machine
use Rattle.cdi_machine.specs.Words.{Name}
use Rattle.cdi_types.proofs.Lines.{one_line}
use Rattle.cdi_types.specs.Line.{IsLineOf, class_named}
use Rattle.cdi_types.specs.Members.{members_of}
use Rattle.cdi_planner.specs.Codes.{injected_method}
use Rattle.cdi_planner.specs.Observers.{as_observer, observer_in, observer_named, observer_of}
use Rattle.cdi_resolve.specs.declared.bean_tables.BeanTables.{BeanTables}
use Rattle.cdi_run_tables.specs.Machine.{AreIdsOf, bean_with, has_none, hearers, id_of, machine_member, machine_observer, machine_tables, observer_with, observers_of}
use Rattle.cdi_run_tables.specs.Planned.{IsTabled}
use Rattle.cdi_run_tables.specs.Texts.{has_texts}
use Rattle.cdi_run_tables.specs.declared.tables.RunTables.{RunTables}
use Rattle.cdi_types.specs.Declarations.{declarations_of}
use Rattle.cdi_whole.specs.Fits.{FitsManaged, FitsMember, FitsObserver}
use Rattle.cdi_event_tables.specs.Events.{Group, groups_of, new_group, with_observer}
use Rattle.cdi_accepted.proofs.Lists.{Among, found_among, given, mapped, of_filter}
use Rattle.cdi_accepted.proofs.Members.{IsOfLine, of_line}
use Rattle.cdi_accepted.proofs.Observing.{IsObserverIn, as_member, observer_in_list, of_as_observer}
use Rattle.cdi_accepted.proofs.Enabled.{IsManagedAt, is_told, made_from, managed_at}
use Rattle.cdi_accepted.proofs.Methods.{apart, front, known, managed}
use Rattle.cdi_accepted.proofs.Ready.{all_of, class_fits, member_is_fit}

-- ---- groups

-- an observer of a group is the one that was added, or stood in one before
data IsOld (x o : ObserverMethod) (gs : List Group) : Type 0 where
  new : o ≡ x → IsOld x o gs
  old : (h : Group) → Among h gs → Among o h.observers → IsOld x o gs

of_new : (x o : ObserverMethod) (g : Group) (gs : List Group) → g ≡ new_group x → Among o g.observers → IsOld x o gs
of_new x o g gs e a = by (subst (λ (h : Group). Among o h.observers) e a)
  where
    by : Among o (x ∷ []) → IsOld x o gs
    by (inl same) = IsOld.new same
    by (inr never) = absurd never

one_added : (x o : ObserverMethod) (g : Group) (gs : List Group) → Among g (with_observer x gs) → Among o g.observers → IsOld x o gs
one_added x o g [] (inl e) a = of_new x o g [] e a
one_added x o g [] (inr never) a = absurd never
one_added x o g (h ∷ more) s a = by (int_eq x.priority h.priority) (int_lt x.priority h.priority) (λ q. one_added x o g more q a) s
  where
    merged : Group
    merged = record { priority = h.priority; observers = x ∷ h.observers }

    in_merged : Among o (x ∷ h.observers) → IsOld x o (h ∷ more)
    in_merged (inl e) = IsOld.new e
    in_merged (inr q) = IsOld.old h (inl refl) q

    later : IsOld x o more → IsOld x o (h ∷ more)
    later (IsOld.new e) = IsOld.new e
    later (IsOld.old k q r) = IsOld.old k (inr q) r

    by : (b c : Bool) → (Among g (with_observer x more) → IsOld x o more)
        → Among g (cond b (record { priority = h.priority; observers = x ∷ h.observers } ∷ more) (cond c (new_group x ∷ h ∷ more) (h ∷ with_observer x more))) → IsOld x o (h ∷ more)
    by true c rec (inl e) = in_merged (subst (λ (k : Group). Among o k.observers) e a)
    by true c rec (inr q) = IsOld.old g (inr q) a
    by false true rec (inl e) = of_new x o g (h ∷ more) e a
    by false true rec (inr q) = IsOld.old g q a
    by false false rec (inl e) = IsOld.old g (inl e) a
    by false false rec (inr q) = later (rec q)

in_groups : (os : List ObserverMethod) (g : Group) (o : ObserverMethod) → Among g (groups_of os) → Among o g.observers → Among o os
in_groups [] g o s a = absurd s
in_groups (x ∷ os) g o s a = by (λ h. in_groups os h o) (one_added x o g (groups_of os) s a)
  where
    by : ((h : Group) → Among h (groups_of os) → Among o h.observers → Among o os) → IsOld x o (groups_of os) → Among o (x ∷ os)
    by rec (IsOld.new e) = inl e
    by rec (IsOld.old h q r) = inr (rec h q r)

-- each observer of the tables is one that a class declares
pub observer_inside : (t : RunTables) (tabled : IsTabled t) (o : ObserverMethod) → Among o t.tables.observers → IsObserverIn t.deployment tabled.tables.made.qualifiers (filter is_bean t.deployment.classes) o
observer_inside t tabled o stands =
    let d = t.deployment in
    let P : List ObserverMethod → Type 0 = λ os. Among o os in
    let observers_are : t.tables.observers ≡ tabled.tables.list.observers = ap (λ (s : BeanTables). s.observers) tabled.tables.are.are in
    observer_in_list d tabled.tables.made.qualifiers (filter is_bean d.classes) tabled.tables.list.observers tabled.tables.made.is.observers o (subst P observers_are stands)

module _ {X : Type 0} {F : X → Type 0} {g : _} (entries : List (Entry X F g)) (t : RunTables) (tabled : IsTabled t) (ids : AreIdsOf entries t)
    (sound : AreBodiesSound t.deployment (shape_of entries) (setting_by t.deployment t.tables)) where
  module _ (o : ObserverMethod) (n : ℕ) (at : IsManagedAt t n o.bean) (inside : IsObserverIn t.deployment tabled.tables.made.qualifiers (filter is_bean t.deployment.classes) o) where
    -- it stands among the members of the bean
    pub observer_stands : Among (inside.declared.0, members.Observer inside.declared.1) (members_of at.plan.line)
    observer_stands =
        let from = given observer inside.has inside.declared inside.stands in
        let P : ℕ → Type 0 = λ k. IsLineOf (declarations_of t.deployment) t.deployment.classes k inside.are.line in
        let mine = subst P (sym (at.of_class ∙ inside.is.of_bean)) inside.are.is_line in
        let same : inside.are.line ≡ at.plan.line = one_line (declarations_of t.deployment) t.deployment.classes at.listed.class inside.are.line at.plan.line mine at.plan.is_line in
        let Q : List (Class × Member) → Type 0 = λ ms. Among from.item ms in
        let R : Class × Member → Type 0 = λ p. Among p (members_of at.plan.line) in
        subst R (as_member from.item inside.declared from.is) (subst Q (inside.are.are ∙ ap members_of same) from.stands)

    -- the one that its class declares is that one
    pub declared_is : (found : Class × Observer) → observer_of t.deployment.classes o ≡ Some found → found ≡ inside.declared
    declared_is found e = by (observer_named o.name inside.declared.0.members) refl (sym at_class ∙ e)
      where
        of : IsOfLine at.plan.line inside.declared.0 (members.Observer inside.declared.1)
        of = of_line at.plan.line inside.declared.0 (members.Observer inside.declared.1) observer_stands

        at_class : observer_of t.deployment.classes o ≡ observer_in o.name inside.declared.0
        at_class =
            ap (λ (k : ℕ). option_and_then (observer_in o.name) (class_named t.deployment.classes k)) inside.is.of_class
            ∙ ap (option_and_then (observer_in o.name)) (front entries t tabled ids sound n at.listed at.enabled at.plan inside.declared.0 of.class).named

        by : (k : Option Observer) → observer_named o.name inside.declared.0.members ≡ k → option_map (λ (x : Observer). (inside.declared.0, x)) k ≡ Some found → found ≡ inside.declared
        by None is h = absurd cc
        by (Some x) is h =
            let first = found_among (λ (k : Observer). nat_eq k.name o.name) (filter_map as_observer inside.declared.0.members) x is in
            let member = given as_observer inside.declared.0.members x first.0 in
            let P : Member → Type 0 = λ m. Among m inside.declared.0.members in
            let there : Among (members.Observer x) inside.declared.0.members = subst P (of_as_observer member.item x member.is) member.stands in
            let name : x.name ≡ inside.declared.1.name = eqb-true x.name o.name first.1 ∙ inside.is.name in
            let one = (apart entries t tabled ids sound n at.listed at.enabled at.plan inside.declared.0 of.class).members (members.Observer x) (members.Observer inside.declared.1) there of.member name in
            let same : x ≡ inside.declared.1 = same_observer x inside.declared.1 one in
            sym (same_Some (inside.declared.0, x) found h) ∙ ap (λ (k : Observer). (inside.declared.0, k)) same
          where
            same_observer : (x y : Observer) → members.Observer x ≡ members.Observer y → x ≡ y
            same_observer x y e = cc

module _ {X : Type 0} {F : X → Type 0} {g : _} (entries : List (Entry X F g)) (lies : LieInShape entries) (t : RunTables) (tabled : IsTabled t) (lookups : t.lookups ≡ lookups_of entries) (ids : AreIdsOf entries t)
    (sound : AreBodiesSound t.deployment (shape_of entries) (setting_by t.deployment t.tables)) (texts : has_texts t.deployment ≡ true) where
  abbrev d : Deployment
  d = t.deployment

  abbrev T : machine.Tables
  T = machine_tables t

  abbrev L : Legal
  L = legal_of entries

  pub class_at : (n class : ℕ) (at : IsManagedAt t n class) → FitsManaged T L n (managed entries t tabled ids sound n at.listed at.enabled at.plan)
  class_at n class at =
      record {
        is =
            record {
              bean = bean_with at.plan.planned (machine.Kind.Class (managed entries t tabled ids sound n at.listed at.enabled at.plan));
              known = known entries t tabled ids sound n at.listed at.enabled at.plan;
              is = refl;
            };
        fits = class_fits entries lies t tabled lookups ids sound texts n at.listed at.enabled at.plan at.kind;
      }

  module _ (o : ObserverMethod) (n : ℕ) (at : IsManagedAt t n o.bean) (inside : IsObserverIn d tabled.tables.made.qualifiers (filter is_bean d.classes) o) where
    observer_at : (found : Class × Observer) → observer_of d.classes o ≡ Some found → FitsObserver T L (observer_with t o n found)
    observer_at found e =
        let own = managed entries t tabled ids sound n at.listed at.enabled at.plan in
        let c = inside.declared.0 in
        let x = inside.declared.1 in
        let fit = member_is_fit entries lies t tabled lookups ids sound texts n at.listed at.enabled at.plan c (members.Observer x) x.body refl (observer_stands entries t tabled ids sound o n at inside) in
        let P : ℕ → Type 0 = λ k. FitsMember T L own (machine_member (id_of t) (injected_method t.tables.chains k c x.name x.body x.params)) in
        let Q : Class × Observer → Type 0 = λ p. FitsObserver T L (observer_with t o n p) in
        subst Q (sym (declared_is entries t tabled ids sound o n at inside found e)) (record { class = own; observes = class_at n o.bean at; member = subst P at.of_class fit })

  one_observer : (o : ObserverMethod) → Among o t.tables.observers → (x : machine.Observer) → machine_observer t o ≡ Some x → FitsObserver T L x
  one_observer o stands x e =
      let told = is_told t o.bean (λ n. option_map (observer_with t o n) (observer_of d.classes o)) x e in
      let made = made_from (observer_with t o told.bean) (observer_of d.classes o) x told.is in
      subst (λ y. FitsObserver T L y) made.2 (observer_at o told.bean (managed_at t tabled told.bean o.bean told.found told.on) (observer_inside t tabled o stands) made.0 made.1)

  pub observed : (class : Name) (qualifiers : List Use) → AllByRecursion (AllByRecursion (FitsObserver T L)) (observers_of t class qualifiers)
  observed class qualifiers =
      all_of (AllByRecursion (FitsObserver T L)) (observers_of t class qualifiers) (λ xs a. in_group xs a)
    where
      in_group : (xs : List machine.Observer) → Among xs (observers_of t class qualifiers) → AllByRecursion (FitsObserver T L) xs
      in_group xs a =
          let kept = of_filter (λ group. not (has_none group)) (map (λ (g : Group). filter_map (machine_observer t) g.observers) (groups_of (hearers t class qualifiers))) xs a in
          let group = mapped (λ (g : Group). filter_map (machine_observer t) g.observers) (groups_of (hearers t class qualifiers)) xs kept.0 in
          all_of (FitsObserver T L) xs
          (λ x b.
          let P : List machine.Observer → Type 0 = λ l. Among x l in
          let from = given (machine_observer t) group.item.observers x (subst P group.is b) in
          let there = in_groups (hearers t class qualifiers) group.item from.item group.stands from.stands in
          one_observer from.item (of_filter _ t.tables.observers from.item there).0 x from.is)
