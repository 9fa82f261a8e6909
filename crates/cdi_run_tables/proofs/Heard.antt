-- The observers that are told to hear an event are those that the machine asks for.
use Rattle.std.proofs.Common.{ℕ, ℤ, ◌≡◌, ◌∙◌, Bool, true, false, cond, not, List, [], ◌∷◌, ◌++◌, map, filter, Option, Some, None, option_map, option_and_then, refl, sym, ap}
use Rattle.std.specs.Prelude.{int_lt, fold}
use Rattle.std.specs.List.{cons_option, filter_map}
use Rattle.std.specs.Ordering.{int_eq}
use Rattle.std.proofs.lemmas.Option.{same_Some}
use Rattle.cdi_base.specs.declared.uses.Use.{Use}
use Rattle.cdi_bean_check.specs.Qualifiers.{full_uses}
use Rattle.cdi_beans.specs.declared.bean.ObserverMethod.{ObserverMethod}
use Rattle.cdi_deployment.specs.declared.deployment.Class.{Class}
use Rattle.cdi_deployment.specs.declared.deployment.Observer.{Observer}
use Rattle.cdi_machine.specs.Tables as machine
use Rattle.cdi_machine.specs.Words.{Name}
use Rattle.cdi_numbered_plans.specs.Machine as numbered
use Rattle.cdi_planner.specs.Observers.{observer_method, observer_of}
use Rattle.cdi_plans.specs.declared.plan.InjectedMethod.{InjectedMethod}
use Rattle.cdi_resolve.specs.Filters.{is_enabled}
use Rattle.cdi_event_tables.specs.Events as events
use Rattle.cdi_event_tables.specs.Ids.{id_in}
use Rattle.cdi_event_tables.specs.Events.{Group, groups_of, with_observer}
use Rattle.cdi_event_tables.specs.Observers as planned
use Rattle.cdi_event_tables.specs.Observers.{is_heard_by, managed_bean, member_of, planned_with, with_planned, with_told}
use Rattle.cdi_event_tables.specs.declared.observer_groups.ObserverGroup.{ObserverGroup}
use Rattle.cdi_event_tables.specs.declared.observers.PlannedObserver.{PlannedObserver}
use Rattle.cdi_event_tables.proofs.Grouped.{added, back, front, grouped, grouped_by_back, items, kept, told, told_of, with_item}
use Rattle.cdi_run_tables.specs.Machine as whole
use Rattle.cdi_run_tables.specs.Machine.{has_none, observers_of}
use Rattle.cdi_run_tables.specs.Observers.{heard_among, planned_groups}
use Rattle.cdi_run_tables.specs.Planned.{plan_tables}
use Rattle.cdi_run_tables.specs.Parts.{RunParts}

-- ---- groups as pairs

abbrev pub by_priority : Group → ℤ × List ObserverMethod
by_priority g = (g.priority, g.observers)

abbrev pub planned_by_priority : ObserverGroup → ℤ × List PlannedObserver
planned_by_priority g = (g.priority, g.observers)

abbrev pub ranked : ObserverMethod → ℤ × ObserverMethod
ranked o = (o.priority, o)

one_more : (o : ObserverMethod) (gs : List Group) → map by_priority (with_observer o gs) ≡ front o.priority o (map by_priority gs)
one_more o [] = refl
one_more o (g ∷ more) = by (int_eq o.priority g.priority) (int_lt o.priority g.priority) (one_more o more)
  where
    merged : Group
    merged = record { priority = g.priority; observers = o ∷ g.observers }

    alone : Group
    alone = record { priority = o.priority; observers = o ∷ [] }

    by : (b c : Bool) → map by_priority (with_observer o more) ≡ front o.priority o (map by_priority more)
        → map by_priority (cond b (merged ∷ more) (cond c (alone ∷ g ∷ more) (g ∷ with_observer o more)))
        ≡ cond b ((g.priority, o ∷ g.observers) ∷ map by_priority more) (cond c ((o.priority, o ∷ []) ∷ by_priority g ∷ map by_priority more) (by_priority g ∷ front o.priority o (map by_priority more)))
    by true c rec = refl
    by false true rec = refl
    by false false rec = ap (λ gs. by_priority g ∷ gs) rec

groups_are : (os : List ObserverMethod) → map by_priority (groups_of os) ≡ grouped (map ranked os)
groups_are [] = refl
groups_are (o ∷ os) = one_more o (groups_of os) ∙ ap (front o.priority o) (groups_are os)

one_planned : (p : ℤ) (o : PlannedObserver) (gs : List ObserverGroup) → map planned_by_priority (with_planned p o gs) ≡ back p o (map planned_by_priority gs)
one_planned p o [] = refl
one_planned p o (g ∷ more) = by (int_eq p g.priority) (int_lt p g.priority) (one_planned p o more)
  where
    merged : ObserverGroup
    merged = record { priority = g.priority; observers = g.observers ++ o ∷ [] }

    alone : ObserverGroup
    alone = record { priority = p; observers = o ∷ [] }

    by : (b c : Bool) → map planned_by_priority (with_planned p o more) ≡ back p o (map planned_by_priority more)
        → map planned_by_priority (cond b (merged ∷ more) (cond c (alone ∷ g ∷ more) (g ∷ with_planned p o more)))
        ≡ cond b ((g.priority, g.observers ++ o ∷ []) ∷ map planned_by_priority more) (cond c ((p, o ∷ []) ∷ planned_by_priority g ∷ map planned_by_priority more) (planned_by_priority g ∷ back p o (map planned_by_priority more)))
    by true c rec = refl
    by false true rec = refl
    by false false rec = ap (λ gs. planned_by_priority g ∷ gs) rec

-- the groups of what is planned
module _ (plan : ObserverMethod → Option PlannedObserver) where
  abbrev next : List ObserverGroup → ObserverMethod → List ObserverGroup
  next gs o = with_told o.priority (plan o) gs

  planned_from : (os : List ObserverMethod) (gs : List ObserverGroup) → map planned_by_priority (fold next gs os) ≡ fold added (map planned_by_priority gs) (items plan (map ranked os))
  planned_from [] gs = refl
  planned_from (o ∷ os) gs = by (plan o) (λ hs. planned_from os hs)
    where
      by : (m : Option PlannedObserver) → ((hs : List ObserverGroup) → map planned_by_priority (fold next hs os) ≡ fold added (map planned_by_priority hs) (items plan (map ranked os)))
          → map planned_by_priority (fold next (with_told o.priority m gs) os) ≡ fold added (map planned_by_priority gs) (with_item plan o.priority m (items plan (map ranked os)))
      by None rec = rec gs
      by (Some x) rec = rec (with_planned o.priority x gs) ∙ ap (λ hs. fold added hs (items plan (map ranked os))) (one_planned o.priority x gs)

  planned_are : (os : List ObserverMethod) → map planned_by_priority (fold next [] os) ≡ grouped (items plan (map ranked os))
  planned_are os = planned_from os [] ∙ grouped_by_back (items plan (map ranked os))

-- ---- what is told of groups

abbrev second : {Y : Type 0} → ℤ × List Y → List Y
second g = g.1

-- of the machine's groups
module _ {Y : Type 0} (k : ObserverMethod → Option Y) where
  told_is : (gs : List Group) → filter (λ group. not (has_none group)) (map (λ (g : Group). filter_map k g.observers) gs) ≡ map second (told k (map by_priority gs))
  told_is [] = refl
  told_is (g ∷ gs) = by (filter_map k g.observers) (told_is gs)
    where
      by : (ys : List Y) → filter (λ group. not (has_none group)) (map (λ (g : Group). filter_map k g.observers) gs) ≡ map second (told k (map by_priority gs))
          → cond (not (has_none ys)) (ys ∷ filter (λ group. not (has_none group)) (map (λ (g : Group). filter_map k g.observers) gs)) (filter (λ group. not (has_none group)) (map (λ (g : Group). filter_map k g.observers) gs))
          ≡ map second (kept k g.priority ys (told k (map by_priority gs)))
      by [] rec = rec
      by (y ∷ ys) rec = ap (λ rest. (y ∷ ys) ∷ rest) rec

-- of the planned ones
module _ (seen : PlannedObserver → machine.Observer) (hears : PlannedObserver → Bool) where
  abbrev shown : PlannedObserver → Option machine.Observer
  shown o = cond (hears o) (Some (seen o)) None

  shown_heard : (os : List PlannedObserver) → filter_map shown os ≡ map seen (filter hears os)
  shown_heard [] = refl
  shown_heard (o ∷ os) = by (hears o) (shown_heard os)
    where
      by : (b : Bool) → filter_map shown os ≡ map seen (filter hears os) → cons_option (cond b (Some (seen o)) None) (filter_map shown os) ≡ map seen (cond b (o ∷ filter hears os) (filter hears os))
      by true rec = ap (λ rest. seen o ∷ rest) rec
      by false rec = rec

  heard_told : (gs : List ObserverGroup) → map (map seen) (heard_among hears gs) ≡ map second (told shown (map planned_by_priority gs))
  heard_told [] = refl
  heard_told (g ∷ gs) =
      by (filter hears g.observers) (heard_told gs)
      ∙ ap (λ ys. map second (kept shown g.priority ys (told shown (map planned_by_priority gs)))) (sym (shown_heard g.observers))
    where
      by : (os : List PlannedObserver) → map (map seen) (heard_among hears gs) ≡ map second (told shown (map planned_by_priority gs))
          → map (map seen) (cond (not (has_none os)) (os ∷ heard_among hears gs) (heard_among hears gs))
          ≡ map second (kept shown g.priority (map seen os) (told shown (map planned_by_priority gs)))
      by [] rec = rec
      by (o ∷ os) rec = ap (λ rest. map seen (o ∷ os) ∷ rest) rec

-- ---- observer by observer

record AreAlike (seen : PlannedObserver → machine.Observer) (test : ObserverMethod → Bool) (k : ObserverMethod → Option machine.Observer) (plan : ObserverMethod → Option PlannedObserver) (hears : PlannedObserver → Bool) (o : ObserverMethod) : Type 0 where
  same : k o ≡ option_map seen (plan o)
  heard : (x : PlannedObserver) → plan o ≡ Some x → hears x ≡ test o

module _ (seen : PlannedObserver → machine.Observer) (test : ObserverMethod → Bool) (k : ObserverMethod → Option machine.Observer) (plan : ObserverMethod → Option PlannedObserver) (hears : PlannedObserver → Bool) (alike : (o : ObserverMethod) → AreAlike seen test k plan hears o) where
  same_items : (os : List ObserverMethod) → items k (map ranked (filter test os)) ≡ items (shown seen hears) (items plan (map ranked os))
  same_items [] = refl
  same_items (o ∷ os) = by (plan o) refl (test o) refl (same_items os)
    where
      rest : List ObserverMethod
      rest = filter test os

      told_on : (b : Bool) (m : Option machine.Observer) → k o ≡ m → items k (map ranked (cond b (o ∷ filter test os) (filter test os))) ≡ cond b (with_item k o.priority m (items k (map ranked (filter test os)))) (items k (map ranked (filter test os)))
      told_on true m e = ap (λ n. with_item k o.priority n (items k (map ranked (filter test os)))) e
      told_on false m e = refl

      by : (m : Option PlannedObserver) → plan o ≡ m → (b : Bool) → test o ≡ b → items k (map ranked (filter test os)) ≡ items (shown seen hears) (items plan (map ranked os))
          → items k (map ranked (cond b (o ∷ filter test os) (filter test os))) ≡ items (shown seen hears) (with_item plan o.priority m (items plan (map ranked os)))
      by None e true f rec = told_on true None ((alike o).same ∙ ap (option_map seen) e) ∙ rec
      by None e false f rec = rec
      by (Some x) e true f rec =
          told_on true (Some (seen x)) ((alike o).same ∙ ap (option_map seen) e)
          ∙ ap (λ r. (o.priority, seen x) ∷ r) rec
          ∙ ap (λ c. with_item (shown seen hears) o.priority (cond c (Some (seen x)) None) (items (shown seen hears) (items plan (map ranked os)))) (sym ((alike o).heard x e ∙ f))
      by (Some x) e false f rec =
          rec
          ∙ ap (λ c. with_item (shown seen hears) o.priority (cond c (Some (seen x)) None) (items (shown seen hears) (items plan (map ranked os)))) (sym ((alike o).heard x e ∙ f))

  same_groups : (os : List ObserverMethod) → map (map seen) (heard_among hears (fold (next plan) [] os))
      ≡ filter (λ group. not (has_none group)) (map (λ (g : Group). filter_map k g.observers) (groups_of (filter test os)))
  same_groups os =
      let all = map ranked os in
      let kept_ones = map ranked (filter test os) in
      heard_told seen hears (fold (next plan) [] os)
      ∙ ap (λ gs. map second (told (shown seen hears) gs)) (planned_are plan os)
      ∙ ap (map second) (told_of (shown seen hears) (items plan all))
      ∙ ap (λ is. map second (grouped is)) (sym (same_items os))
      ∙ ap (map second) (sym (told_of k kept_ones))
      ∙ ap (λ gs. map second (told k gs)) (sym (groups_are (filter test os)))
      ∙ sym (told_is k (groups_of (filter test os)))

-- ---- of a deployment

module _ (t : RunParts) (class : Name) (uses : List Use) where
  abbrev test_of : ObserverMethod → Bool
  test_of = events.hears t.tables.declared.types class (full_uses t.tables.declared.qualifiers uses)

  abbrev pub plan_of : ObserverMethod → Option PlannedObserver
  plan_of = planned.planned_observer (plan_tables t.deployment t.tables) t.tables.resolver t.ids

  abbrev pub of_bean : ObserverMethod → ℕ → Option PlannedObserver
  of_bean = planned.planned_of_bean (plan_tables t.deployment t.tables) t.tables.resolver t.ids

  abbrev pub hears_it : PlannedObserver → Bool
  hears_it = is_heard_by t.tables.declared class uses

  abbrev pub seen_of : PlannedObserver → machine.Observer
  seen_of o = numbered.machine_observer (id_in t.ids) o

  module _ (o : ObserverMethod) where
    planned_is : whole.machine_observer t o ≡ option_map seen_of (plan_of o)
    planned_is = by (managed_bean t.tables.resolver.beans o.bean)
      where
        declared : (bean : ℕ) (b : Bool) (d : Option (Class × Observer)) → cond b (option_map (whole.observer_with t o bean) d) None ≡ option_map seen_of (cond b (option_map (planned_with t.ids o bean) (option_map (observer_method t.tables.chains o.bean) d)) None)
        declared bean true (Some d) = refl
        declared bean true None = refl
        declared bean false d = refl

        by : (m : Option ℕ) → option_and_then (whole.observer_of_bean t o) m ≡ option_map seen_of (option_and_then (of_bean o) m)
        by None = refl
        by (Some bean) = declared bean (is_enabled t.tables.resolver.flags bean) (observer_of t.deployment.classes o)

    heard_alike : (x : PlannedObserver) → plan_of o ≡ Some x → hears_it x ≡ test_of o
    heard_alike x e = by (managed_bean t.tables.resolver.beans o.bean) e
      where
        of : (bean : ℕ) (member : InjectedMethod) → planned_with t.ids o bean member ≡ x → hears_it x ≡ test_of o
        of bean member is = sym (ap hears_it is)

        declared : (bean : ℕ) (b : Bool) (d : Option InjectedMethod) → cond b (option_map (planned_with t.ids o bean) d) None ≡ Some x → hears_it x ≡ test_of o
        declared bean true (Some member) is = of bean member (same_Some (planned_with t.ids o bean member) x is)
        declared bean true None is = absurd cc
        declared bean false d is = absurd cc

        by : (m : Option ℕ) → option_and_then (of_bean o) m ≡ Some x → hears_it x ≡ test_of o
        by None is = absurd cc
        by (Some bean) is = declared bean (is_enabled t.tables.resolver.flags bean) (member_of (plan_tables t.deployment t.tables) o) is

    alike_of : AreAlike seen_of test_of (whole.machine_observer t) plan_of hears_it o
    alike_of = record { same = planned_is; heard = heard_alike }

  pub heard_observers : map (map seen_of) (heard_among hears_it (planned_groups t)) ≡ observers_of t class uses
  heard_observers = same_groups seen_of test_of (whole.machine_observer t) plan_of hears_it alike_of t.tables.observers
