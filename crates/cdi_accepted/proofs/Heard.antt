-- The machine hears the groups of the table of a deployment's observers.
use Rattle.std.proofs.Common.{ℕ, ℤ, ◌≡◌, ◌≢◌, ◌∙◌, ◌+◌, ◌↔◌, inl, inr, Bool, true, false, cond, not, List, [], ◌∷◌, map, filter, Option, Some, refl, sym, ap, subst}
use Rattle.std.specs.Prelude.{option_and_then, slice_get}
use Rattle.std.proofs.lemmas.Bool.{and_from, and_parts, true≢false}
use Rattle.std.proofs.lemmas.Bool.Decides.{Decides-int_eq}
use Rattle.std.proofs.lemmas.Cmp.{int_cmp_total}
use Rattle.std.proofs.lemmas.List.Kept.{IsStrictlySortedBy-filter}
use Rattle.std.specs.FinMap.{int_cmp-IsAntisymmetric}
use Rattle.std.specs.List.{AllByRecursion, Contains, cons_option, enumerate_from, filter_map}
use Rattle.std.specs.Ordering.{int_cmp, int_eq}
use Rattle.cdi_base.specs.declared.uses.Use.{Use}
use Rattle.cdi_bean_check.specs.Qualifiers.{full_uses}
use Rattle.cdi_beans.specs.declared.bean.ObserverMethod.{ObserverMethod}
use Rattle.cdi_enable.specs.Enablement.{IsEnabledClass}
use Rattle.cdi_machine.specs.Tables as machine
use Rattle.cdi_name_check.proofs.SoundTypes.{sound_types}
use Rattle.cdi_observers.proofs.Groupings.{AreGroupsBy, has_priority, with_priority}
use Rattle.cdi_observers.proofs.HeardGroups.{grouped}
use Rattle.cdi_observers.proofs.Rising.{same_rising}
use Rattle.cdi_observers.specs.Groups.{AreGroupsOf}
use Rattle.cdi_observers.specs.declared.group.ObserverGroup.{ObserverGroup}
use Rattle.cdi_observers.specs.Observers.{Hears, IsTableOf, ObserverTable, any}
use Rattle.cdi_quals.specs.Qualifiers.{has_all}
use Rattle.cdi_quals.specs.declared.qualifier.Qualifier.{Qualifier}
use Rattle.cdi_event_tables.specs.Events.{Group, hears, is_subtype}
use Rattle.cdi_run_tables.specs.Machine.{has_none, machine_observer, machine_tables}
use Rattle.cdi_run_tables.specs.Planned.{IsTabled}
use Rattle.cdi_run_tables.specs.declared.tables.RunTables.{RunTables}
use Rattle.cdi_types.specs.ListsThose.{ListsThose}
use Rattle.cdi_types.specs.Subtype.{IsAcyclic, IsSubtype}
use Rattle.cdi_types.specs.declared.declaration.TypeDeclaration.{TypeDeclaration}
use Rattle.cdi_accepted.proofs.Beans.{place_of}
use Rattle.cdi_accepted.proofs.Lists.{Among, among_contains, among_filter, among_filter_map, among_map, contains_among, mapped, of_filter}
use Rattle.cdi_accepted.proofs.EnabledObservers.{IsTold, told}
use Rattle.cdi_accepted.proofs.Grouped.{group_of, groups_by_priority, of_priority, priorities, priority}
use Rattle.cdi_event_tables.proofs.Inserted.{order_rises, to_order}
use Rattle.cdi_accepted.proofs.Subtypes.{subtypes_are}
use Rattle.cdi_accepted.specs.Ties.{GroupsAre, machine_group}

-- ---- lists

some_item : {A : Type 0} (xs : List A) → has_none xs ≡ false → xs ≢ []
some_item xs e none = true≢false (sym (ap has_none none) ∙ e)

not_none : {A : Type 0} (xs : List A) (x : A) → Among x xs → has_none xs ≡ false
not_none [] x a = absurd a
not_none (y ∷ ys) x a = refl

filter_mapped : {A B : Type 0} (f : A → B) (p : B → Bool) (xs : List A) → filter p (map f xs) ≡ map f (filter (λ x. p (f x)) xs)
filter_mapped f p [] = refl
filter_mapped {A} f p (x ∷ xs) = by (p (f x)) (filter_mapped f p xs)
  where
    by : (b : Bool) → filter p (map f xs) ≡ map f (filter (λ x. p (f x)) xs) → cond b (f x ∷ filter p (map f xs)) (filter p (map f xs)) ≡ map f (cond b (x ∷ filter (λ y. p (f y)) xs) (filter (λ y. p (f y)) xs))
    by true e = ap (λ l. f x ∷ l) e
    by false e = e

mapped_twice : {A B C : Type 0} (f : B → C) (g : A → B) (xs : List A) → map f (map g xs) ≡ map (λ x. f (g x)) xs
mapped_twice f g [] = refl
mapped_twice f g (x ∷ xs) = ap (λ l. f (g x) ∷ l) (mapped_twice f g xs)

mapped_alike : {A B : Type 0} (f g : A → B) (xs : List A) → AllByRecursion (λ x. f x ≡ g x) xs → map f xs ≡ map g xs
mapped_alike f g [] all = refl
mapped_alike f g (x ∷ xs) all = ap (λ y. y ∷ map f xs) all.0 ∙ ap (λ l. g x ∷ l) (mapped_alike f g xs all.1)

one_of_those : {A : Type 0} {P : A → Type 0} {xs those : List A} (x : A) → ListsThose P xs those → Among x those → Among x xs × P x
one_of_those x ListsThose.none a = absurd a
one_of_those {P = P} x (ListsThose.keep p rest) (inl e) = (inl e, subst P (sym e) p)
one_of_those x (ListsThose.keep p rest) (inr a) = let more = one_of_those x rest a in (inr more.0, more.1)
one_of_those x (ListsThose.skip n rest) a = let more = one_of_those x rest a in (inr more.0, more.1)

second : {A : Type 0} (k : ℕ) (xs : List A) → map (λ (q : ℕ × A). q.1) (enumerate_from k xs) ≡ xs
second k [] = refl
second k (x ∷ xs) = ap (λ l. x ∷ l) (second (k + 1) xs)

all_among : {A : Type 0} (P : A → Type 0) (xs : List A) → ((x : A) → Among x xs → P x) → AllByRecursion P xs
all_among P [] each = tt
all_among P (x ∷ xs) each = (each x (inl refl), all_among P xs (λ y a. each y (inr a)))

each_mapped : {A : Type 0} (P : A → Type 0) (Q : A → Type 0) (xs : List A) → ((x : A) → P x → Q x) → AllByRecursion P xs → AllByRecursion Q xs
each_mapped P Q [] f all = tt
each_mapped P Q (x ∷ xs) f all = (f x all.0, each_mapped P Q xs f all.1)

-- ---- those of a priority that hear, as the machine has them

module _ (t : RunTables) (test : ObserverMethod → Bool) (p : ℤ) where
  abbrev mo : ObserverMethod → Option machine.Observer
  mo = machine_observer t

  abbrev pub heard_at : List ObserverMethod → List machine.Observer
  heard_at os = filter_map mo (of_priority p (filter test os))

  step : (o : ObserverMethod) (os : List ObserverMethod) → heard_at (o ∷ os) ≡ cond (test o) (cond (int_eq o.priority p) (cons_option (mo o) (heard_at os)) (heard_at os)) (heard_at os)
  step o os = by (test o)
    where
      inner : (b : Bool) → filter_map mo (cond b (o ∷ of_priority p (filter test os)) (of_priority p (filter test os))) ≡ cond b (cons_option (mo o) (heard_at os)) (heard_at os)
      inner true = refl
      inner false = refl

      by : (b : Bool) → filter_map mo (of_priority p (cond b (o ∷ filter test os) (filter test os))) ≡ cond b (cond (int_eq o.priority p) (cons_option (mo o) (heard_at os)) (heard_at os)) (heard_at os)
      by true = inner (int_eq o.priority p)
      by false = refl

  -- those whose beans aren't enabled make no difference
  enabled_alone : (os those : List ObserverMethod) → ListsThose (λ (o : ObserverMethod). IsEnabledClass t.tables.enabled o.bean true) os those → AllByRecursion (IsTold t) os → heard_at os ≡ heard_at those
  enabled_alone os those ListsThose.none all = refl
  enabled_alone os those (ListsThose.keep {x = o} {xs = more} {found = found} e rest) all =
      let same = enabled_alone more found rest all.1 in
      step o more
      ∙ ap (λ l. cond (test o) (cond (int_eq o.priority p) (cons_option (mo o) l) l) l) same
      ∙ sym (step o found)
  enabled_alone os those (ListsThose.skip {x = o} {xs = more} {found = found} n rest) all =
      step o more ∙ by all.0 ∙ enabled_alone more found rest all.1
    where
      always : (b c : Bool) (l : List machine.Observer) → cond b (cond c l l) l ≡ l
      always true true l = refl
      always true false l = refl
      always false c l = refl

      by : IsTold t o → cond (test o) (cond (int_eq o.priority p) (cons_option (mo o) (heard_at more)) (heard_at more)) (heard_at more) ≡ heard_at more
      by (IsTold.heard x e on) = absurd (n on)
      by (IsTold.silent e off) =
          ap (λ k. cond (test o) (cond (int_eq o.priority p) (cons_option k (heard_at more)) (heard_at more)) (heard_at more)) e
          ∙ always (test o) (int_eq o.priority p) (heard_at more)

  -- those at places of the table
  at_places : (table : List ObserverMethod) (P : ℕ × ObserverMethod → Type 0) → ((q : ℕ × ObserverMethod) → (test q.1 ≡ true) ↔ P q) → (all heard : List (ℕ × ObserverMethod)) → ListsThose P all heard
      → AllByRecursion (λ q. slice_get table q.0 ≡ Some q.1) all
      → filter_map (λ i. option_and_then mo (slice_get table i)) (map (λ q. q.0) (filter (λ q. int_eq q.1.priority p) heard)) ≡ heard_at (map (λ q. q.1) all)
  at_places table P tells all heard ListsThose.none placed = refl
  at_places table P tells all heard (ListsThose.keep {x = q} {xs = more} {found = found} h rest) placed =
      by (int_eq q.1.priority p)
      ∙ ap (λ l. cond (int_eq q.1.priority p) (cons_option (mo q.1) l) l) (at_places table P tells more found rest placed.1)
      ∙ sym (step q.1 (map (λ k. k.1) more) ∙ ap (λ b. cond b (cond (int_eq q.1.priority p) (cons_option (mo q.1) (heard_at (map (λ k. k.1) more))) (heard_at (map (λ k. k.1) more))) (heard_at (map (λ k. k.1) more))) ((tells q).1 h))
    where
      there : ℕ → Option machine.Observer
      there i = option_and_then mo (slice_get table i)

      behind : List machine.Observer
      behind = filter_map there (map (λ k. k.0) (filter (λ k. int_eq k.1.priority p) found))

      by : (b : Bool) → filter_map there (map (λ k. k.0) (cond b (q ∷ filter (λ k. int_eq k.1.priority p) found) (filter (λ k. int_eq k.1.priority p) found))) ≡ cond b (cons_option (mo q.1) behind) behind
      by true = ap (λ o. cons_option (option_and_then mo o) behind) placed.0
      by false = refl
  at_places table P tells all heard (ListsThose.skip {x = q} {xs = more} {found = found} n rest) placed =
      at_places table P tells more found rest placed.1
      ∙ sym (step q.1 (map (λ k. k.1) more) ∙ by (test q.1) refl)
    where
      by : (b : Bool) → test q.1 ≡ b → cond b (cond (int_eq q.1.priority p) (cons_option (mo q.1) (heard_at (map (λ k. k.1) more))) (heard_at (map (λ k. k.1) more))) (heard_at (map (λ k. k.1) more)) ≡ heard_at (map (λ k. k.1) more)
      by true e = absurd (n ((tells q).0 e))
      by false e = refl

-- ---- the groups

abbrev own_priority : ℕ × ObserverMethod → ℤ
own_priority q = q.1.priority

module _ (t : RunTables) (tabled : IsTabled t) (table : ObserverTable) (is_table : IsTableOf t.tables.declared.types t.tables.observers t.tables.enabled table)
    (class : ℕ) (uses : List Use) (groups : List ObserverGroup) (are : AreGroupsOf table class (full_uses t.tables.declared.qualifiers uses) groups) where
  abbrev qualifiers : List Qualifier
  qualifiers = full_uses t.tables.declared.qualifiers uses

  abbrev types : List TypeDeclaration
  types = t.tables.declared.types

  abbrev test : ObserverMethod → Bool
  test = hears types class qualifiers

  abbrev observers : List ObserverMethod
  observers = t.tables.observers

  acyclic : IsAcyclic types
  acyclic =
      let P : List TypeDeclaration → Type 0 = IsAcyclic in
      subst P (sym tabled.tables.are.declared.types) (sound_types t.deployment tabled.tables.made.names_well).acyclic

  tells : (q : ℕ × ObserverMethod) → (test q.1 ≡ true) ↔ Hears table.types class qualifiers q.1
  tells q =
      let o = q.1 in
      let P : List TypeDeclaration → Type 0 = λ l. IsSubtype l class o.ty in
      let sub = subtypes_are types acyclic class o.ty in (
        λ e. (let both = and_parts (is_subtype types class o.ty) (has_all (any ∷ qualifiers) o.qualifiers) e in record { type = subst P (sym is_table.types_are) (sub.0 both.0); had = both.1 }),
        λ h. and_from (is_subtype types class o.ty) (has_all (any ∷ qualifiers) o.qualifiers) (sub.1 (subst P is_table.types_are h.type)) h.had,
      )

  all_told : AllByRecursion (IsTold t) observers
  all_told = all_among (IsTold t) observers (λ o a. told t tabled o a)

  all_placed : AllByRecursion (λ (q : ℕ × ObserverMethod). slice_get table.observers q.0 ≡ Some q.1) (enumerate_from 0 table.observers)
  all_placed = all_among (λ (q : ℕ × ObserverMethod). slice_get table.observers q.0 ≡ Some q.1) (enumerate_from 0 table.observers) (λ q a. place_of table.observers q.0 q.1 a)

  abbrev heard : List (ℕ × ObserverMethod)
  heard = are.heard

  abbrev there : ℕ → Option machine.Observer
  there i = option_and_then (machine_observer t) (slice_get table.observers i)

  -- those of one priority
  same_at : (p : ℤ) → filter_map there (with_priority own_priority (λ (q : ℕ × ObserverMethod). q.0) heard p) ≡ heard_at t test p observers
  same_at p =
      at_places t test p table.observers (λ q. Hears table.types class qualifiers q.1) tells (enumerate_from 0 table.observers) heard are.hear all_placed
      ∙ ap (heard_at t test p) (second 0 table.observers)
      ∙ sym (enabled_alone t test p observers table.observers is_table.enabled all_told)

  by_priority : AreGroupsBy own_priority (λ (q : ℕ × ObserverMethod). q.0) heard groups
  by_priority = grouped heard groups are.are

  abbrev some_at : ℤ → Bool
  some_at p = not (has_none (heard_at t test p observers))

  abbrev all_priorities : List ℤ
  all_priorities = priorities (filter test observers)

  some_of : (b : Bool) → not b ≡ true → b ≡ false
  some_of true e = absurd (true≢false (sym e))
  some_of false e = refl

  to_group : (p : ℤ) → Contains (filter some_at all_priorities) p → Contains (map (λ (g : ObserverGroup). g.priority) groups) p
  to_group p c =
      let kept = of_filter some_at all_priorities p (contains_among (filter some_at all_priorities) p c) in
      let some : heard_at t test p observers ≢ [] = some_item (heard_at t test p observers) (some_of (has_none (heard_at t test p observers)) kept.1) in
      (by_priority.priorities.same p).1
      (has_priority own_priority (λ (q : ℕ × ObserverMethod). q.0) heard p (λ none. some (sym (same_at p) ∙ ap (filter_map there) none)))

  -- what is heard is among the observers of enabled beans
  record IsHeard (p : ℤ) : Type 0 where
    observer : ObserverMethod
    stands : Among observer observers
    passes : test observer ≡ true
    enabled : IsEnabledClass t.tables.enabled observer.bean true
    is : observer.priority ≡ p

  heard_one : (p : ℤ) → Contains (map own_priority heard) p → IsHeard p
  heard_one p c =
      let found = mapped own_priority heard p (contains_among (map own_priority heard) p c) in
      let q = found.item in
      let hear = one_of_those q are.hear found.stands in
      let in_table : Among q.1 table.observers =
      (let P : List ObserverMethod → Type 0 = λ l. Among q.1 l in subst P (second 0 table.observers) (among_map (λ (k : ℕ × ObserverMethod). k.1) (enumerate_from 0 table.observers) q hear.0)) in
      let listed = one_of_those q.1 is_table.enabled in_table in
      record { observer = q.1; stands = listed.0; passes = (tells q).1 hear.1; enabled = listed.1; is = sym found.is }

  of_heard : (p : ℤ) (h : IsHeard p) → IsTold t h.observer → has_none (heard_at t test p observers) ≡ false
  of_heard p h (IsTold.silent none off) = absurd (off h.enabled)
  of_heard p h (IsTold.heard x e on) =
      not_none (heard_at t test p observers) x
      (among_filter_map (machine_observer t) (of_priority p (filter test observers)) h.observer x
      (among_filter (λ (o : ObserverMethod). int_eq o.priority p) (filter test observers) h.observer (among_filter test observers h.observer h.stands h.passes) ((Decides-int_eq h.observer.priority p).1 h.is)) e)

  from_group : (p : ℤ) → Contains (map (λ (g : ObserverGroup). g.priority) groups) p → Contains (filter some_at all_priorities) p
  from_group p c =
      let h = heard_one p ((by_priority.priorities.same p).0 c) in
      let P : ℤ → Type 0 = λ k. Among k (map priority (filter test observers)) in
      let mine : Among p (map priority (filter test observers)) = subst P h.is (among_map priority (filter test observers) h.observer (among_filter test observers h.observer h.stands h.passes)) in
      let listed : Among p all_priorities = to_order int_cmp int_cmp_total int_cmp-IsAntisymmetric (map priority (filter test observers)) p mine in
      among_contains (filter some_at all_priorities) p
      (among_filter some_at all_priorities p listed (ap not (of_heard p h (told t tabled h.observer h.stands))))

  same_priorities : filter some_at all_priorities ≡ map (λ (g : ObserverGroup). g.priority) groups
  same_priorities =
      same_rising (filter some_at all_priorities) (map (λ (g : ObserverGroup). g.priority) groups)
      (IsStrictlySortedBy-filter int_cmp some_at all_priorities (order_rises int_cmp int_cmp_total int_cmp-IsAntisymmetric (map priority (filter test observers))))
      by_priority.priorities.rising to_group from_group

  abbrev in_group : Group → List machine.Observer
  in_group g = filter_map (machine_observer t) g.observers

  pub same_groups : (machine_tables t).observers class uses ≡ map (machine_group t table) groups
  same_groups =
      ap (λ gs. filter (λ group. not (has_none group)) (map in_group gs)) (groups_by_priority (filter test observers))
      ∙ ap (filter (λ group. not (has_none group))) (mapped_twice in_group (group_of (filter test observers)) all_priorities)
      ∙ filter_mapped (λ p. heard_at t test p observers) (λ group. not (has_none group)) all_priorities
      ∙ ap (map (λ p. heard_at t test p observers)) same_priorities
      ∙ mapped_twice (λ p. heard_at t test p observers) (λ (g : ObserverGroup). g.priority) groups
      ∙ mapped_alike (λ (g : ObserverGroup). heard_at t test g.priority observers) (machine_group t table) groups
      (each_mapped (λ (g : ObserverGroup). g.observers ≡ with_priority own_priority (λ (q : ℕ × ObserverMethod). q.0) heard g.priority)
      (λ (g : ObserverGroup). heard_at t test g.priority observers ≡ machine_group t table g) groups
      (λ g e. sym (ap (filter_map there) e ∙ same_at g.priority)) by_priority.each)

pub groups_are : GroupsAre
groups_are t tabled table is_table class uses groups are = same_groups t tabled table is_table class uses groups are
