-- The observers of a list are declared by the classes that are told to declare them.
use Rattle.std.proofs.Common.{◌≡◌, ◌∙◌, ℕ, ◌||◌, Bool, true, false, cond, nat_eq, List, [], ◌∷◌, ◌++◌, filter, Option, Some, None, refl, sym, ap, subst}
use Rattle.std.specs.Prelude.{IsSome, option_map}
use Rattle.std.specs.List.{All, AllZip, list_any, filter_map, cons_option}
use Rattle.std.proofs.lemmas.Bool.{eqb-true, true≢false}
use Rattle.std.proofs.lemmas.List.Elements.{All-cons, All-nil}
use Rattle.cdi_beans.specs.ObserverMethods.{AreObserversOf, IsObserverOf, observer}
use Rattle.cdi_beans.specs.declared.bean.ObserverMethod.{ObserverMethod}
use Rattle.cdi_deployment.specs.declared.deployment.Class.{Class}
use Rattle.cdi_deployment.specs.declared.deployment.Deployment.{Deployment}
use Rattle.cdi_deployment.specs.declared.deployment.Member.{Member}
use Rattle.cdi_deployment.specs.declared.deployment.Member.TheVariants as members
use Rattle.cdi_deployment.specs.declared.deployment.Observer.{Observer}
use Rattle.cdi_types.specs.Line.{class_named}
use Rattle.cdi_types.specs.Members.{comes_down, members_of, parts_of}
use Rattle.cdi_quals.specs.declared.types.QualifierType.{QualifierType}
use Rattle.cdi_planner.specs.Observers.{as_observer, observer_named, observer_of}
use Rattle.cdi_planner.proofs.Declared.{some_found}
use Rattle.cdi_planner.proofs.Names.{same}
use Rattle.cdi_planner.proofs.Names.{passes}

abbrev has_observer : ℕ → List Member → Bool
has_observer name ms = list_any (λ o. nat_eq o.name name) (filter_map as_observer ms)

either_way : (b t : Bool) → t ≡ true → (b || t) ≡ true
either_way true t e = refl
either_way false t e = e

one_more : (name : ℕ) (m : Member) (ms : List Member) → has_observer name ms ≡ true → has_observer name (m ∷ ms) ≡ true
one_more name m ms e = by (as_observer m)
  where
    by : (o : Option Observer) → list_any (λ k. nat_eq k.name name) (cons_option o (filter_map as_observer ms)) ≡ true
    by None = e
    by (Some k) = either_way (nat_eq k.name name) (has_observer name ms) e

module _ (d : Deployment) (qualifiers : List QualifierType) where
  abbrev IsFound : ObserverMethod → Type 0
  IsFound o = IsSome (observer_of d.classes o)

  -- a class is found by its name, and has the observer
  record IsHad (p : Class × Observer) : Type 0 where
    named : class_named d.classes p.0.name ≡ Some p.0
    has : has_observer p.1.name p.0.members ≡ true

  abbrev AreHad : List (Class × Observer) → Type 0
  AreHad [] = Unit {0}
  AreHad (p ∷ ps) = IsHad p × AreHad ps

  module _ (k : Class) (below : List Class) (rest : List (Class × Member)) (named : class_named d.classes k.name ≡ Some k) (after : AreHad (filter_map observer rest)) where
    own_had : (ms : List Member) → ((name : ℕ) → has_observer name ms ≡ true → has_observer name k.members ≡ true) → AreHad (filter_map observer (parts_of k (filter (comes_down below) ms) ++ rest))
    own_had [] among = after
    own_had (m ∷ ms) among = by (own_had ms (λ name e. among name (one_more name m ms e))) (comes_down below m)
      where
        one : (n : Member) → ((name : ℕ) → has_observer name (n ∷ []) ≡ true → has_observer name k.members ≡ true) → (ps : List (Class × Observer)) → AreHad ps → AreHad (cons_option (observer (k, n)) ps)
        one (members.Observer o) within ps had =
            (record { named = named; has = within o.name (ap (λ b. b || false) (same o.name)) }, had)
        one _ within ps had = had

        here : (name : ℕ) → has_observer name (m ∷ []) ≡ true → has_observer name (m ∷ ms) ≡ true
        here name e = shown (as_observer m) e
          where
            shown : (o : Option Observer) → list_any (λ x. nat_eq x.name name) (cons_option o []) ≡ true → list_any (λ x. nat_eq x.name name) (cons_option o (filter_map as_observer ms)) ≡ true
            shown None h = absurd (true≢false (sym h))
            shown (Some x) h = first (nat_eq x.name name) h
              where
                first : (b : Bool) → (b || false) ≡ true → (b || has_observer name ms) ≡ true
                first true h = refl
                first false h = absurd (true≢false (sym h))

        by : AreHad (filter_map observer (parts_of k (filter (comes_down below) ms) ++ rest)) → (b : Bool)
            → AreHad (filter_map observer (parts_of k (cond b (m ∷ filter (comes_down below) ms) (filter (comes_down below) ms)) ++ rest))
        by more true = one m (λ name e. among name (here name e)) (filter_map observer (parts_of k (filter (comes_down below) ms) ++ rest)) more
        by more false = more

  -- each class of a line is found by its name
  abbrev AreNamed : List Class → Type 0
  AreNamed [] = Unit {0}
  AreNamed (k ∷ ks) = (class_named d.classes k.name ≡ Some k) × AreNamed ks

  line_had : (line : List Class) → AreNamed line → AreHad (filter_map observer (members_of line))
  line_had [] named = tt
  line_had (k ∷ below) named = own_had k below (members_of below) named.0 (line_had below named.1) k.members (λ name e. e)

  line_named : (names : List ℕ) → AreNamed (filter_map (class_named d.classes) names)
  line_named [] = tt
  line_named (n ∷ ns) = by (line_named ns) (class_named d.classes n) refl
    where
      by : AreNamed (filter_map (class_named d.classes) ns) → (o : Option Class) → class_named d.classes n ≡ o → AreNamed (cons_option o (filter_map (class_named d.classes) ns))
      by rest None is = rest
      by rest (Some k) is =
          let of : k.name ≡ n = eqb-true k.name n (passes (λ c. nat_eq c.name n) d.classes k is) in
          (ap (class_named d.classes) of ∙ is, rest)

  abbrev with_class : Class → Observer → Class × Observer
  with_class k o = (k, o)

  one_found : (bean : Class) (p : Class × Observer) (o : ObserverMethod) → IsHad p → IsObserverOf d qualifiers bean p o → IsFound o
  one_found bean p o had is = rw (is.of_class, is.name, had.named) (by (observer_named p.1.name p.0.members) (some_found (λ x. nat_eq x.name p.1.name) (filter_map as_observer p.0.members) had.has))
    where
      by : (found : Option Observer) → IsSome found → IsSome (option_map (with_class p.0) found)
      by None h = h
      by (Some x) h = refl

  each_found : (bean : Class) (ps : List (Class × Observer)) (os rest : List ObserverMethod) → AreHad ps → AllZip (IsObserverOf d qualifiers bean) ps os → All IsFound rest → All IsFound (os ++ rest)
  each_found bean [] [] rest had zip others = others
  each_found bean [] (o ∷ os) rest had zip others = absurd zip
  each_found bean (p ∷ ps) [] rest had zip others = absurd zip
  each_found bean (p ∷ ps) (o ∷ os) rest had zip others = All-cons IsFound o (os ++ rest) (one_found bean p o had.0 zip.0) (each_found bean ps os rest had.1 zip.1 others)

  pub all_declared : (cs : List Class) (os : List ObserverMethod) → AreObserversOf d qualifiers cs os → All IsFound os
  all_declared [] [] AreObserversOf.none = All-nil IsFound
  all_declared [] (o ∷ os) are = elim are [ ]
  all_declared (c ∷ cs) os (AreObserversOf.next {has = has} {rest = rest} first are zip others) =
      let P : List (Class × Member) → Type 0 = λ ps. AreHad (filter_map observer ps) in
      let Q : List Class → Type 0 = λ line. AreHad (filter_map observer (members_of line)) in
      let named = line_had (filter_map (class_named d.classes) are.is_line.names) (line_named are.is_line.names) in
      let had = subst P (sym are.are) (subst Q (sym are.is_line.named) named) in
      each_found c (filter_map observer has) first rest had zip (all_declared cs rest others)
