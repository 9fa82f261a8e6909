-- The beans of a list are declared by the classes of their names.
use Rattle.std.proofs.Common.{◌≡◌, ◌∙◌, ℕ, ◌||◌, Bool, true, false, cond, nat_eq, List, [], ◌∷◌, ◌++◌, map, filter, Option, Some, None, refl, sym, ap, subst}
use Rattle.std.specs.Prelude.{IsSome, option_map, if◌then◌else◌}
use Rattle.std.specs.List.{All, AllZip, find, list_any, flat_map}
use Rattle.std.proofs.lemmas.Bool.{eqb-true, true≢false}
use Rattle.std.proofs.lemmas.List.Elements.{All-cons, All-nil}
use Rattle.cdi_bean_rules.specs.Limits.{is_producer}
use Rattle.cdi_bean_check.specs.ManagedBeans.{is_bean}
use Rattle.cdi_beans.specs.BeanLists.{IsBeanListOf}
use Rattle.cdi_beans.specs.Beans.{Source, IsBeanOf, sources_in, products_in}
use Rattle.cdi_beans.specs.declared.bean.Bean.{Bean}
use Rattle.cdi_beans.specs.declared.bean.BeanKind.{BeanKind}
use Rattle.cdi_beans.specs.declared.bean.BeanKind.TheVariants as kinds
use Rattle.cdi_beans.specs.declared.bean.BeanList.{BeanList}
use Rattle.cdi_deployment.specs.declared.deployment.Class.{Class}
use Rattle.cdi_deployment.specs.declared.deployment.Deployment.{Deployment}
use Rattle.cdi_deployment.specs.declared.deployment.Member.{Member}
use Rattle.cdi_deployment.specs.declared.deployment.Member.TheVariants as members
use Rattle.cdi_types.specs.Line.{class_named}
use Rattle.cdi_quals.specs.declared.types.QualifierType.{QualifierType}
use Rattle.cdi_planner.specs.Apart.{has_class, AreNamedApart}
use Rattle.cdi_planner.specs.Plans.{IsDeclared, IsDeclaredAs}
use Rattle.cdi_planner.specs.Products.{is_producer_of, producer_of}
use Rattle.cdi_planner.proofs.Names.{same}

pub some_found : {X : Type 0} (p : X → Bool) (xs : List X) → list_any p xs ≡ true → IsSome (find p xs)
some_found p [] e = absurd (true≢false (sym e))
some_found p (x ∷ xs) e = by (some_found p xs) (p x) e
  where
    by : (list_any p xs ≡ true → IsSome (find p xs)) → (b : Bool) → (b || list_any p xs) ≡ true → IsSome (cond b (Some x) (find p xs))
    by more true h = refl
    by more false h = more h

module _ (all : List Class) where
  -- the producer of this member is found in its class, which is found by its name
  record IsFound (c : Class) (m : Member) : Type 0 where
    named : class_named all c.name ≡ Some c
    found : (kind : BeanKind) → is_producer_of kind m ≡ true → IsSome (find (is_producer_of kind) c.members)

  abbrev IsFoundSource : Source → Type 0
  IsFoundSource (Source.AClass c) = class_named all c.name ≡ Some c
  IsFoundSource (Source.AProducer c m) = IsFound c m

  abbrev AreFound : List Source → Type 0
  AreFound [] = Unit {0}
  AreFound (s ∷ ss) = IsFoundSource s × AreFound ss

  both_found : (ss us : List Source) → AreFound ss → AreFound us → AreFound (ss ++ us)
  both_found [] us a b = b
  both_found (s ∷ ss) us a b = (a.0, both_found ss us a.1 b)

  module _ (c : Class) (named : class_named all c.name ≡ Some c) where
    products_found : (ms : List Member) → ((kind : BeanKind) → list_any (is_producer_of kind) ms ≡ true → list_any (is_producer_of kind) c.members ≡ true) → AreFound (products_in c ms)
    products_found [] among = tt
    products_found (m ∷ ms) among = by (products_found ms (λ kind e. among kind (later kind e))) (is_producer m)
      where
        here : (b t : Bool) → b ≡ true → (b || t) ≡ true
        here true t e = refl
        here false t e = absurd (true≢false (sym e))

        after : (b t : Bool) → t ≡ true → (b || t) ≡ true
        after true t e = refl
        after false t e = e

        later : (kind : BeanKind) → list_any (is_producer_of kind) ms ≡ true → list_any (is_producer_of kind) (m ∷ ms) ≡ true
        later kind e = after (is_producer_of kind m) (list_any (is_producer_of kind) ms) e

        by : AreFound (products_in c ms) → (b : Bool) → AreFound (map (Source.AProducer c) (cond b (m ∷ filter is_producer ms) (filter is_producer ms)))
        by rest true = (
          record {
            named = named;
            found = λ kind e. some_found (is_producer_of kind) c.members (among kind (here (is_producer_of kind m) (list_any (is_producer_of kind) ms) e));
          },
          rest,
        )
        by rest false = rest

    sources_found : AreFound (sources_in c)
    sources_found = by (is_bean c)
      where
        by : (b : Bool) → AreFound (if b then Source.AClass c ∷ products_in c c.members else [])
        by true = (named, products_found c.members (λ kind e. e))
        by false = tt

  all_found : (cs : List Class) → AreNamedApart cs → ((name : ℕ) → has_class name cs ≡ true → class_named all name ≡ class_named cs name) → AreFound (flat_map sources_in cs)
  all_found [] apart first = tt
  all_found (c ∷ cs) apart first = both_found (sources_in c) (flat_map sources_in cs) (sources_found c named) (all_found cs apart.1 below)
    where
      named : class_named all c.name ≡ Some c
      named =
          first c.name (ap (λ b. b || has_class c.name cs) (same c.name))
          ∙ ap (λ b. cond b (Some c) (class_named cs c.name)) (same c.name)

      behind : (name : ℕ) (b : Bool) → nat_eq c.name name ≡ b → has_class name cs ≡ true
          → ((b || has_class name cs) ≡ true) × (cond b (Some c) (class_named cs name) ≡ class_named cs name)
      behind name true e h = absurd (true≢false (sym h ∙ ap (λ n. has_class n cs) (sym (eqb-true c.name name e)) ∙ apart.0))
      behind name false e h = (h, refl)

      below : (name : ℕ) → has_class name cs ≡ true → class_named all name ≡ class_named cs name
      below name h =
          let b = behind name (nat_eq c.name name) refl h in
          first name b.0 ∙ b.1

  abbrev with_class : Class → Member → Class × Member
  with_class c m = (c, m)

  producer_declared : (c : Class) (m : Member) (kind : BeanKind) → IsFound c m → is_producer_of kind m ≡ true → IsSome (producer_of all c.name kind)
  producer_declared c m kind is e = rw is.named (by (find (is_producer_of kind) c.members) (is.found kind e))
    where
      by : (o : Option Member) → IsSome o → IsSome (option_map (with_class c) o)
      by None h = h
      by (Some k) h = refl

module _ (d : Deployment) (qualifiers : List QualifierType) where
  one_declared : (s : Source) (b : Bean) → IsFoundSource d.classes s → IsBeanOf d qualifiers s b → IsDeclared d.classes b
  one_declared (Source.AClass c) b is (IsBeanOf.managed uses by has with) =
      let P : ℕ × BeanKind → Type 0 = λ k. IsDeclaredAs d.classes k.0 k.1 in
      let class : c.name ≡ b.class = sym by.class in
      let kind : kinds.Managed ≡ b.kind = sym with.kind_is in
      subst P (ap (λ n. (n, kinds.Managed)) class ∙ ap (λ k. (b.class, k)) kind) (subst IsSome (sym is) refl)
  one_declared (Source.AProducer c m) b is (IsBeanOf.produced {p = p} by with) =
      let P : ℕ × BeanKind → Type 0 = λ k. IsDeclaredAs d.classes k.0 k.1 in
      let class : c.name ≡ b.class = sym by.declared.class in
      let kind : kinds.ProducerMethod p.name ≡ b.kind = sym with.kind_is in
      subst P (ap (λ n. (n, kinds.ProducerMethod p.name)) class ∙ ap (λ k. (b.class, k)) kind) (producer_declared d.classes c (members.Producer p) (kinds.ProducerMethod p.name) is (same p.name))
  one_declared (Source.AProducer c m) b is (IsBeanOf.held {p = p} by with) =
      let P : ℕ × BeanKind → Type 0 = λ k. IsDeclaredAs d.classes k.0 k.1 in
      let class : c.name ≡ b.class = sym by.declared.class in
      let kind : kinds.ProducerField p.name ≡ b.kind = sym with.kind_is in
      subst P (ap (λ n. (n, kinds.ProducerField p.name)) class ∙ ap (λ k. (b.class, k)) kind) (producer_declared d.classes c (members.ProducerField p) (kinds.ProducerField p.name) is (same p.name))

  each_declared : (ss : List Source) (bs : List Bean) → AreFound d.classes ss → AllZip (IsBeanOf d qualifiers) ss bs → All (IsDeclared d.classes) bs
  each_declared [] [] found zip = All-nil (IsDeclared d.classes)
  each_declared [] (b ∷ bs) found zip = absurd zip
  each_declared (s ∷ ss) [] found zip = absurd zip
  each_declared (s ∷ ss) (b ∷ bs) found zip = All-cons (IsDeclared d.classes) b bs (one_declared s b found.0 zip.0) (each_declared ss bs found.1 zip.1)

pub declared : (d : Deployment) (qualifiers bindings : List QualifierType) (list : BeanList) → AreNamedApart d.classes → IsBeanListOf d qualifiers bindings list → All (IsDeclared d.classes) list.beans
declared d qualifiers bindings list apart is =
    each_declared d qualifiers (flat_map sources_in d.classes) list.beans (all_found d.classes d.classes apart (λ name h. refl)) is.beans
