-- Products of enabled beans fit.
use Rattle.std.proofs.Common.{ℕ, zero, suc, ◌≡◌, ◌∙◌, inl, inr, Bool, true, false, not, nat_eq, List, [], ◌∷◌, ◌++◌, map, filter, Option, Some, None, IsTrue, refl, sym, ap, subst, arith}
use Rattle.std.specs.Prelude.{option_and_then, option_map, slice_get, slice_index_or}
use Rattle.std.proofs.lemmas.Bool.{and_parts, true≢false}
use Rattle.std.proofs.lemmas.List.Elements.{filter_map-append}
use Rattle.std.proofs.lemmas.Option.{same_Some}
use Rattle.std.specs.List.{cons_option, filter_map, find, list_any}
use Rattle.cdi_beans.specs.declared.bean.BeanKind.{BeanKind}
use Rattle.cdi_check.proofs.Accepted.{append_none, none_told}
use Rattle.cdi_deployment.specs.declared.deployment.Class.{Class}
use Rattle.cdi_deployment.specs.declared.deployment.Deployment.{Deployment}
use Rattle.cdi_deployment.specs.declared.deployment.Member.{Member}
use Rattle.cdi_deployment.specs.declared.deployment.Member.TheVariants as members
use Rattle.cdi_deployment.specs.declared.deployment.ProducerField.{ProducerField}
use Rattle.cdi_enable.proofs.Free.{once}
use Rattle.cdi_enable.specs.Enablement.{AreFlags, Enablement, IsEnabledBean, IsEnabledManaged, bean_of_class}
use Rattle.cdi_enable.specs.declared.listed_bean.ListedBean.{ListedBean}
use Rattle.cdi_enable.specs.declared.managed_bean.ManagedBean.{ManagedBean}
use Rattle.cdi_types.specs.Line.{IsLineOf, class_named}
use Rattle.cdi_types.specs.Members.{comes_down, members_of, parts_of}
use Rattle.cdi_name_check.specs.NameProblems.{AreNameProblems}
use Rattle.cdi_name_check.specs.UnknownName.{HasUnknownName, knows_member}
use Rattle.cdi_planner.specs.Products.{is_producer_of, producer_in, producer_of}
use Rattle.cdi_problems.specs.Elements.{Element, elements_of}
use Rattle.cdi_problems.specs.declared.problem.ProblemKind.TheVariants as problem_kinds
use Rattle.cdi_types.specs.ListsThose.{ListsThose}
use Rattle.cdi_types.specs.Declarations.{declarations_of}
use Rattle.cdi_types.specs.Lineage.{IsLineage}
use Rattle.cdi_accepted.proofs.Duplicates.{no_built_in}
use Rattle.cdi_accepted.proofs.Lines.{is_listed, is_of_name}
use Rattle.cdi_accepted.proofs.Lists.{Among, among_filter, among_left, among_map, among_right, found_among, holds_among}
use Rattle.cdi_accepted.proofs.Repeats.{index, is_member_element}

-- ---- the own members of a class

members_last : (xs : List Class) (c : Class) (m : Member) → Among m c.members → Among (c, m) (members_of (xs ++ c ∷ []))
members_last [] c m a =
    among_left (parts_of c (filter (comes_down []) c.members)) [] (c, m)
    (among_map (λ part. (c, part)) (filter (comes_down []) c.members) m (among_filter (comes_down []) c.members m a refl))
members_last (k ∷ xs) c m a = among_right (parts_of k (filter (comes_down (xs ++ c ∷ [])) k.members)) (members_of (xs ++ c ∷ [])) (c, m) (members_last xs c m a)

module _ (d : Deployment) (well : AreNameProblems d []) where
  record EndsWith (line : List Class) (c : Class) : Type 0 where
    front : List Class
    are : line ≡ front ++ c ∷ []

  ends_with : {a : ℕ} {ns : List ℕ} → IsLineage (declarations_of d) a ns → (c : Class) → class_named d.classes a ≡ Some c → EndsWith (filter_map (class_named d.classes) ns) c
  ends_with IsLineage.above_all c e = absurd (no_built_in d well c (is_listed d well 0 c e) 0 (0, omega arith, refl) (sym (is_of_name d well 0 c e)))
  ends_with {a} (IsLineage.top below none) c e = record { front = []; are = ap (λ o. cons_option o []) e }
  ends_with {a} (IsLineage.next {names = ns} below some rest) c e =
      record {
        front = filter_map (class_named d.classes) ns;
        are = filter_map-append (class_named d.classes) ns (a ∷ []) ∙ ap (λ o. filter_map (class_named d.classes) ns ++ cons_option o []) e;
      }

  pub own_member : (name : ℕ) (line : List Class) → IsLineOf (declarations_of d) d.classes name line → (c : Class) → class_named d.classes name ≡ Some c → (m : Member) → Among m c.members → Among (c, m) (members_of line)
  own_member name line is c e m a =
      let ends = ends_with is.lineage c e in
      let P : List Class → Type 0 = λ l. Among (c, m) (members_of l) in
      subst P (sym (is.named ∙ ends.are)) (members_last ends.front c m a)

  pub own_class : (name : ℕ) (line : List Class) → IsLineOf (declarations_of d) d.classes name line → (c : Class) → class_named d.classes name ≡ Some c → Among c line
  own_class name line is c e =
      let ends = ends_with is.lineage c e in
      let P : List Class → Type 0 = λ l. Among c l in
      subst P (sym (is.named ∙ ends.are)) (among_right ends.front (c ∷ []) c (inl refl))

  -- a producer field names a field of its class
  pub names_field : (c : Class) → Among c d.classes → (p : ProducerField) → Among (members.ProducerField p) c.members → list_any (λ f. nat_eq f.name p.field) c.fields ≡ true
  names_field c listed p own =
      let of_duplicate_unknown = (append_none _ _ well.are).0 in
      let of_unknown = (append_none _ _ of_duplicate_unknown).1 in
      let e = Element.AMember (index d c listed) c (members.ProducerField p) in
      let not_unknown = holds_among (λ x. HasUnknownName d x → ⊥) (elements_of d) e (none_told _ _ (elements_of d) problem_kinds.UnknownName well.unknown of_unknown well.are_unknown) (is_member_element d c listed (members.ProducerField p) own) in
      let known : knows_member d c (members.ProducerField p) ≡ true = by (knows_member d c (members.ProducerField p)) not_unknown in
      (and_parts _ _ (and_parts _ _ (and_parts _ _ known).0).0).0
    where
      by : (b : Bool) → (IsTrue (not b) → ⊥) → b ≡ true
      by true h = refl
      by false h = absurd (h refl)

-- ---- beans of one class are enabled together

one_flag : (managed : List ManagedBean) (o : Option ℕ) (r s : Bool) → IsEnabledManaged managed o r → IsEnabledManaged managed o s → r ≡ true → s ≡ true
one_flag managed None r s h k e = absurd (true≢false (sym e ∙ h))
one_flag managed (Some b) r s h k e = sym (once b r s h k) ∙ e

pub same_flag : (e : Enablement) (flags : List Bool) → AreFlags e flags → (i j : ℕ) (x y : ListedBean) → slice_get e.beans i ≡ Some x → slice_get e.beans j ≡ Some y → x.class ≡ y.class
    → slice_index_or flags i false ≡ true → slice_index_or flags j false ≡ true
same_flag e flags are i j x y at_i at_j same on =
    let P : Option ListedBean → Type 0 = λ o. IsEnabledBean e o (slice_index_or flags i false) in
    let Q : Option ListedBean → Type 0 = λ o. IsEnabledBean e o (slice_index_or flags j false) in
    let R : ℕ → Type 0 = λ c. IsEnabledManaged e.managed (bean_of_class e.classes c) (slice_index_or flags i false) in
    one_flag e.managed (bean_of_class e.classes y.class) (slice_index_or flags i false) (slice_index_or flags j false) (subst R same (subst P at_i (are.each i))) (subst Q at_j (are.each j)) on

pub mapped_get : {A B : Type 0} (f : A → B) (xs : List A) (i : ℕ) (x : A) → slice_get xs i ≡ Some x → slice_get (map f xs) i ≡ Some (f x)
mapped_get f [] i x e = absurd cc
mapped_get f (y ∷ ys) zero x e = ap (λ z. Some (f z)) (same_Some y x e)
mapped_get f (y ∷ ys) (suc i) x e = mapped_get f ys i x e

pub of_those : {A : Type 0} (P : A → Type 0) (xs those : List A) (x : A) → ListsThose P xs those → Among x those → Among x xs
of_those P xs those x ListsThose.none a = absurd a
of_those P xs those x (ListsThose.keep p rest) (inl e) = inl e
of_those P xs those x (ListsThose.keep {xs = more} {found = found} p rest) (inr a) = inr (of_those P more found x rest a)
of_those P xs those x (ListsThose.skip {xs = more} {found = found} n rest) a = inr (of_those P more found x rest a)

-- the producer of a class
pub record IsProducerOf (classes : List Class) (name : ℕ) (declared : Class × Member) : Type 0 where
  pub named : class_named classes name ≡ Some declared.0
  pub own : Among declared.1 declared.0.members

pub producer_is : (classes : List Class) (name : ℕ) (kind : BeanKind) (declared : Class × Member) → producer_of classes name kind ≡ Some declared → IsProducerOf classes name declared
producer_is classes name kind declared e = by (class_named classes name) refl e
  where
    member : (c : Class) → class_named classes name ≡ Some c → (o : Option Member) → find (is_producer_of kind) c.members ≡ o → option_map (λ m. (c, m)) o ≡ Some declared → IsProducerOf classes name declared
    member c is None f h = absurd cc
    member c is (Some m) f h =
        let P : Class × Member → Type 0 = λ p. IsProducerOf classes name p in
        subst P (same_Some (c, m) declared h) (record { named = is; own = (found_among (is_producer_of kind) c.members m f).0 })

    by : (o : Option Class) → class_named classes name ≡ o → option_and_then (producer_in kind) o ≡ Some declared → IsProducerOf classes name declared
    by None is h = absurd cc
    by (Some c) is h = member c is (find (is_producer_of kind) c.members) refl h
