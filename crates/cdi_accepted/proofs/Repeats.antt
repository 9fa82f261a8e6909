-- In a deployment without problems of beans a class repeats no name of a class above it, unless by a member that is alike.
use Rattle.std.proofs.Common.{ℕ, ◌≡◌, ◌∙◌, ◌&&◌, Bool, true, false, nat_eq, List, [], ◌∷◌, ◌++◌, map, filter, option_to_list, Some, refl, ap}
use Rattle.std.specs.List.{enumerate_from, flat_map}
use Rattle.cdi_bean_check.specs.MemberPlaces.{same_place}
use Rattle.cdi_bean_check.specs.Repeated.{RepeatsAt, RepeatsSuperclass, has_field, has_other_member, repeated_names, repeats_at}
use Rattle.cdi_bean_rules.specs.Tiers.{AreBeanProblems}
use Rattle.cdi_deployment.specs.declared.deployment.Class.{Class}
use Rattle.cdi_deployment.specs.declared.deployment.Deployment.{Deployment}
use Rattle.cdi_deployment.specs.declared.deployment.Field.{Field}
use Rattle.cdi_deployment.specs.declared.deployment.InjectedField.{InjectedField}
use Rattle.cdi_deployment.specs.declared.deployment.Member.{Member}
use Rattle.cdi_types.specs.Line.{IsLineOf}
use Rattle.cdi_deployment.specs.Member.{member_name}
use Rattle.cdi_planner.proofs.Names.{same}
use Rattle.cdi_problems.specs.Elements.{Element, elements_of, class_elements, interceptor_elements}
use Rattle.cdi_problems.specs.declared.problem.ProblemKind.TheVariants as kinds
use Rattle.cdi_quals.specs.declared.types.QualifierType.{QualifierType}
use Rattle.cdi_types.specs.Declarations.{declarations_of}
use Rattle.cdi_check.proofs.Accepted.{append_none, none_told}
use Rattle.cdi_accepted.proofs.Lists.{Among, among_contains, among_filter, among_flat_map, among_left, among_map, among_right, any_passes, holds_among, placed}

-- each element of a class is one of the deployment
module _ (d : Deployment) (c : Class) (listed : Among c d.classes) where
  abbrev pub index : ℕ
  index = (placed 0 d.classes c listed).place

  pub is_element : (e : Element) → Among e (class_elements (index, c)) → Among e (elements_of d)
  is_element e a =
      let above = map Element.AnInterface d.interfaces ++ map Element.AQualifier d.qualifiers ++ map Element.ABinding d.bindings ++ map Element.AnException d.exceptions in
      let classes = flat_map class_elements (enumerate_from 0 d.classes) in
      let interceptors = flat_map interceptor_elements (enumerate_from 0 d.interceptors) in
      let selected = map Element.ASelectedName d.selected in
      let ordered = map Element.AnOrderedName d.order in
      let scripts = map Element.AScript d.scripts in
      let of_classes : Among e classes = among_flat_map class_elements (enumerate_from 0 d.classes) (index, c) e (placed 0 d.classes c listed).stands a in
      among_left (above ++ classes ++ interceptors ++ selected ++ ordered) scripts e
      (among_left (above ++ classes ++ interceptors ++ selected) ordered e
      (among_left (above ++ classes ++ interceptors) selected e (among_left (above ++ classes) interceptors e (among_right above classes e of_classes))))

  pub is_injected_element : (f : InjectedField) → Among f c.inject → Among (Element.AnInjectedField index c f) (elements_of d)
  is_injected_element f a =
      let e = Element.AnInjectedField index c f in
      let fields = Element.AClass index c ∷ map (Element.AField index c) c.fields in
      let inject = map (Element.AnInjectedField index c) c.inject in
      let constructor = map (Element.AConstructor index c) (option_to_list c.constructor) in
      let ms = map (Element.AMember index c) c.members in
      is_element e
      (among_left (fields ++ inject ++ constructor) ms e
      (among_left (fields ++ inject) constructor e (among_right fields inject e (among_map (Element.AnInjectedField index c) c.inject f a))))

  pub is_member_element : (m : Member) → Among m c.members → Among (Element.AMember index c m) (elements_of d)
  is_member_element m a =
      let e = Element.AMember index c m in
      let fields = Element.AClass index c ∷ map (Element.AField index c) c.fields in
      let inject = map (Element.AnInjectedField index c) c.inject in
      let constructor = map (Element.AConstructor index c) (option_to_list c.constructor) in
      let ms = map (Element.AMember index c) c.members in
      is_element e (among_right (fields ++ inject ++ constructor) ms e (among_map (Element.AMember index c) c.members m a))

-- what a class declares beside what one above it does
pub record Fits (above c : Class) : Type 0 where
  pub members : (m : Member) → Among m c.members → has_other_member m above ≡ false
  pub inject : (f : InjectedField) → Among f c.inject → has_field f.name above ≡ false

module _ (d : Deployment) (qualifiers : List QualifierType) (well : AreBeanProblems d qualifiers []) where
  none_repeats : (e : Element) → Among e (elements_of d) → RepeatsSuperclass d.classes (declarations_of d) e → ⊥
  none_repeats e a =
      let P : Element → Type 0 = λ x. RepeatsSuperclass d.classes (declarations_of d) x → ⊥ in
      let one = append_none _ _ well.are in
      let two = append_none _ _ one.0 in
      let three = append_none _ _ two.0 in
      let four = append_none _ _ three.0 in
      let five = append_none _ _ four.0 in
      let six = append_none _ _ five.0 in
      let seven = append_none _ _ six.0 in
      let eight = append_none _ _ seven.0 in
      let nine = append_none _ _ eight.0 in
      holds_among P (elements_of d) e (none_told _ _ (elements_of d) kinds.DuplicateName well.repeated nine.0 well.are_repeated) a

  module _ (c : Class) (direct : ℕ) (line : List Class) (listed : Among c d.classes) (extends : c.extends ≡ Some direct)
      (is : IsLineOf (declarations_of d) d.classes direct line) (above : Class) (stands : Among above line) where
    repeats : (name : ℕ) → Among name (repeated_names above c) → RepeatsAt d.classes (declarations_of d) c (c.name, name)
    repeats name a =
        let here : same_place (c.name, name) (c.name, name) ≡ true = ap (λ b. b && nat_eq name name) (same c.name) ∙ same name in
        let at : repeats_at c (c.name, name) above ≡ true =
        any_passes (λ n. same_place (c.name, n) (c.name, name)) (repeated_names above c) name a here in
        record {
          direct = direct;
          extends = extends;
          line = line;
          is_line = is;
          repeats = any_passes (repeats_at c (c.name, name)) line above stands at;
        }

    pub fits : Fits above c
    fits =
        record {
          members = λ m a. by_member m a (has_other_member m above) refl;
          inject = λ f a. by_field f a (has_field f.name above) refl;
        }
      where
        fields : List ℕ
        fields = map (λ (f : Field). f.name) (filter (λ f. has_field f.name above) c.fields)

        injected : List ℕ
        injected = map (λ (f : InjectedField). f.name) (filter (λ f. has_field f.name above) c.inject)

        others : List ℕ
        others = map member_name (filter (λ m. has_other_member m above) c.members)

        by_member : (m : Member) → Among m c.members → (b : Bool) → has_other_member m above ≡ b → b ≡ false
        by_member m a false e = refl
        by_member m a true e =
            let name : Among (member_name m) others =
            among_map member_name _ m (among_filter (λ k. has_other_member k above) c.members m a e) in
            absurd (none_repeats (Element.AMember (index d c listed) c m) (is_member_element d c listed m a)
            (record { item = c; listed = among_contains d.classes c listed; has = repeats (member_name m) (among_right (fields ++ injected) others (member_name m) name) }))

        by_field : (f : InjectedField) → Among f c.inject → (b : Bool) → has_field f.name above ≡ b → b ≡ false
        by_field f a false e = refl
        by_field f a true e =
            let name : Among f.name injected =
            among_map (λ (k : InjectedField). k.name) _ f (among_filter (λ k. has_field k.name above) c.inject f a e) in
            absurd (none_repeats (Element.AnInjectedField (index d c listed) c f) (is_injected_element d c listed f a)
            (record { item = c; listed = among_contains d.classes c listed; has = repeats f.name (among_left (fields ++ injected) others f.name (among_right fields injected f.name name)) }))
