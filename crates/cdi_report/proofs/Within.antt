-- What the limits of a deployment say of its classes and interceptors: how many injected fields and members each has, and how many there are.
use Rattle.std.proofs.Common.{◌≡◌, ◌+◌, ◌^◌, ◌≤◌, ◌&&◌, Bool, true, length, arith}
use Rattle.std.proofs.lemmas.Bool.{and_parts, leb-true, lt-ltb}
use Rattle.std.specs.List.{AllByRecursion, list_all}
use Rattle.cdi_deployment.specs.Limits.{are_fields_within, are_types_within, is_at_most, is_class_within, is_interceptor_within, is_length_within, is_within}
use Rattle.cdi_deployment.specs.declared.deployment.Class.{Class}
use Rattle.cdi_deployment.specs.declared.deployment.Deployment.{Deployment}
use Rattle.cdi_deployment.specs.declared.deployment.Interceptor.{Interceptor}
use Rattle.cdi_run_tables.specs.Sizes.{has_few_fields}
use Rattle.cdi_report.proofs.Each.{all_pass, each_passes, each_so}

left : (x y : Bool) → (x && y) ≡ true → x ≡ true
left x y e = (and_parts x y e).0

-- a class that declares few injected fields
abbrev pub HasFew : Class → Type 0
HasFew c = length c.inject ≤ 64

few_in_class : (c : Class) → is_class_within c ≡ true → HasFew c
few_in_class c e =
    let fields : are_fields_within (length c.fields) (length c.inject) ≡ true =
    left _ _ (left _ _ (left _ _ (left _ _ (left _ _ (left _ _ (left _ _ e)))))) in
    omega (arith, leb-true (length c.fields + length c.inject) 64 fields)

-- a class that declares few members
abbrev pub HasFewMembers : Class → Type 0
HasFewMembers c = length c.members ≤ 64

-- a class within its limits
few_members_in_class : (c : Class) → is_class_within c ≡ true → HasFewMembers c
few_members_in_class c e =
    let members : is_at_most 64 c.members ≡ true =
    (and_parts _ _ (left _ _ (left _ _ (left _ _ (left _ _ (left _ _ (left _ _ e))))))).1 in
    leb-true (length c.members) 64 members

few_in_interceptor : (j : Interceptor) → is_interceptor_within j ≡ true → has_few_fields j ≡ true
few_in_interceptor j e =
    let fields : are_fields_within (length j.fields) (length j.inject) ≡ true =
    left _ _ (left _ _ e) in
    lt-ltb (length j.inject) (2 ^ 32)
    (omega (arith, leb-true (length j.fields + length j.inject) 64 fields))

module _ (d : Deployment) (within : is_within d ≡ true) where
  both : (is_length_within d && list_all is_class_within d.classes) ≡ true
  both = left _ _ (left _ _ (left _ _ (left _ _ within)))

  -- its lists
  lengths : is_length_within d ≡ true
  lengths = left (is_length_within d) (list_all is_class_within d.classes) both

  -- its classes, interfaces and interceptors together
  types : are_types_within d ≡ true
  types = left _ _ (left _ _ (left _ _ (left _ _ (left _ _ (left _ _ lengths)))))

  pub few_classes : length d.classes ≤ 1024
  few_classes =
      omega (
        arith,
        leb-true (length d.interfaces + length d.classes + length d.interceptors) 1024 types,
      )

  -- its interceptors
  pub few_interceptors : length d.interceptors ≤ 1024
  few_interceptors =
      omega (
        arith,
        leb-true (length d.interfaces + length d.classes + length d.interceptors) 1024 types,
      )

  -- those that it lists as enabled
  pub few_listed : length d.order ≤ 1024
  few_listed = leb-true (length d.order) 1024 (and_parts _ _ lengths).1

  pub each_has_few : AllByRecursion HasFew d.classes
  each_has_few =
      let all = (and_parts (is_length_within d) (list_all is_class_within d.classes) both).1 in
      each_so (λ c. is_class_within c ≡ true) HasFew few_in_class d.classes
      (each_passes is_class_within d.classes all)

  -- the members of each class
  pub each_has_few_members : AllByRecursion HasFewMembers d.classes
  each_has_few_members =
      let all = (and_parts (is_length_within d) (list_all is_class_within d.classes) both).1 in
      each_so (λ c. is_class_within c ≡ true) HasFewMembers few_members_in_class d.classes
      (each_passes is_class_within d.classes all)

  pub interceptors_have_few : list_all has_few_fields d.interceptors ≡ true
  interceptors_have_few =
      all_pass (λ j. has_few_fields j ≡ true) has_few_fields d.interceptors (λ j is. is)
      (each_so (λ j. is_interceptor_within j ≡ true) (λ j. has_few_fields j ≡ true)
      few_in_interceptor d.interceptors
      (each_passes is_interceptor_within d.interceptors (and_parts _ _ within).1))
