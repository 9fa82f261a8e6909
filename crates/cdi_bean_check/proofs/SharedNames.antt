-- How often names stand in lists, and that a class whose fields have no shared names and whose members no mixed ones repeats none.
use Rattle.std.proofs.Common.{◌≡◌, ◌∙◌, ◌||◌, ◌&&◌, ◌⊎◌, inl, inr, ℕ, ◌+◌, ◌<◌, ◌≤◌, Bool, true, false, cond, nat_eq, List, [], ◌∷◌, ◌++◌, filter, length, map, take, get_or, Some, refl, sym, ap, subst, arith}
use Rattle.std.proofs.lemmas.Bool.{cases_Bool, lt-ltb, ltb-true, ltb-false}
use Rattle.std.proofs.lemmas.List.Elements.{Contains-append_cases, Contains-append_right, Contains-push_cases}
use Rattle.std.proofs.lemmas.List.Folds.{list_any-append}
use Rattle.std.proofs.lemmas.List.Sums.{sum_by-append, sum_by-cons, sum_by_more}
use Rattle.std.specs.HashSet.{HashSet, contains}
use Rattle.std.specs.List.{Contains, find, flat_map, list_any}
use Rattle.std.specs.Prelude.{nat_lt}
use Rattle.cdi_base.proofs.Tables.{list_any-map}
use Rattle.cdi_deployment.specs.declared.deployment.Class.{Class}
use Rattle.cdi_deployment.specs.Member.{member_name}
use Rattle.cdi_types.proofs.Listed.{filter_map-from}
use Rattle.cdi_types.specs.Line.{IsLineOf, class_named}
use Rattle.cdi_types.specs.declared.declaration.TypeDeclaration.{TypeDeclaration}
use Rattle.cdi_bean_check.proofs.Tests.{contained, none_implied, same_name}
use Rattle.cdi_bean_check.proofs.MixedNames.{no_other_member}
use Rattle.cdi_bean_check.specs.MemberPlaces.{MemberPlace, same_place}
use Rattle.cdi_bean_check.specs.MixedNames.{has_mixed, HasSeenAll}
use Rattle.cdi_bean_check.specs.declared.mixed_names.MixedNames.{MixedNames}
use Rattle.cdi_bean_check.specs.Repeated.{has_field, has_other_member, repeated_names, repeats_at}
use Rattle.cdi_bean_check.specs.SharedNames.{fields_in, occurrences, HasShared}

-- one name more, in the terms of what was counted before
module _ (n : ℕ) where
  pub seen_more : (b : Bool) → cond b true (nat_lt 0 n) ≡ nat_lt 0 (n + cond b 1 0)
  seen_more true = sym (lt-ltb 0 (n + 1) (omega arith))
  seen_more false = ap (nat_lt 0) (omega arith)

  pub seen_kept : (b : Bool) → (b ≡ true → nat_lt 0 n ≡ true) → nat_lt 0 n ≡ nat_lt 0 (n + cond b 1 0)
  seen_kept true seen = seen refl ∙ sym (lt-ltb 0 (n + 1) (omega arith))
  seen_kept false seen = ap (nat_lt 0) (omega arith)

  pub repeated_more : (b : Bool) → (b ≡ true → nat_lt 0 n ≡ true) → cond b true (nat_lt 1 n) ≡ nat_lt 1 (n + cond b 1 0)
  repeated_more true seen = let lt = ltb-true 0 n (seen refl) in sym (lt-ltb 1 (n + 1) (omega arith))
  repeated_more false seen = ap (nat_lt 1) (omega arith)

  pub repeated_kept : (b : Bool) → (b ≡ true → nat_lt 0 n ≡ false) → nat_lt 1 n ≡ nat_lt 1 (n + cond b 1 0)
  repeated_kept true new = let le = ltb-false 0 n (new refl) in let z : n ≡ 0 = omega arith in ap (λ m. nat_lt 1 m) z ∙ sym (ap (λ m. nat_lt 1 (m + 1)) z)
  repeated_kept false new = ap (nat_lt 1) (omega arith)

-- a list with its next name
pub one_more : (names : List ℕ) (i name q : ℕ) → i < length names → name ≡ get_or names i name → occurrences (take (i + 1) names) q ≡ occurrences (take i names) q + cond (nat_eq name q) 1 0
one_more names i name q lt is = sum_by_more (λ n. cond (nat_eq n q) 1 0) names i name lt ∙ ap (λ n. occurrences (take i names) q + cond (nat_eq n q) 1 0) (sym is)

module _ (q : ℕ) where
  abbrev is_it : ℕ → Bool
  is_it n = nat_eq n q

  abbrev total : List Class → ℕ
  total classes = occurrences (flat_map fields_in classes) q

  abbrev own : Class → ℕ
  own c = occurrences (fields_in c) q

  one_class_more : (c : Class) (cs : List Class) → total (c ∷ cs) ≡ own c + total cs
  one_class_more c cs = sum_by-append (λ n. cond (is_it n) 1 0) (fields_in c) (flat_map fields_in cs)

  stands : (names : List ℕ) → list_any is_it names ≡ true → 0 < occurrences names q
  stands [] e = absurd cc
  stands (n ∷ ns) e = by (is_it n) (stands ns) e (sum_by-cons (λ m. cond (is_it m) 1 0) n ns)
    where
      by : (b : Bool) → (list_any is_it ns ≡ true → 0 < occurrences ns q) → (b || list_any is_it ns) ≡ true → occurrences (n ∷ ns) q ≡ cond b 1 0 + occurrences ns q → 0 < occurrences (n ∷ ns) q
      by true later e sum = omega arith
      by false later e sum = let lt = later e in omega arith

  first_or_later : (x : Class) (xs : List Class) (y : Class) → Contains (x ∷ xs) y → (x ≡ y) ⊎ Contains xs y
  first_or_later x xs y h = elim (Contains-append_cases (x ∷ []) xs y h) [
    | inl here ↦ elim (Contains-push_cases [] x y here) [
      | inl none ↦ (let lt = none.1 in absurd (omega arith))
      | inr same ↦ inl same
    ]
    | inr later ↦ inr later
  ]

  one_within : (classes : List Class) (c : Class) → Contains classes c → own c ≤ total classes
  one_within [] c h = let lt = h.1 in absurd (omega arith)
  one_within (x ∷ xs) c h = let sum = one_class_more x xs in elim (first_or_later x xs c h) [
    | inl same ↦ (let is : own x ≡ own c = ap own same in omega arith)
    | inr later ↦ (let le = one_within xs c later in omega arith)
  ]

  two_within : (classes : List Class) (a c : Class) → Contains classes a → Contains classes c → (a ≡ c → ⊥) → own a + own c ≤ total classes
  two_within [] a c h k differ = let lt = h.1 in absurd (omega arith)
  two_within (x ∷ xs) a c h k differ = let sum = one_class_more x xs in elim (first_or_later x xs a h) [
    | inl first ↦ elim (first_or_later x xs c k) [
      | inl second ↦ absurd (differ (sym first ∙ second))
      | inr later ↦ (let is : own x ≡ own a = ap own first in let le = one_within xs c later in omega arith)
    ]
    | inr later ↦ elim (first_or_later x xs c k) [
      | inl second ↦ (let is : own x ≡ own c = ap own second in let le = one_within xs a later in omega arith)
      | inr both ↦ (let le = two_within xs a c later both differ in omega arith)
    ]
  ]

  -- a name that two classes declare is shared
  pub is_shared : {S : Type 0} (classes : List Class) (set : HashSet ℕ S) → HasShared classes set → (a c : Class) → Contains classes a → Contains classes c → (a ≡ c → ⊥)
      → list_any is_it (fields_in a) ≡ true → list_any is_it (fields_in c) ≡ true → contains nat_eq set q ≡ true
  is_shared classes set shared a c h k differ in_a in_c =
      let one = stands (fields_in a) in_a in
      let other = stands (fields_in c) in_c in
      let both = two_within classes a c h k differ in
      shared q ∙ lt-ltb 1 (total classes) (omega arith)

-- a test of the name of some field of a class, in its parts
pub any_name : (p : ℕ → Bool) (c : Class) → list_any p (fields_in c) ≡ (list_any (λ f. p f.name) c.fields || list_any (λ f. p f.name) c.inject)
any_name p c =
    list_any-append p (map (λ f. f.name) c.fields) (map (λ f. f.name) c.inject)
    ∙ ap (λ b. b || list_any p (map (λ f. f.name) c.inject)) (list_any-map p (λ f. f.name) c.fields)
    ∙ ap (λ b. list_any (λ f. p f.name) c.fields || b) (list_any-map p (λ f. f.name) c.inject)

filter_none : {X : Type 0} (p : X → Bool) (xs : List X) → list_any p xs ≡ false → filter p xs ≡ []
filter_none p [] e = refl
filter_none p (x ∷ xs) e = by (p x) e (filter_none p xs)
  where
    by : (b : Bool) → (b || list_any p xs) ≡ false → (list_any p xs ≡ false → filter p xs ≡ []) → cond b (x ∷ filter p xs) (filter p xs) ≡ []
    by true e later = absurd cc
    by false e later = later e

pub first_part : (a b : Bool) → (a || b) ≡ false → a ≡ false
first_part true b e = e
first_part false b e = refl

pub other_part : (a b : Bool) → (a || b) ≡ false → b ≡ false
other_part true b e = absurd cc
other_part false b e = e

first_holds : (a b : Bool) → a ≡ true → (a || b) ≡ true
first_holds true b e = refl
first_holds false b e = absurd cc

other_holds : (a b : Bool) → b ≡ true → (a || b) ≡ true
other_holds true b e = refl
other_holds false b e = e

both_hold : (a b : Bool) → (a && b) ≡ true → a ≡ true
both_hold true b e = refl
both_hold false b e = e

module _ {S : Type 0} (classes : List Class) (set : HashSet ℕ S) (shared : HasShared classes set) (a c : Class) (above : Contains classes a) (listed : Contains classes c) (differ : a ≡ c → ⊥)
    (free : list_any (contains nat_eq set) (fields_in c) ≡ false) where
  abbrev shares : ℕ → Bool
  shares = contains nat_eq set

  parts : (list_any (λ f. shares f.name) c.fields || list_any (λ f. shares f.name) c.inject) ≡ false
  parts = sym (any_name shares c) ∙ free

  -- a field's name, which the class has, and the class above it
  field_shared : (q : ℕ) → list_any (is_it q) (fields_in c) ≡ true → has_field q a ≡ true → shares q ≡ true
  field_shared q own had = is_shared q classes set shared a c above listed differ (any_name (is_it q) a ∙ had) own

  own_field : (q : ℕ) → list_any (λ f. is_it q f.name) c.fields ≡ true → list_any (is_it q) (fields_in c) ≡ true
  own_field q one = any_name (is_it q) c ∙ first_holds (list_any (λ f. is_it q f.name) c.fields) (list_any (λ f. is_it q f.name) c.inject) one

  own_injected : (q : ℕ) → list_any (λ f. is_it q f.name) c.inject ≡ true → list_any (is_it q) (fields_in c) ≡ true
  own_injected q one = any_name (is_it q) c ∙ other_holds (list_any (λ f. is_it q f.name) c.fields) (list_any (λ f. is_it q f.name) c.inject) one

  no_field : list_any (λ f. has_field f.name a) c.fields ≡ false
  no_field = none_implied (λ f. has_field f.name a) (λ f. shares f.name) c.fields
      (λ f h had. field_shared f.name (own_field f.name (contained (λ g. is_it f.name g.name) c.fields f h (same_name f.name))) had)
      (first_part (list_any (λ f. shares f.name) c.fields) (list_any (λ f. shares f.name) c.inject) parts)

  no_injected : list_any (λ f. has_field f.name a) c.inject ≡ false
  no_injected = none_implied (λ f. has_field f.name a) (λ f. shares f.name) c.inject
      (λ f h had. field_shared f.name (own_injected f.name (contained (λ g. is_it f.name g.name) c.inject f h (same_name f.name))) had)
      (other_part (list_any (λ f. shares f.name) c.fields) (list_any (λ f. shares f.name) c.inject) parts)

  pub no_names : list_any (λ m. has_other_member m a) c.members ≡ false → repeated_names a c ≡ []
  no_names no_member =
      ap (λ fs. (map (λ f. f.name) fs ++ map (λ f. f.name) (filter (λ f. has_field f.name a) c.inject)) ++ map member_name (filter (λ m. has_other_member m a) c.members)) (filter_none (λ f. has_field f.name a) c.fields no_field)
      ∙ ap (λ fs. map (λ f. f.name) fs ++ map member_name (filter (λ m. has_other_member m a) c.members)) (filter_none (λ f. has_field f.name a) c.inject no_injected)
      ∙ ap (map member_name) (filter_none (λ m. has_other_member m a) c.members no_member)

  pub repeats_none : list_any (λ m. has_other_member m a) c.members ≡ false → (place : MemberPlace) → repeats_at c place a ≡ false
  repeats_none no_member place = ap (list_any (λ name. same_place (c.name, name) place)) (no_names no_member)

found : (p : Class → Bool) (classes : List Class) (c : Class) → find p classes ≡ Some c → Contains classes c
found p [] c e = absurd cc
found p (x ∷ xs) c e = by (p x) e (found p xs c)
  where
    by : (b : Bool) → cond b (Some x) (find p xs) ≡ Some c → (find p xs ≡ Some c → Contains xs c) → Contains (x ∷ xs) c
    by true e later = let P : Class → Type 0 = λ y. Contains (x ∷ xs) y in let same : x ≡ c = cc in subst P same (0, omega arith, refl)
    by false e later = Contains-append_right (x ∷ []) xs c (later e)

-- Such a class, if it isn't above itself, repeats none of the names of the classes of a line.
module _ {S : Type 0} (classes : List Class) (types : List TypeDeclaration) (set : HashSet ℕ S) (shared : HasShared classes set) (names : MixedNames) (seen : HasSeenAll classes names)
    (c : Class) (listed : Contains classes c) (direct : ℕ) (line : List Class) (is_line : IsLineOf types classes direct line)
    (free : list_any (contains nat_eq set) (fields_in c) ≡ false) (unmixed : has_mixed names c.members ≡ false) (alone : list_any (λ a. nat_eq a.name c.name) line ≡ false) where
  in_classes : (a : Class) → Contains line a → Contains classes a
  in_classes a h =
      let P : List Class → Type 0 = λ cs. Contains cs a in
      let from = filter_map-from (class_named classes) is_line.names a (subst P is_line.named h) in
      found (λ d. nat_eq d.name from.0) classes a from.2

  pub none_repeated : (place : MemberPlace) → list_any (repeats_at c place) line ≡ false
  none_repeated place = none_implied (repeats_at c place) (λ a. nat_eq a.name c.name) line
      (λ a h repeats. elim (cases_Bool (nat_eq a.name c.name)) [
        | inl same ↦ same
        | inr other ↦ (
            let differ : a ≡ c → ⊥ = λ is. (let t = same_name c.name in let u : nat_eq a.name c.name ≡ nat_eq c.name c.name = ap (λ (d : Class). nat_eq d.name c.name) is in absurd cc) in
            let alike = no_other_member classes names seen a c (in_classes a h) listed unmixed in
            let none = repeats_none classes set shared a c (in_classes a h) listed differ free alike place in
            absurd cc
            )
      ])
      alone
