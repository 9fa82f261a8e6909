-- When two lists of qualifiers are those of one event.
use Rattle.std.proofs.Common.{◌≡◌, ◌∙◌, refl, sym, ap, subst, ℕ, zero, suc, ◌&&◌, ◌||◌, ◌⊎◌, inl, inr, nat_eq, Bool, true, false, List, [], ◌∷◌, ◌++◌, get_or, arith}
use Rattle.std.specs.Prelude.{◌≢◌, ◌↔◌, bytes_eq}
use Rattle.std.specs.Cmp.{IsPartialEquivalence}
use Rattle.std.proofs.lemmas.Bool.Decides.{Decides-int_eq}
use Rattle.std.specs.List.{Any, Contains, list_any}
use Rattle.std.proofs.lemmas.Bool.{and_from, and_parts, eq-eqb, eqb-true, false_from_ne_true, or_left, or_right, true≢false}
use Rattle.std.proofs.lemmas.Cmp.{int_eq_equiv, nat_eq_equiv, nat_list_eq_equiv}
use Rattle.std.proofs.lemmas.List.Elements.{Contains-append_cases, Contains-append_left, Contains-append_right, Contains-get_or}
use Rattle.std.proofs.lemmas.List.Folds.{Any-from_list_any, list_any-from_Any}
use Rattle.std.proofs.lemmas.List.Sums.{AllPass-from_list_all, list_all-from_AllPass}
use Rattle.cdi_base.specs.BuiltIn.{number_of}
use Rattle.cdi_base.specs.declared.built_in.BuiltIn.TheVariants as names
use Rattle.cdi_base.specs.declared.uses.MemberValue.{MemberValue}
use Rattle.cdi_base.specs.declared.uses.Use.{Use}
use Rattle.cdi_base.specs.declared.value.Value.{Value}
use Rattle.cdi_base.specs.declared.value.Value.TheVariants as values
use Rattle.cdi_bodies.specs.Events.{has_each, same_items, value_eq, is_null, same_member, is_not_given, same_use, is_any, same_qualifiers, AreAlike, AreAmong}

-- ---- lists

module _ {X : Type 0} (s : X → Bool) (R : X → X → Bool) where
  -- each that isn't left out has a same one
  abbrev Finds : List X → List X → Type 0
  Finds xs ys = (y : X) → Contains ys y → s y ≡ false → Any (λ x. R x y ≡ true) xs

  finds : (xs ys : List X) → has_each s R xs ys ≡ true → Finds xs ys
  finds xs ys h y c e =
      let all = AllPass-from_list_all (λ z. s z || list_any (λ x. R x z) xs) ys h c.0 y c.1 in
      let here : (s y || list_any (λ x. R x y) xs) ≡ true = subst (λ z. (s z || list_any (λ x. R x z) xs) ≡ true) c.2 all in
      Any-from_list_any (λ x. R x y) xs (ap (λ b. b || list_any (λ x. R x y) xs) (sym e) ∙ here)

  each_found : (xs ys : List X) → Finds xs ys → has_each s R xs ys ≡ true
  each_found xs ys h =
      list_all-from_AllPass (λ y. s y || list_any (λ x. R x y) xs) ys
      (λ k d lt. by (get_or ys k d) (Contains-get_or ys k d lt) (s (get_or ys k d)) refl)
    where
      by : (y : X) → Contains ys y → (b : Bool) → s y ≡ b → (s y || list_any (λ x. R x y) xs) ≡ true
      by y c true e = or_left (s y) (list_any (λ x. R x y) xs) e
      by y c false e = or_right (s y) (list_any (λ x. R x y) xs) (list_any-from_Any (λ x. R x y) xs (h y c e))

  -- where the same ones are left out together
  module _ (e : IsPartialEquivalence R) (r : (x : X) → R x x ≡ true) (respects : (x y : X) → R x y ≡ true → s x ≡ s y) where
    through : (xs ys zs : List X) → Finds xs ys → Finds ys zs → Finds xs zs
    through xs ys zs f g z c out =
        let near : Any (λ y. R y z ≡ true) ys = g z c out in
        let y : X = near.1 in
        let far : Any (λ x. R x y ≡ true) xs = f y (near.0, near.2, near.3) (respects y z near.4 ∙ out) in
        (far.0, far.1, far.2, far.3, e.trans far.1 y z far.4 near.4)

    finds_own : (xs ys : List X) → ((x : X) → s x ≡ false → Contains ys x → Contains xs x) → Finds xs ys
    finds_own xs ys own y c out = let there : Contains xs y = own y out c in (there.0, y, there.1, there.2, r y)

    same_back : (xs ys : List X) → same_items s R xs ys ≡ same_items s R ys xs
    same_back xs ys = by (has_each s R xs ys) (has_each s R ys xs)
      where
        by : (a b : Bool) → (a && b) ≡ (b && a)
        by true true = refl
        by true false = refl
        by false true = refl
        by false false = refl

    same_of : (xs ys : List X) → Finds xs ys → Finds ys xs → same_items s R xs ys ≡ true
    same_of xs ys f g = and_from (has_each s R xs ys) (has_each s R ys xs) (each_found xs ys f) (each_found ys xs g)

    same_through : (xs ys zs : List X) → same_items s R xs ys ≡ true → same_items s R ys zs ≡ true → same_items s R xs zs ≡ true
    same_through xs ys zs p q =
        let first = and_parts (has_each s R xs ys) (has_each s R ys xs) p in
        let second = and_parts (has_each s R ys zs) (has_each s R zs ys) q in
        same_of xs zs (through xs ys zs (finds xs ys first.0) (finds ys zs second.0))
        (through zs ys xs (finds zs ys second.1) (finds ys xs first.1))

    same_as_those : (xs ys : List X) → ((x : X) → s x ≡ false → Contains xs x ↔ Contains ys x) → same_items s R xs ys ≡ true
    same_as_those xs ys both = same_of xs ys (finds_own xs ys (λ x out. (both x out).1)) (finds_own ys xs (λ x out. (both x out).0))

    same_itself : (xs : List X) → same_items s R xs xs ≡ true
    same_itself xs = same_as_those xs xs (λ x out. (λ c. c, λ c. c))

    items_equiv : IsPartialEquivalence (same_items s R)
    items_equiv = record { symm = same_back; trans = same_through }

    -- one item for a same one
    one_for_another : (x y : X) (front back : List X) → R x y ≡ true → Finds (front ++ x ∷ back) (front ++ y ∷ back)
    one_for_another x y front back same z c out = by (Contains-append_cases front (y ∷ back) z c)
      where
        within : (zs : List X) (w : X) → R w z ≡ true → Contains zs w → Any (λ v. R v z ≡ true) zs
        within zs w h there = (there.0, w, there.1, there.2, h)

        behind : Contains (y ∷ back) z → Any (λ v. R v z ≡ true) (front ++ x ∷ back)
        behind (zero, lt, is) = within (front ++ x ∷ back) x (subst (λ w. R x w ≡ true) is same) (Contains-append_right front (x ∷ back) x (0, omega arith, refl))
        behind (suc k, lt, is) = within (front ++ x ∷ back) z (r z) (Contains-append_right front (x ∷ back) z (suc k, omega arith, is))

        by : Contains front z ⊎ Contains (y ∷ back) z → Any (λ v. R v z ≡ true) (front ++ x ∷ back)
        by (inl h) = within (front ++ x ∷ back) z (r z) (Contains-append_left front (x ∷ back) z h)
        by (inr h) = behind h

    same_with_another : (x y : X) (front back : List X) → R x y ≡ true → same_items s R (front ++ x ∷ back) (front ++ y ∷ back) ≡ true
    same_with_another x y front back same =
        same_of (front ++ x ∷ back) (front ++ y ∷ back) (one_for_another x y front back same) (one_for_another y x front back (e.symm y x ∙ same))

-- ---- members

value_itself : (v : Value) → value_eq v v ≡ true
value_itself values.Null = refl
value_itself (values.Int n) = int_eq_equiv.refl n
value_itself (values.Text s) = nat_list_eq_equiv.refl s

value_back : (v w : Value) → value_eq v w ≡ value_eq w v
value_back values.Null values.Null = refl
value_back values.Null (values.Int n) = refl
value_back values.Null (values.Text t) = refl
value_back (values.Int n) values.Null = refl
value_back (values.Int m) (values.Int n) = int_eq_equiv.symm m n
value_back (values.Int n) (values.Text t) = refl
value_back (values.Text t) values.Null = refl
value_back (values.Text t) (values.Int n) = refl
value_back (values.Text s) (values.Text t) = nat_list_eq_equiv.symm s t

value_through : (u v w : Value) → value_eq u v ≡ true → value_eq v w ≡ true → value_eq u w ≡ true
value_through values.Null values.Null w p q = q
value_through values.Null (values.Int n) w p q = absurd (true≢false (sym p))
value_through values.Null (values.Text t) w p q = absurd (true≢false (sym p))
value_through (values.Int n) values.Null w p q = absurd (true≢false (sym p))
value_through (values.Int m) (values.Int n) (values.Int k) p q = int_eq_equiv.congr m n k p ∙ q
value_through (values.Int m) (values.Int n) values.Null p q = absurd (true≢false (sym q))
value_through (values.Int m) (values.Int n) (values.Text t) p q = absurd (true≢false (sym q))
value_through (values.Int n) (values.Text t) w p q = absurd (true≢false (sym p))
value_through (values.Text t) values.Null w p q = absurd (true≢false (sym p))
value_through (values.Text t) (values.Int n) w p q = absurd (true≢false (sym p))
value_through (values.Text s) (values.Text t) (values.Text r) p q = nat_list_eq_equiv.congr s t r p ∙ q
value_through (values.Text s) (values.Text t) values.Null p q = absurd (true≢false (sym q))
value_through (values.Text s) (values.Text t) (values.Int n) p q = absurd (true≢false (sym q))

null_with : (v w : Value) → value_eq v w ≡ true → is_null v ≡ is_null w
null_with values.Null values.Null p = refl
null_with values.Null (values.Int n) p = absurd (true≢false (sym p))
null_with values.Null (values.Text t) p = absurd (true≢false (sym p))
null_with (values.Int n) values.Null p = absurd (true≢false (sym p))
null_with (values.Int m) (values.Int n) p = refl
null_with (values.Int n) (values.Text t) p = refl
null_with (values.Text t) values.Null p = absurd (true≢false (sym p))
null_with (values.Text t) (values.Int n) p = refl
null_with (values.Text s) (values.Text t) p = refl

both_parts : (a b c d : Bool) → a ≡ c → b ≡ d → (a && b) ≡ (c && d)
both_parts a b c d p q = rw (p, q) refl

names_through : (a b c : ℕ) → nat_eq a b ≡ true → nat_eq b c ≡ true → nat_eq a c ≡ true
names_through a b c p q = nat_eq_equiv.congr a b c p ∙ q

member_equiv : IsPartialEquivalence same_member
member_equiv = record {
  symm = λ m n. both_parts (nat_eq m.name n.name) (value_eq m.value n.value) (nat_eq n.name m.name) (value_eq n.value m.value) (nat_eq_equiv.symm m.name n.name) (value_back m.value n.value);
  trans = λ l m n p q.
      let first = and_parts (nat_eq l.name m.name) (value_eq l.value m.value) p in
      let second = and_parts (nat_eq m.name n.name) (value_eq m.value n.value) q in
      and_from (nat_eq l.name n.name) (value_eq l.value n.value) (names_through l.name m.name n.name first.0 second.0) (value_through l.value m.value n.value first.1 second.1);
}

member_itself : (m : MemberValue) → same_member m m ≡ true
member_itself m = and_from (nat_eq m.name m.name) (value_eq m.value m.value) (nat_eq_equiv.refl m.name) (value_itself m.value)

given_with : (m n : MemberValue) → same_member m n ≡ true → is_not_given m ≡ is_not_given n
given_with m n p = null_with m.value n.value (and_parts (nat_eq m.name n.name) (value_eq m.value n.value) p).1

abbrev members_same : List MemberValue → List MemberValue → Bool
members_same ms ns = same_items is_not_given same_member ms ns

members_equiv : IsPartialEquivalence members_same
members_equiv = items_equiv is_not_given same_member member_equiv member_itself given_with

-- ---- uses

use_equiv : IsPartialEquivalence same_use
use_equiv = record {
  symm = λ u v. both_parts (nat_eq u.name v.name) (members_same u.members v.members) (nat_eq v.name u.name) (members_same v.members u.members) (nat_eq_equiv.symm u.name v.name) (members_equiv.symm u.members v.members);
  trans = λ u v w p q.
      let first = and_parts (nat_eq u.name v.name) (members_same u.members v.members) p in
      let second = and_parts (nat_eq v.name w.name) (members_same v.members w.members) q in
      and_from (nat_eq u.name w.name) (members_same u.members w.members) (names_through u.name v.name w.name first.0 second.0) (members_equiv.trans u.members v.members w.members first.1 second.1);
}

use_itself : (u : Use) → same_use u u ≡ true
use_itself u = and_from (nat_eq u.name u.name) (members_same u.members u.members) (nat_eq_equiv.refl u.name) (same_itself is_not_given same_member member_equiv member_itself given_with u.members)

any_with : (u v : Use) → same_use u v ≡ true → is_any u ≡ is_any v
any_with u v p = ap (λ n. nat_eq n (number_of names.Any)) (eqb-true u.name v.name (and_parts (nat_eq u.name v.name) (members_same u.members v.members) p).0)

-- ---- the same without tests

null_from : (v : Value) → is_null v ≡ false → v ≢ values.Null
null_from v h e = true≢false (sym (ap is_null e) ∙ h)

null_to : (v : Value) → v ≢ values.Null → is_null v ≡ false
null_to values.Null h = absurd (h refl)
null_to (values.Int n) h = refl
null_to (values.Text t) h = refl

other_name : (u : Use) → is_any u ≡ false → u.name ≢ number_of names.Any
other_name u h e = true≢false (sym (eq-eqb u.name (number_of names.Any) e) ∙ h)

not_any : (u : Use) → u.name ≢ number_of names.Any → is_any u ≡ false
not_any u h = false_from_ne_true (is_any u) (λ e. h (eqb-true u.name (number_of names.Any) e))

text_is : (s t : List ℕ) → bytes_eq s t ≡ true → s ≡ t
text_is [] [] e = refl
text_is [] (y ∷ ys) e = absurd (true≢false (sym e))
text_is (x ∷ xs) [] e = absurd (true≢false (sym e))
text_is (x ∷ xs) (y ∷ ys) e = let parts = and_parts (nat_eq x y) (bytes_eq xs ys) e in rw (eqb-true x y parts.0, text_is xs ys parts.1) refl

value_is : (v w : Value) → value_eq v w ≡ true → v ≡ w
value_is values.Null values.Null p = refl
value_is values.Null (values.Int n) p = absurd (true≢false (sym p))
value_is values.Null (values.Text t) p = absurd (true≢false (sym p))
value_is (values.Int n) values.Null p = absurd (true≢false (sym p))
value_is (values.Int m) (values.Int n) p = ap (λ k. values.Int k) ((Decides-int_eq m n).0 p)
value_is (values.Int n) (values.Text t) p = absurd (true≢false (sym p))
value_is (values.Text t) values.Null p = absurd (true≢false (sym p))
value_is (values.Text t) (values.Int n) p = absurd (true≢false (sym p))
value_is (values.Text s) (values.Text t) p = ap (λ r. values.Text r) (text_is s t p)

abbrev member_of : ℕ → Value → MemberValue
member_of n v = record { name = n; value = v }

member_is : (m n : MemberValue) → same_member m n ≡ true → m ≡ n
member_is m n p =
    let parts = and_parts (nat_eq m.name n.name) (value_eq m.value n.value) p in
    ap (λ k. member_of k m.value) (eqb-true m.name n.name parts.0) ∙ ap (λ v. member_of n.name v) (value_is m.value n.value parts.1)

had : (ms ns : List MemberValue) → has_each is_not_given same_member ms ns ≡ true → (m : MemberValue) → m.value ≢ values.Null → Contains ns m → Contains ms m
had ms ns h m given there =
    let found = finds is_not_given same_member ms ns h m there (null_to m.value given) in
    subst (λ n. Contains ms n) (member_is found.1 m found.4) (found.0, found.2, found.3)

alike : (u v : Use) → same_use u v ≡ true → AreAlike u v
alike u v p =
    let parts = and_parts (nat_eq u.name v.name) (members_same u.members v.members) p in
    let each = and_parts (has_each is_not_given same_member u.members v.members) (has_each is_not_given same_member v.members u.members) parts.1 in
    (eqb-true u.name v.name parts.0, λ m given. (had v.members u.members each.1 m given, had u.members v.members each.0 m given))

same_if_alike : (u v : Use) → AreAlike u v → same_use u v ≡ true
same_if_alike u v a =
    and_from (nat_eq u.name v.name) (members_same u.members v.members) (eq-eqb u.name v.name a.0)
    (same_as_those is_not_given same_member member_equiv member_itself given_with u.members v.members (λ m given. a.1 m (null_from m.value given)))

among_from : (us vs : List Use) → has_each is_any same_use vs us ≡ true → AreAmong us vs
among_from us vs h u other there =
    let found = finds is_any same_use vs us h u there (not_any u other) in
    (found.0, found.1, found.2, found.3, alike u found.1 (use_equiv.symm u found.1 ∙ found.4))

among_to : (us vs : List Use) → AreAmong us vs → has_each is_any same_use vs us ≡ true
among_to us vs h =
    each_found is_any same_use vs us (λ u there out.
    let found = h u (other_name u out) there in
    (found.0, found.1, found.2, found.3, use_equiv.symm found.1 u ∙ same_if_alike u found.1 found.4))

-- ---- qualifiers

pub reflexive : (us : List Use) → same_qualifiers us us ≡ true
reflexive = same_itself is_any same_use use_equiv use_itself any_with

pub symmetric : (us vs : List Use) → same_qualifiers us vs ≡ same_qualifiers vs us
symmetric = same_back is_any same_use use_equiv use_itself any_with

pub transitive : (us vs ws : List Use) → same_qualifiers us vs ≡ true → same_qualifiers vs ws ≡ true → same_qualifiers us ws ≡ true
transitive = same_through is_any same_use use_equiv use_itself any_with

pub of_uses : (us vs : List Use) → ((u : Use) → u.name ≢ number_of names.Any → Contains us u ↔ Contains vs u) → same_qualifiers us vs ≡ true
of_uses us vs both = same_as_those is_any same_use use_equiv use_itself any_with us vs (λ u out. both u (other_name u out))

pub of_members : (u v : Use) (front back : List Use) → AreAlike u v → same_qualifiers (front ++ u ∷ back) (front ++ v ∷ back) ≡ true
of_members u v front back a = same_with_another is_any same_use use_equiv use_itself any_with u v front back (same_if_alike u v a)

pub exact : (us vs : List Use) → (same_qualifiers us vs ≡ true) ↔ (AreAmong us vs × AreAmong vs us)
exact us vs = (
  λ h. let each = and_parts (has_each is_any same_use us vs) (has_each is_any same_use vs us) h in (among_from us vs each.1, among_from vs us each.0),
  λ h. and_from (has_each is_any same_use us vs) (has_each is_any same_use vs us) (among_to vs us h.1) (among_to us vs h.0),
)
