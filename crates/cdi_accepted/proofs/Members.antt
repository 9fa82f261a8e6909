-- What a bean has of the methods that the classes of its line declare, where members of one name are alike.
use Rattle.std.proofs.Common.{ℕ, ◌≡◌, ◌∙◌, ◌||◌, ◌&&◌, ◌⊎◌, inl, inr, Bool, true, false, not, nat_eq, List, [], ◌∷◌, filter, refl, sym, ap, subst}
use Rattle.std.proofs.lemmas.Bool.{and_from, and_parts, eqb-true, or_cases, true≢false}
use Rattle.std.specs.List.{list_any}
use Rattle.cdi_bean_check.specs.Repeated.{is_alike}
use Rattle.cdi_deployment.specs.declared.deployment.Class.{Class}
use Rattle.cdi_deployment.specs.declared.deployment.Member.{Member}
use Rattle.cdi_deployment.specs.declared.deployment.Member.TheVariants as members
use Rattle.cdi_deployment.specs.declared.deployment.Method.{Method}
use Rattle.cdi_types.specs.Members.{is_inherited, declares, comes_down, parts_of, members_of}
use Rattle.cdi_deployment.specs.Member.{member_name}
use Rattle.cdi_planner.proofs.Names.{same}
use Rattle.cdi_shape_check.specs.OwnParts.{declares_method, is_method}
use Rattle.cdi_accepted.proofs.Lists.{Among, among_filter, among_left, among_map, among_parts, among_right, any_passes, mapped, none_passes, of_filter, passing}
use Rattle.cdi_accepted.proofs.Duplicates.{IsNamedApart}
use Rattle.cdi_accepted.proofs.Lines.{ArePairs}
use Rattle.cdi_accepted.proofs.Repeats.{Fits}

-- ---- members that are methods

is_named_method : (name count : ℕ) (m : Member) → is_method name count m ≡ true → nat_eq (member_name m) name ≡ true
is_named_method name count (members.Method m) e = (and_parts (nat_eq m.name name) (nat_eq m.args count) e).0
is_named_method name count _ e = absurd (true≢false (sym e))

inherits_method : (name count : ℕ) (m : Member) → is_method name count m ≡ true → is_inherited m ≡ true
inherits_method name count (members.Method m) e = refl
inherits_method name count _ e = absurd (true≢false (sym e))

-- what is alike to a method is one, too
alike_method : (name count : ℕ) (m n : Member) → is_method name count m ≡ true → is_alike m n ≡ true → nat_eq (member_name n) name ≡ true → is_method name count n ≡ true
alike_method name count (members.Method m) (members.Method n) e alike named =
    let args : m.args ≡ n.args = eqb-true m.args n.args alike in
    and_from (nat_eq n.name name) (nat_eq n.args count) named (ap (λ k. nat_eq k count) (sym args) ∙ (and_parts (nat_eq m.name name) (nat_eq m.args count) e).1)
alike_method name count (members.Method m) _ e alike named = absurd (true≢false (sym alike))
alike_method name count _ n e alike named = absurd (true≢false (sym e))

-- a member of a class fits a method of the name in a class above
below_method : (name count : ℕ) (above c : Class) (m n : Member) → Fits above c → Among m above.members → is_method name count m ≡ true → Among n c.members → nat_eq (member_name n) name ≡ true
    → is_method name count n ≡ true
below_method name count above c m n fits there e here named = alike_method name count m n e (by (is_alike m n) refl) named
  where
    one : member_name m ≡ member_name n
    one = eqb-true (member_name m) name (is_named_method name count m e) ∙ sym (eqb-true (member_name n) name named)

    test : nat_eq (member_name m) (member_name n) ≡ true
    test = ap (λ k. nat_eq k (member_name n)) one ∙ same (member_name n)

    by : (b : Bool) → is_alike m n ≡ b → is_alike m n ≡ true
    by true t = t
    by false t =
        let other : (nat_eq (member_name m) (member_name n) && not (is_alike m n)) ≡ true =
        and_from (nat_eq (member_name m) (member_name n)) (not (is_alike m n)) test (ap not t) in
        absurd (true≢false (sym other ∙ none_passes (λ k. nat_eq (member_name k) (member_name n) && not (is_alike k n)) above.members m (fits.members n here) there))

-- ---- lines

-- a member that a bean has, with its class, which stands in the line
pub record IsOfLine (line : List Class) (c : Class) (m : Member) : Type 0 where
  pub class : Among c line
  pub member : Among m c.members

pub of_line : (line : List Class) (c : Class) (m : Member) → Among (c, m) (members_of line) → IsOfLine line c m
of_line [] c m a = absurd a
of_line (k ∷ below) c m a = by (of_line below c m) (among_parts (parts_of k (filter (comes_down below) k.members)) (members_of below) (c, m) a)
  where
    by : (Among (c, m) (members_of below) → IsOfLine below c m) → Among (c, m) (parts_of k (filter (comes_down below) k.members)) ⊎ Among (c, m) (members_of below) → IsOfLine (k ∷ below) c m
    by more (inl s) =
        let found = mapped (λ part. (k, part)) (filter (comes_down below) k.members) (c, m) s in
        let kept = of_filter (comes_down below) k.members found.item found.stands in
        let class : c ≡ k = ap (λ (p : Class × Member). p.0) found.is in
        let member : m ≡ found.item = ap (λ (p : Class × Member). p.1) found.is in
        let P : Class × Member → Type 0 = λ p. Among p.1 p.0.members in
        record { class = inl class; member = subst P (sym found.is) kept.0 }
    by more (inr s) = let found = more s in record { class = inr found.class; member = found.member }

-- a method of this name, which takes so many values, that a bean has
pub record HasMethodIn (line : List Class) (name count : ℕ) : Type 0 where
  pub class : Class
  pub method : Method
  pub stands : Among (class, members.Method method) (members_of line)
  pub is : is_method name count (members.Method method) ≡ true

module _ (name count : ℕ) where
  record IsMethodMember (m : Member) : Type 0 where
    method : Method
    is : m ≡ members.Method method

  as_method : (m : Member) → is_method name count m ≡ true → IsMethodMember m
  as_method (members.Method m) e = record { method = m; is = refl }
  as_method _ e = absurd (true≢false (sym e))

  -- a bean has a method that some class of its line declares
  pub has_declared : (line : List Class) → list_any (declares_method name count) line ≡ true → ArePairs Fits line → HasMethodIn line name count
  has_declared [] e pairs = absurd (true≢false (sym e))
  has_declared (c ∷ below) e pairs = by (list_any (declares_method name count) below) refl (λ t. has_declared below t pairs.1)
    where
      own : List (Class × Member)
      own = parts_of c (filter (comes_down below) c.members)

      here : list_any (declares_method name count) below ≡ false → declares_method name count c ≡ true
      here f = first (declares_method name count c) (list_any (declares_method name count) below) e f
        where
          first : (a b : Bool) → (a || b) ≡ true → b ≡ false → a ≡ true
          first true b t g = refl
          first false b t g = absurd (true≢false (sym t ∙ g))

      -- no class below declares the name, or else a method of it
      undeclared : list_any (declares_method name count) below ≡ false → (m : Member) → Among m c.members → is_method name count m ≡ true → list_any (declares (member_name m)) below ≡ false
      undeclared f m there t = at (list_any (declares (member_name m)) below) refl
        where
          at : (b : Bool) → list_any (declares (member_name m)) below ≡ b → b ≡ false
          at false g = refl
          at true g =
              let class = passing (declares (member_name m)) below g in
              let member = passing (λ n. nat_eq (member_name n) (member_name m)) class.item.members class.passes in
              let named : nat_eq (member_name member.item) name ≡ true =
              ap (λ k. nat_eq k name) (eqb-true (member_name member.item) (member_name m) member.passes) ∙ is_named_method name count m t in
              let method = below_method name count c class.item m member.item (pairs.0 class.item class.stands) there t member.stands named in
              let declared = any_passes (is_method name count) class.item.members member.item member.stands method in
              absurd (true≢false (sym (any_passes (declares_method name count) below class.item class.stands declared) ∙ f))

      down : (ms : List Class) (m : Member) → is_inherited m ≡ true → list_any (declares (member_name m)) ms ≡ false → comes_down ms m ≡ true
      down [] m i f = refl
      down (k ∷ ks) m i f = and_from (is_inherited m) (not (list_any (declares (member_name m)) (k ∷ ks))) i (ap not f)

      by : (b : Bool) → list_any (declares_method name count) below ≡ b → (list_any (declares_method name count) below ≡ true → HasMethodIn below name count) → HasMethodIn (c ∷ below) name count
      by true t more = let found = more t in record { class = found.class; method = found.method; stands = among_right own (members_of below) _ found.stands; is = found.is }
      by false f more =
          let found = passing (is_method name count) c.members (here f) in
          let it = as_method found.item found.passes in
          let P : Member → Type 0 = λ m. Among m (filter (comes_down below) c.members) in
          let Q : Member → Type 0 = λ m. is_method name count m ≡ true in
          let kept : Among found.item (filter (comes_down below) c.members) =
          among_filter (comes_down below) c.members found.item found.stands
          (down below found.item (inherits_method name count found.item found.passes) (undeclared f found.item found.stands found.passes)) in
          record {
            class = c;
            method = it.method;
            stands = among_left own (members_of below) _ (among_map (λ part. (c, part)) _ _ (subst P it.is kept));
            is = subst Q it.is found.passes;
          }

  -- whatever it has of the name is a method that takes so many values
  pub all_declared : (line : List Class) → list_any (declares_method name count) line ≡ true → ArePairs Fits line → ((c : Class) → Among c line → IsNamedApart c)
      → (c : Class) (m : Member) → Among (c, m) (members_of line) → nat_eq (member_name m) name ≡ true → is_method name count m ≡ true
  all_declared [] e pairs apart c m a named = absurd a
  all_declared (k ∷ below) e pairs apart c m a named =
      by (λ t s. all_declared below t pairs.1 (λ x b. apart x (inr b)) c m s named)
      (or_cases (declares_method name count k) (list_any (declares_method name count) below) e) (among_parts own (members_of below) (c, m) a)
    where
      own : List (Class × Member)
      own = parts_of k (filter (comes_down below) k.members)

      -- a member with the name doesn't come down past a class that declares the name
      passed : list_any (declares_method name count) below ≡ true → comes_down below m ≡ true → ⊥
      passed t down =
          let class = passing (declares_method name count) below t in
          let member = passing (is_method name count) class.item.members class.passes in
          let one : nat_eq (member_name member.item) (member_name m) ≡ true =
          ap (λ n. nat_eq n (member_name m)) (eqb-true (member_name member.item) name (is_named_method name count member.item member.passes) ∙ sym (eqb-true (member_name m) name named))
          ∙ same (member_name m) in
          let declared = any_passes (λ n. nat_eq (member_name n) (member_name m)) class.item.members member.item member.stands one in
          at below (any_passes (declares (member_name m)) below class.item class.stands declared) t down
        where
          at : (cs : List Class) → list_any (declares (member_name m)) cs ≡ true → list_any (declares_method name count) cs ≡ true → comes_down cs m ≡ true → ⊥
          at [] d t down = true≢false (sym t)
          at (x ∷ xs) d t down =
              true≢false (sym (and_parts (is_inherited m) (not (list_any (declares (member_name m)) (x ∷ xs))) down).1 ∙ ap not d)

      by : (list_any (declares_method name count) below ≡ true → Among (c, m) (members_of below) → is_method name count m ≡ true) → (declares_method name count k ≡ true) ⊎ (list_any (declares_method name count) below ≡ true) → Among (c, m) own ⊎ Among (c, m) (members_of below) → is_method name count m ≡ true
      by more (inr t) (inr s) = more t s
      by more (inl t) (inr s) =
          let it = of_line below c m s in
          let method = passing (is_method name count) k.members t in
          below_method name count k c method.item m (pairs.0 c it.class) method.stands method.passes it.member named
      by more (inr t) (inl s) =
          let found = mapped (λ part. (k, part)) (filter (comes_down below) k.members) (c, m) s in
          let kept = of_filter (comes_down below) k.members found.item found.stands in
          let member : found.item ≡ m = sym (ap (λ (p : Class × Member). p.1) found.is) in
          absurd (passed t (ap (comes_down below) (sym member) ∙ kept.1))
      by more (inl t) (inl s) =
          let found = mapped (λ part. (k, part)) (filter (comes_down below) k.members) (c, m) s in
          let kept = of_filter (comes_down below) k.members found.item found.stands in
          let method = passing (is_method name count) k.members t in
          let member : found.item ≡ m = sym (ap (λ (p : Class × Member). p.1) found.is) in
          let one : member_name method.item ≡ member_name found.item =
          eqb-true (member_name method.item) name (is_named_method name count method.item method.passes)
          ∙ sym (eqb-true (member_name m) name named) ∙ sym (ap member_name member) in
          let is : method.item ≡ m = (apart k (inl refl)).members method.item found.item method.stands kept.0 one ∙ member in
          ap (is_method name count) (sym is) ∙ method.passes
