-- In a deployment without duplicate names the members of a class are named apart, so are its injected fields, and no interface or
-- built-in class has the name of a class.
use Rattle.std.proofs.Common.{ℕ, ◌≡◌, ◌∙◌, ◌+◌, inl, inr, List, [], ◌∷◌, ◌++◌, map, option_to_list, refl, sym, ap, subst, append_assoc, append-nil, arith}
use Rattle.std.proofs.lemmas.Grind.{flat_map-append}
use Rattle.std.proofs.lemmas.List.Elements.{Contains-append_left, Contains-append_right}
use Rattle.std.specs.List.{Contains, flat_map, enumerate_from}
use Rattle.cdi_deployment.specs.declared.deployment.Class.{Class}
use Rattle.cdi_deployment.specs.declared.deployment.Deployment.{Deployment}
use Rattle.cdi_deployment.specs.declared.deployment.InjectedField.{InjectedField}
use Rattle.cdi_deployment.specs.declared.deployment.Interface.{Interface}
use Rattle.cdi_deployment.specs.declared.deployment.Member.{Member}
use Rattle.cdi_deployment.specs.declared.deployment.Member.TheVariants as members
use Rattle.cdi_deployment.specs.Member.{member_name}
use Rattle.cdi_name_check.specs.DuplicateName.{HasDuplicateName, claims_of, claims_after, built_in_claims}
use Rattle.cdi_name_check.specs.NameProblems.{AreNameProblems}
use Rattle.cdi_name_check.specs.declared.claim.Claim.{Claim}
use Rattle.cdi_name_check.specs.declared.claim.Claim.TheVariants as claims
use Rattle.cdi_problems.specs.Elements.{Element, elements_of, class_elements, interceptor_elements, place_of}
use Rattle.cdi_problems.specs.Findings.{Placed, placed_after, placed}
use Rattle.cdi_problems.specs.Words.{problems_at}
use Rattle.cdi_problems.specs.declared.problem.ProblemKind.TheVariants as kinds
use Rattle.cdi_types.specs.ListsThose.{ListsThose}
use Rattle.cdi_check.proofs.Accepted.{append_none, map_none, no_places}
use Rattle.cdi_accepted.proofs.Lists.{Among, among_contains, among_flat_map, among_left, among_map}

-- ---- elements free of which has a duplicate name, after some that stand before them

abbrev HaveNone : List Element → List Element → Type 0
HaveNone before es = ListsThose HasDuplicateName (placed_after before es) []

first_has_none : (before : List Element) (e : Element) (es : List Element) → HaveNone before (e ∷ es) → HasDuplicateName (record { before = before; element = e }) → ⊥
first_has_none before e es (ListsThose.skip not rest) = not

others_have_none : (before : List Element) (e : Element) (es : List Element) → HaveNone before (e ∷ es) → HaveNone (before ++ e ∷ []) es
others_have_none before e es (ListsThose.skip not rest) = rest

front_has_none : (before xs ys : List Element) → HaveNone before (xs ++ ys) → HaveNone before xs
front_has_none before [] ys free = ListsThose.none
front_has_none before (x ∷ xs) ys free =
    ListsThose.skip (first_has_none before x (xs ++ ys) free) (front_has_none (before ++ x ∷ []) xs ys (others_have_none before x (xs ++ ys) free))

back_has_none : (before xs ys : List Element) → HaveNone before (xs ++ ys) → HaveNone (before ++ xs) ys
back_has_none before [] ys free = let P : List Element → Type 0 = λ b. HaveNone b ys in subst P (sym (append-nil before)) free
back_has_none before (x ∷ xs) ys free =
    let P : List Element → Type 0 = λ b. HaveNone b ys in
    subst P (append_assoc before (x ∷ []) xs) (back_has_none (before ++ x ∷ []) xs ys (others_have_none before x (xs ++ ys) free))

-- ---- what is claimed by more elements

claims_grow : (before more : List Element) → claims_after (before ++ more) ≡ claims_after before ++ flat_map claims_of more
claims_grow before more =
    ap (λ cs. built_in_claims ++ cs) (flat_map-append claims_of before more)
    ∙ sym (append_assoc built_in_claims (flat_map claims_of before) (flat_map claims_of more))

still_claimed : (before more : List Element) (claim : Claim) → Contains (claims_after before) claim → Contains (claims_after (before ++ more)) claim
still_claimed before more claim is =
    let P : List Claim → Type 0 = λ cs. Contains cs claim in
    subst P (sym (claims_grow before more)) (Contains-append_left (claims_after before) (flat_map claims_of more) claim is)

last_claimed : (before : List Element) (e : Element) (claim : Claim) → Contains (claims_of e) claim → Contains (claims_after (before ++ e ∷ [])) claim
last_claimed before e claim is =
    let P : List Claim → Type 0 = λ cs. Contains cs claim in
    subst P (sym (claims_grow before (e ∷ [])))
    (Contains-append_right (claims_after before) (flat_map claims_of (e ∷ [])) claim
    (subst P (sym (append-nil (claims_of e))) is))

-- ---- elements of one kind that claim something

-- none claims what an earlier one does
abbrev pub OnceBy : {A : Type 0} → (A → Claim) → List A → Type 0
OnceBy claim [] = Unit {0}
OnceBy {A} claim (x ∷ xs) = ((y : A) → Among y xs → claim x ≡ claim y → ⊥) × OnceBy claim xs

module _ {A : Type 0} (element : A → Element) (claim : A → Claim) (claimed : (x : A) → Contains (claims_of (element x)) (claim x)) where
  fresh : (before : List Element) (xs : List A) (x : A) → HaveNone before (map element xs) → Contains (claims_after before) (claim x) → Among x xs → ⊥
  fresh before [] x free earlier a = a
  fresh before (y ∷ ys) x free earlier (inl same) =
      let P : A → Type 0 = λ z. Contains (claims_after before) (claim z) in
      first_has_none before (element y) (map element ys) free (record { claim = claim y; claimed = claimed y; earlier = subst P same earlier })
  fresh before (y ∷ ys) x free earlier (inr a) =
      fresh (before ++ element y ∷ []) ys x (others_have_none before (element y) (map element ys) free) (still_claimed before (element y ∷ []) (claim x) earlier) a

  behind : (before : List Element) (y x : A) (ys : List A) → HaveNone before (map element (y ∷ ys)) → claim y ≡ claim x → Among x ys → ⊥
  behind before y x ys free e a =
      let P : Claim → Type 0 = λ k. Contains (claims_after (before ++ element y ∷ [])) k in
      fresh (before ++ element y ∷ []) ys x (others_have_none before (element y) (map element ys) free) (subst P e (last_claimed before (element y) (claim y) (claimed y))) a

  -- each claims what no later one does
  claims_once : (before : List Element) (xs : List A) → HaveNone before (map element xs) → OnceBy claim xs
  claims_once before [] free = tt
  claims_once before (x ∷ xs) free = (
    (λ y a e. behind before x y xs free e a),
    claims_once (before ++ element x ∷ []) xs (others_have_none before (element x) (map element xs) free),
  )

  -- what claims the same is the same
  one_claims : (before : List Element) (xs : List A) → HaveNone before (map element xs) → (x y : A) → Among x xs → Among y xs → claim x ≡ claim y → x ≡ y
  one_claims before [] free x y a b e = absurd a
  one_claims before (z ∷ zs) free x y (inl same) (inl too) e = same ∙ sym too
  one_claims before (z ∷ zs) free x y (inl same) (inr b) e = absurd (behind before z y zs free (ap claim (sym same) ∙ e) b)
  one_claims before (z ∷ zs) free x y (inr a) (inl too) e = absurd (behind before z x zs free (ap claim (sym too) ∙ sym e) a)
  one_claims before (z ∷ zs) free x y (inr a) (inr b) e = one_claims (before ++ element z ∷ []) zs (others_have_none before (element z) (map element zs) free) x y a b e

-- ---- the classes of a deployment

abbrev elements_from : ℕ → List Class → List Element
elements_from i cs = flat_map class_elements (enumerate_from i cs)

-- the elements of a class, after some others that stand behind these
pub record IsFree (before : List Element) (c : Class) : Type 0 where
  pub index : ℕ
  more : List Element
  free : HaveNone (before ++ more) (class_elements (index, c))

each_free : (cs : List Class) (i : ℕ) (before : List Element) (c : Class) → HaveNone before (elements_from i cs) → Among c cs → IsFree before c
each_free [] i before c free a = absurd a
each_free (x ∷ xs) i before c free (inl same) =
    let P : Class → Type 0 = λ k. HaveNone before (class_elements (i, k)) in
    let Q : List Element → Type 0 = λ b. HaveNone b (class_elements (i, c)) in
    record {
      index = i;
      more = [];
      free = subst Q (sym (append-nil before)) (subst P (sym same) (front_has_none before (class_elements (i, x)) (elements_from (i + 1) xs) free));
    }
each_free (x ∷ xs) i before c free (inr a) =
    let here = class_elements (i, x) in
    let found = each_free xs (i + 1) (before ++ here) c (back_has_none before here (elements_from (i + 1) xs) free) a in
    let Q : List Element → Type 0 = λ b. HaveNone b (class_elements (found.index, c)) in
    record { index = found.index; more = here ++ found.more; free = subst Q (append_assoc before here found.more) found.free }

-- what stands before the classes
abbrev above : Deployment → List Element
above d =
    map Element.AnInterface d.interfaces ++ map Element.AQualifier d.qualifiers ++ map Element.ABinding d.bindings ++ map Element.AnException d.exceptions

classes_free : (d : Deployment) → AreNameProblems d [] → HaveNone (above d) (elements_from 0 d.classes)
classes_free d found =
    let of_duplicate = problems_at kinds.DuplicateName found.duplicate in
    let of_unknown = problems_at kinds.UnknownName found.unknown in
    let of_cyclic = problems_at kinds.CyclicHierarchy found.cyclic in
    let no_problems : [] ≡ of_duplicate = (append_none of_duplicate of_unknown (append_none (of_duplicate ++ of_unknown) of_cyclic found.are).0).0 in
    let no_duplicate : found.duplicate ≡ [] = map_none _ found.duplicate no_problems in
    let Q : List Placed → Type 0 = λ those. ListsThose HasDuplicateName (placed (elements_of d)) those in
    let those : found.are_duplicate.those ≡ [] = no_places (λ p. place_of p.element) found.are_duplicate.those (sym no_duplicate ∙ found.are_duplicate.are) in
    let all : HaveNone [] (elements_of d) = subst Q those found.are_duplicate.listed in
    let classes = elements_from 0 d.classes in
    let interceptors = flat_map interceptor_elements (enumerate_from 0 d.interceptors) in
    let selected = map Element.ASelectedName d.selected in
    let ordered = map Element.AnOrderedName d.order in
    let scripts = map Element.AScript d.scripts in
    back_has_none [] (above d) classes
    (front_has_none [] (above d ++ classes) interceptors
    (front_has_none [] (above d ++ classes ++ interceptors) selected
    (front_has_none [] (above d ++ classes ++ interceptors ++ selected) ordered
    (front_has_none [] (above d ++ classes ++ interceptors ++ selected ++ ordered) scripts all))))

member_claimed : (i : ℕ) (c : Class) (m : Member) → Contains (claims_of (Element.AMember i c m)) (claims.ClassPart i (member_name m))
member_claimed i c (members.Method m) = (0, omega arith, refl)
member_claimed i c (members.Initializer m) = (0, omega arith, refl)
member_claimed i c (members.PostConstruct m) = (0, omega arith, refl)
member_claimed i c (members.PreDestroy m) = (0, omega arith, refl)
member_claimed i c (members.Producer m) = (0, omega arith, refl)
member_claimed i c (members.ProducerField m) = (0, omega arith, refl)
member_claimed i c (members.Disposer m) = (0, omega arith, refl)
member_claimed i c (members.Observer m) = (0, omega arith, refl)

-- the members of a class are named apart, and so are its injected fields
pub record IsNamedApart (c : Class) : Type 0 where
  pub members : (m n : Member) → Among m c.members → Among n c.members → member_name m ≡ member_name n → m ≡ n
  pub inject : (f g : InjectedField) → Among f c.inject → Among g c.inject → f.name ≡ g.name → f ≡ g

module _ (d : Deployment) (well : AreNameProblems d []) (c : Class) (listed : Among c d.classes) where
  pub is_free : IsFree (above d) c
  is_free = each_free d.classes 0 (above d) c (classes_free d well) listed

  pub named_apart : IsNamedApart c
  named_apart =
      let i = is_free.index in
      let before = above d ++ is_free.more in
      let fields = Element.AClass i c ∷ map (Element.AField i c) c.fields in
      let inject = map (Element.AnInjectedField i c) c.inject in
      let constructor = map (Element.AConstructor i c) (option_to_list c.constructor) in
      let ms = map (Element.AMember i c) c.members in
      let to_inject : HaveNone (before ++ fields) inject =
      back_has_none before fields inject
      (front_has_none before (fields ++ inject) constructor (front_has_none before (fields ++ inject ++ constructor) ms is_free.free)) in
      let to_members : HaveNone (before ++ (fields ++ inject ++ constructor)) ms = back_has_none before (fields ++ inject ++ constructor) ms is_free.free in
      record {
        members = λ m n a b e.
            one_claims (Element.AMember i c) (λ k. claims.ClassPart i (member_name k)) (member_claimed i c) _ c.members to_members m n a b (ap (λ k. claims.ClassPart i k) e);
        inject = λ f g a b e.
            one_claims (Element.AnInjectedField i c) (λ (k : InjectedField). claims.ClassPart i k.name) (λ k. (0, omega arith, refl)) _ c.inject to_inject f g a b (ap (λ k. claims.ClassPart i k) e);
      }

  -- no member has the name of an earlier one
  pub members_once : OnceBy (λ (m : Member). claims.ClassPart is_free.index (member_name m)) c.members
  members_once =
      let i = is_free.index in
      let before = above d ++ is_free.more in
      let fields = Element.AClass i c ∷ map (Element.AField i c) c.fields in
      let inject = map (Element.AnInjectedField i c) c.inject in
      let constructor = map (Element.AConstructor i c) (option_to_list c.constructor) in
      let ms = map (Element.AMember i c) c.members in
      claims_once (Element.AMember i c) (λ k. claims.ClassPart i (member_name k)) (member_claimed i c) _ c.members
      (back_has_none before (fields ++ inject ++ constructor) ms is_free.free)

  -- no claim of a type that stands before the classes is of their names
  unclaimed : (name : ℕ) → Contains (claims_after (above d)) (claims.Type name) → name ≡ c.name → ⊥
  unclaimed name earlier same =
      let P : ℕ → Type 0 = λ n. Contains (claims_after (above d ++ is_free.more)) (claims.Type n) in
      first_has_none (above d ++ is_free.more) (Element.AClass is_free.index c) _ is_free.free
      (record { claim = claims.Type c.name; claimed = (0, omega arith, refl); earlier = subst P same (still_claimed (above d) is_free.more (claims.Type name) earlier) })

  pub no_interface : (i : Interface) → Among i d.interfaces → i.name ≡ c.name → ⊥
  no_interface i a same =
      let interfaces = map Element.AnInterface d.interfaces in
      let qualifiers = map Element.AQualifier d.qualifiers in
      let bindings = map Element.ABinding d.bindings in
      let exceptions = map Element.AnException d.exceptions in
      let e = Element.AnInterface i in
      let here : Among e (above d) =
      among_left (interfaces ++ qualifiers ++ bindings) exceptions e
      (among_left (interfaces ++ qualifiers) bindings e (among_left interfaces qualifiers e (among_map Element.AnInterface d.interfaces i a))) in
      let claimed : Among (claims.Type i.name) (flat_map claims_of (above d)) = among_flat_map claims_of (above d) e (claims.Type i.name) here (inl refl) in
      unclaimed i.name (Contains-append_right built_in_claims (flat_map claims_of (above d)) (claims.Type i.name) (among_contains _ _ claimed)) same

  -- the three built-in classes claim their names before all others
  pub no_built_in : (number : ℕ) → Contains built_in_claims (claims.Type number) → number ≡ c.name → ⊥
  no_built_in number is same = unclaimed number (Contains-append_left built_in_claims (flat_map claims_of (above d)) (claims.Type number) is) same
