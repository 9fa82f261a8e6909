-- The fields of one interceptor, and its injected fields, are named apart (copied from cdi_accepted's Duplicates and Fields, whose parts
-- are private there: they are to be made public instead).
use Rattle.std.proofs.Common.{ℕ, ◌≡◌, ◌∙◌, ◌+◌, ◌||◌, inl, inr, Bool, true, false, cond, nat_eq, List, [], ◌∷◌, ◌++◌, map, fold, refl, sym, ap, subst, append_assoc, append-nil, arith}
use Rattle.std.proofs.lemmas.Bool.{eqb-true, true≢false}
use Rattle.std.proofs.lemmas.Grind.{flat_map-append}
use Rattle.std.proofs.lemmas.List.Elements.{Contains-append_left, Contains-append_right}
use Rattle.std.specs.List.{Contains, flat_map, enumerate_from}
use Rattle.cdi_base.specs.Fields.{has, put}
use Rattle.cdi_base.specs.declared.value.Value.{Value}
use Rattle.cdi_deployment.specs.declared.deployment.Deployment.{Deployment}
use Rattle.cdi_deployment.specs.declared.deployment.Field.{Field}
use Rattle.cdi_deployment.specs.declared.deployment.InjectedField.{InjectedField}
use Rattle.cdi_deployment.specs.declared.deployment.Interceptor.{Interceptor}
use Rattle.cdi_machine.specs.Words.{Fields}
use Rattle.cdi_name_check.specs.DuplicateName.{HasDuplicateName, claims_of, claims_after, built_in_claims}
use Rattle.cdi_name_check.specs.NameProblems.{AreNameProblems}
use Rattle.cdi_name_check.specs.declared.claim.Claim.{Claim}
use Rattle.cdi_name_check.specs.declared.claim.Claim.TheVariants as claims
use Rattle.cdi_planner.proofs.Names.{same}
use Rattle.cdi_problems.specs.Elements.{Element, elements_of, class_elements, interceptor_elements, place_of}
use Rattle.cdi_problems.specs.Findings.{Placed, placed_after, placed}
use Rattle.cdi_problems.specs.Words.{problems_at}
use Rattle.cdi_problems.specs.declared.problem.ProblemKind.TheVariants as kinds
use Rattle.cdi_types.specs.ListsThose.{ListsThose}
use Rattle.cdi_run_tables.specs.Machine.{first_values}
use Rattle.cdi_shape_check.specs.OwnParts.{has_field}
use Rattle.cdi_check.proofs.Accepted.{append_none, map_none, no_places}
use Rattle.cdi_accepted.proofs.Lists.{Among, passing}

-- ---- elements free of which has a duplicate name, after some that stand before them

abbrev HaveNone : List Element → List Element → Type 0
HaveNone before es = ListsThose HasDuplicateName (placed_after before es) []

first_has_none : (before : List Element) (e : Element) (es : List Element) → HaveNone before (e ∷ es) → HasDuplicateName (record { before = before; element = e }) → ⊥
first_has_none before e es (ListsThose.skip not rest) = not

others_have_none : (before : List Element) (e : Element) (es : List Element) → HaveNone before (e ∷ es) → HaveNone (before ++ e ∷ []) es
others_have_none before e es (ListsThose.skip not rest) = rest

front_has_none : (before xs ys : List Element) → HaveNone before (xs ++ ys) → HaveNone before xs
front_has_none before [] ys free = ListsThose.none
front_has_none before (x ∷ xs) ys free =
    ListsThose.skip (first_has_none before x (xs ++ ys) free) (front_has_none (before ++ x ∷ []) xs ys (others_have_none before x (xs ++ ys) free))

back_has_none : (before xs ys : List Element) → HaveNone before (xs ++ ys) → HaveNone (before ++ xs) ys
back_has_none before [] ys free = let P : List Element → Type 0 = λ b. HaveNone b ys in subst P (sym (append-nil before)) free
back_has_none before (x ∷ xs) ys free =
    let P : List Element → Type 0 = λ b. HaveNone b ys in
    subst P (append_assoc before (x ∷ []) xs) (back_has_none (before ++ x ∷ []) xs ys (others_have_none before x (xs ++ ys) free))

-- ---- what is claimed by more elements

claims_grow : (before more : List Element) → claims_after (before ++ more) ≡ claims_after before ++ flat_map claims_of more
claims_grow before more =
    ap (λ cs. built_in_claims ++ cs) (flat_map-append claims_of before more)
    ∙ sym (append_assoc built_in_claims (flat_map claims_of before) (flat_map claims_of more))

still_claimed : (before more : List Element) (claim : Claim) → Contains (claims_after before) claim → Contains (claims_after (before ++ more)) claim
still_claimed before more claim is =
    let P : List Claim → Type 0 = λ cs. Contains cs claim in
    subst P (sym (claims_grow before more)) (Contains-append_left (claims_after before) (flat_map claims_of more) claim is)

last_claimed : (before : List Element) (e : Element) (claim : Claim) → Contains (claims_of e) claim → Contains (claims_after (before ++ e ∷ [])) claim
last_claimed before e claim is =
    let P : List Claim → Type 0 = λ cs. Contains cs claim in
    subst P (sym (claims_grow before (e ∷ [])))
    (Contains-append_right (claims_after before) (flat_map claims_of (e ∷ [])) claim
    (subst P (sym (append-nil (claims_of e))) is))

-- ---- elements of one kind that claim something

module _ {A : Type 0} (element : A → Element) (claim : A → Claim) (claimed : (x : A) → Contains (claims_of (element x)) (claim x)) where
  fresh : (before : List Element) (xs : List A) (x : A) → HaveNone before (map element xs) → Contains (claims_after before) (claim x) → Among x xs → ⊥
  fresh before [] x free earlier a = a
  fresh before (y ∷ ys) x free earlier (inl same) =
      let P : A → Type 0 = λ z. Contains (claims_after before) (claim z) in
      first_has_none before (element y) (map element ys) free (record { claim = claim y; claimed = claimed y; earlier = subst P same earlier })
  fresh before (y ∷ ys) x free earlier (inr a) =
      fresh (before ++ element y ∷ []) ys x (others_have_none before (element y) (map element ys) free) (still_claimed before (element y ∷ []) (claim x) earlier) a

  behind : (before : List Element) (y x : A) (ys : List A) → HaveNone before (map element (y ∷ ys)) → claim y ≡ claim x → Among x ys → ⊥
  behind before y x ys free e a =
      let P : Claim → Type 0 = λ k. Contains (claims_after (before ++ element y ∷ [])) k in
      fresh (before ++ element y ∷ []) ys x (others_have_none before (element y) (map element ys) free) (subst P e (last_claimed before (element y) (claim y) (claimed y))) a

  -- what claims the same is the same
  one_claims : (before : List Element) (xs : List A) → HaveNone before (map element xs) → (x y : A) → Among x xs → Among y xs → claim x ≡ claim y → x ≡ y
  one_claims before [] free x y a b e = absurd a
  one_claims before (z ∷ zs) free x y (inl same) (inl too) e = same ∙ sym too
  one_claims before (z ∷ zs) free x y (inl same) (inr b) e = absurd (behind before z y zs free (ap claim (sym same) ∙ e) b)
  one_claims before (z ∷ zs) free x y (inr a) (inl too) e = absurd (behind before z x zs free (ap claim (sym too) ∙ sym e) a)
  one_claims before (z ∷ zs) free x y (inr a) (inr b) e = one_claims (before ++ element z ∷ []) zs (others_have_none before (element z) (map element zs) free) x y a b e

-- ---- the interceptors of a deployment

abbrev elements_from : ℕ → List Interceptor → List Element
elements_from i js = flat_map interceptor_elements (enumerate_from i js)

-- the elements of an interceptor, after some others that stand before these
record IsFree (before : List Element) (j : Interceptor) : Type 0 where
  index : ℕ
  more : List Element
  free : HaveNone (before ++ more) (interceptor_elements (index, j))

each_free : (js : List Interceptor) (i : ℕ) (before : List Element) (j : Interceptor) → HaveNone before (elements_from i js) → Among j js → IsFree before j
each_free [] i before j free a = absurd a
each_free (x ∷ xs) i before j free (inl same) =
    let P : Interceptor → Type 0 = λ k. HaveNone before (interceptor_elements (i, k)) in
    let Q : List Element → Type 0 = λ b. HaveNone b (interceptor_elements (i, j)) in
    record {
      index = i;
      more = [];
      free = subst Q (sym (append-nil before)) (subst P (sym same) (front_has_none before (interceptor_elements (i, x)) (elements_from (i + 1) xs) free));
    }
each_free (x ∷ xs) i before j free (inr a) =
    let here = interceptor_elements (i, x) in
    let found = each_free xs (i + 1) (before ++ here) j (back_has_none before here (elements_from (i + 1) xs) free) a in
    let Q : List Element → Type 0 = λ b. HaveNone b (interceptor_elements (found.index, j)) in
    record { index = found.index; more = here ++ found.more; free = subst Q (append_assoc before here found.more) found.free }

-- what stands before the interceptors
abbrev above : Deployment → List Element
above d =
    map Element.AnInterface d.interfaces ++ map Element.AQualifier d.qualifiers ++ map Element.ABinding d.bindings ++ map Element.AnException d.exceptions
    ++ flat_map class_elements (enumerate_from 0 d.classes)

interceptors_free : (d : Deployment) → AreNameProblems d [] → HaveNone (above d) (elements_from 0 d.interceptors)
interceptors_free d found =
    let of_duplicate = problems_at kinds.DuplicateName found.duplicate in
    let of_unknown = problems_at kinds.UnknownName found.unknown in
    let of_cyclic = problems_at kinds.CyclicHierarchy found.cyclic in
    let no_problems : [] ≡ of_duplicate = (append_none of_duplicate of_unknown (append_none (of_duplicate ++ of_unknown) of_cyclic found.are).0).0 in
    let no_duplicate : found.duplicate ≡ [] = map_none _ found.duplicate no_problems in
    let Q : List Placed → Type 0 = λ those. ListsThose HasDuplicateName (placed (elements_of d)) those in
    let those : found.are_duplicate.those ≡ [] = no_places (λ p. place_of p.element) found.are_duplicate.those (sym no_duplicate ∙ found.are_duplicate.are) in
    let all : HaveNone [] (elements_of d) = subst Q those found.are_duplicate.listed in
    let interceptors = flat_map interceptor_elements (enumerate_from 0 d.interceptors) in
    let selected = map Element.ASelectedName d.selected in
    let ordered = map Element.AnOrderedName d.order in
    let scripts = map Element.AScript d.scripts in
    back_has_none [] (above d) interceptors
    (front_has_none [] (above d ++ interceptors) selected
    (front_has_none [] (above d ++ interceptors ++ selected) ordered
    (front_has_none [] (above d ++ interceptors ++ selected ++ ordered) scripts all)))

-- the injected fields of an interceptor are named apart
pub named_apart : (d : Deployment) → AreNameProblems d [] → (j : Interceptor) → Among j d.interceptors → (f g : InjectedField) → Among f j.inject → Among g j.inject → f.name ≡ g.name → f ≡ g
named_apart d well j listed f g a b e =
    let free = each_free d.interceptors 0 (above d) j (interceptors_free d well) listed in
    let i = free.index in
    let before = above d ++ free.more in
    let fields = Element.AnInterceptor i j ∷ map (Element.AnInterceptorField i j) j.fields in
    let inject = map (Element.AnInterceptorInjectedField i j) j.inject in
    let to_inject : HaveNone (before ++ fields) inject = back_has_none before fields inject free.free in
    one_claims (Element.AnInterceptorInjectedField i j) (λ (k : InjectedField). claims.InterceptorPart i k.name) (λ k. (0, omega arith, refl)) _ j.inject to_inject f g a b (ap (λ k. claims.InterceptorPart i k) e)

-- ---- first values

put_has : (fields : Fields) (name : ℕ) (v : Value) → has (put fields name v) name ≡ true
put_has [] name v = ap (λ b. b || false) (same name)
put_has (p ∷ fields) name v = by (nat_eq name p.0) refl (put_has fields name v)
  where
    by : (b : Bool) → nat_eq name p.0 ≡ b → has (put fields name v) name ≡ true → has (cond b ((p.0, v) ∷ fields) (p ∷ put fields name v)) name ≡ true
    by true e h = ap (λ b. b || has fields name) e
    by false e h = ap (λ b. b || has (put fields name v) name) e ∙ h

put_keeps : (fields : Fields) (name other : ℕ) (v : Value) → has fields other ≡ true → has (put fields name v) other ≡ true
put_keeps [] name other v e = absurd (true≢false (sym e))
put_keeps (p ∷ fields) name other v e = by (nat_eq name p.0) (put_keeps fields name other v)
  where
    later : (c : Bool) → (has fields other ≡ true → has (put fields name v) other ≡ true) → (c || has fields other) ≡ true → (c || has (put fields name v) other) ≡ true
    later true h q = refl
    later false h q = h q

    by : (b : Bool) → (has fields other ≡ true → has (put fields name v) other ≡ true) → has (cond b ((p.0, v) ∷ fields) (p ∷ put fields name v)) other ≡ true
    by true h = e
    by false h = later (nat_eq other p.0) h e

abbrev with_field : Fields → Field → Fields
with_field all f = put all f.name f.value

fold_keeps : (before : Fields) (fields : List Field) (name : ℕ) → has before name ≡ true → has (fold with_field before fields) name ≡ true
fold_keeps before [] name e = e
fold_keeps before (f ∷ fields) name e = fold_keeps (with_field before f) fields name (put_keeps before f.name name f.value e)

fold_has : (before : Fields) (fields : List Field) (f : Field) → Among f fields → has (fold with_field before fields) f.name ≡ true
fold_has before [] f a = absurd a
fold_has before (g ∷ fields) f (inl one) =
    let P : Field → Type 0 = λ k. has (with_field before g) k.name ≡ true in
    fold_keeps (with_field before g) fields f.name (subst P (sym one) (put_has before g.name g.value))
fold_has before (g ∷ fields) f (inr a) = fold_has (with_field before g) fields f a

pub field_has : (fields : List Field) (name : ℕ) → has_field name fields ≡ true → has (first_values fields) name ≡ true
field_has fields name e =
    let field = passing (λ (f : Field). nat_eq f.name name) fields e in
    subst (λ n. has (first_values fields) n ≡ true) (eqb-true field.item.name name field.passes) (fold_has [] fields field.item field.stands)
