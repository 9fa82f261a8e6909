-- Keys of beans, and who has them.
use Rattle.std.proofs.Common.{◌≡◌, ◌∙◌, ℕ, Bool, true, false, ◌&&◌, ◌||◌, nat_eq, List, [], ◌∷◌, map, Option, Some, None, refl, sym, ap, arith}
use Rattle.std.proofs.lemmas.Bool.{eqb-true}
use Rattle.std.proofs.lemmas.Bool.Decides.{nat_tests}
use Rattle.std.proofs.lemmas.List.Folds.{list_any-append}
use Rattle.std.specs.List.{list_any}
use Rattle.std.specs.Option.{option_map}
use Rattle.cdi_beans.specs.declared.bean.Bean.{Bean}
use Rattle.cdi_quals.specs.Qualifiers.{agree, same_binding, has}
use Rattle.cdi_quals.specs.declared.qualifier.Qualifier.{Qualifier}
use Rattle.cdi_resolve.specs.BeanKeys.{same_key, own_key, required_key, has_key}
use Rattle.cdi_resolve.specs.BindingFlags.{flags_of}
use Rattle.cdi_resolve.specs.Digests.{with_all_own, with_all_required}
use Rattle.cdi_resolve.specs.Filters.{has_type}
use Rattle.cdi_resolve.specs.declared.bean_key.BeanKey.{BeanKey}
use Rattle.cdi_resolve.specs.declared.bean_key.BeanKey.TheVariants as keys
use Rattle.cdi_resolve.specs.declared.binding_flags.BindingFlags.{BindingFlags}
use Rattle.cdi_resolve.proofs.Digesting.{first, second, same_digest}

-- equal keys are the same
pub same_key-true : (a b : BeanKey) → same_key a b ≡ true → a ≡ b
same_key-true (keys.Type a) (keys.Type b) e = ap keys.Type (eqb-true a b e)
same_key-true (keys.Type a) (keys.Qualifier b n) e = absurd cc
same_key-true (keys.Qualifier a m) (keys.Type b) e = absurd cc
same_key-true (keys.Qualifier a m) (keys.Qualifier b n) e =
    ap (λ c. keys.Qualifier c m) (eqb-true a b (first (nat_eq a b) (nat_eq m n) e)) ∙ ap (keys.Qualifier b) (eqb-true m n (second (nat_eq a b) (nat_eq m n) e))

itself : (n : ℕ) → nat_eq n n ≡ true
itself n = grind (arith, nat_tests)

-- a key is the same as itself
pub same_key-refl : (a : BeanKey) → same_key a a ≡ true
same_key-refl (keys.Type a) = itself a
same_key-refl (keys.Qualifier a m) = ap (λ t. t && nat_eq m m) (itself a) ∙ itself m

module _ (flags : BindingFlags) where
  -- ---- the key of a type

  type_among : (types : List ℕ) (t : ℕ) → list_any (λ own. same_key own (keys.Type t)) (map keys.Type types) ≡ list_any (λ own. nat_eq own t) types
  type_among [] t = refl
  type_among (n ∷ types) t = ap (λ f. nat_eq n t || f) (type_among types t)

  no_type_among : (qualifiers : List Qualifier) (t : ℕ) → list_any (λ own. same_key own (keys.Type t)) (map (own_key flags) qualifiers) ≡ false
  no_type_among [] t = refl
  no_type_among (q ∷ qualifiers) t = no_type_among qualifiers t

  or_false : (f : Bool) → (f || false) ≡ f
  or_false true = refl
  or_false false = refl

  pub has_type_key : (b : Bean) (t : ℕ) → has_key flags (keys.Type t) b ≡ has_type t b
  has_type_key b t =
      list_any-append (λ own. same_key own (keys.Type t)) (map keys.Type b.types) (map (own_key flags) b.qualifiers)
      ∙ ap (λ f. list_any (λ own. same_key own (keys.Type t)) (map keys.Type b.types) || f) (no_type_among b.qualifiers t)
      ∙ or_false _ ∙ type_among b.types t

  -- ---- the key of a required qualifier

  -- what is required has the key
  same_own_key : (p q : Qualifier) (k : BeanKey) → required_key flags p ≡ Some k → same_binding p q ≡ true → own_key flags q ≡ k
  same_own_key p q k told same = by (with_all_required (flags_of flags p.name) p.members 0) refl told
    where
      by : (o : Option ℕ) → with_all_required (flags_of flags p.name) p.members 0 ≡ o → option_map (keys.Qualifier p.name) o ≡ Some k → own_key flags q ≡ k
      by None is h = absurd cc
      by (Some d) is h =
          let name : p.name ≡ q.name = eqb-true p.name q.name (first (nat_eq p.name q.name) (agree p.members q.members) same) in
          let digest : with_all_own (flags_of flags p.name) q.members 0 ≡ d = same_digest (flags_of flags p.name) p.members q.members 0 d (second (nat_eq p.name q.name) (agree p.members q.members) same) is in
          let told_key : keys.Qualifier p.name d ≡ k = cc in
          ap (λ n. keys.Qualifier n (with_all_own (flags_of flags n) q.members 0)) (sym name) ∙ ap (keys.Qualifier p.name) digest ∙ told_key

  or_true : (f : Bool) → (f || true) ≡ true
  or_true true = refl
  or_true false = refl

  own_among : (p : Qualifier) (k : BeanKey) → required_key flags p ≡ Some k → (qualifiers : List Qualifier) → has qualifiers p ≡ true → list_any (λ own. same_key own k) (map (own_key flags) qualifiers) ≡ true
  own_among p k told [] e = absurd cc
  own_among p k told (q ∷ qualifiers) e = by (same_binding p q) refl e (own_among p k told qualifiers)
    where
      by : (s : Bool) → same_binding p q ≡ s → (s || has qualifiers p) ≡ true → (has qualifiers p ≡ true → list_any (λ own. same_key own k) (map (own_key flags) qualifiers) ≡ true) → (same_key (own_key flags q) k || list_any (λ own. same_key own k) (map (own_key flags) qualifiers)) ≡ true
      by true is h further = ap (λ t. t || list_any (λ own. same_key own k) (map (own_key flags) qualifiers)) (ap (λ x. same_key x k) (same_own_key p q k told is) ∙ same_key-refl k)
      by false is h further = ap (λ t. same_key (own_key flags q) k || t) (further h) ∙ or_true (same_key (own_key flags q) k)

  pub has_required_key : (p : Qualifier) (k : BeanKey) → required_key flags p ≡ Some k → (b : Bean) → has b.qualifiers p ≡ true → has_key flags k b ≡ true
  has_required_key p k told b e =
      list_any-append (λ own. same_key own k) (map keys.Type b.types) (map (own_key flags) b.qualifiers)
      ∙ ap (λ f. list_any (λ own. same_key own k) (map keys.Type b.types) || f) (own_among p k told b.qualifiers e)
      ∙ or_true (list_any (λ own. same_key own k) (map keys.Type b.types))
