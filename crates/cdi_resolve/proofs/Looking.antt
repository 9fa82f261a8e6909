-- The beans that a question looks at have among them all that are eligible.
use Rattle.std.proofs.Common.{◌≡◌, ◌∙◌, ℕ, ◌&&◌, Bool, true, false, cond, nat_lt, List, [], ◌∷◌, length, filter, Option, Some, None, refl, ap}
use Rattle.std.specs.Option.{option_map}
use Rattle.cdi_beans.specs.declared.bean.Bean.{Bean}
use Rattle.cdi_quals.specs.Qualifiers.{has, has_all}
use Rattle.cdi_quals.specs.declared.qualifier.Qualifier.{Qualifier}
use Rattle.cdi_resolve.specs.BeanIndex.{asked_type, rarer, with_required, with_all}
use Rattle.cdi_resolve.specs.BeanKeys.{required_key, has_key, having_key}
use Rattle.cdi_resolve.specs.BeanRows.{AreRowsOf, row_of, listed}
use Rattle.cdi_resolve.specs.BindingFlags.{flags_of}
use Rattle.cdi_resolve.specs.Digests.{with_all_required}
use Rattle.cdi_resolve.specs.Filters.{enabled_beans, has_type}
use Rattle.cdi_resolve.specs.Narrowing.{has_asked_type}
use Rattle.cdi_resolve.specs.declared.bean_index.BeanIndex.{BeanIndex}
use Rattle.cdi_resolve.specs.declared.bean_key.BeanKey.{BeanKey}
use Rattle.cdi_resolve.specs.declared.bean_key.BeanKey.TheVariants as keys
use Rattle.cdi_resolve.proofs.Digesting.{first, second}
use Rattle.cdi_resolve.proofs.Filtering.{filter_both}
use Rattle.cdi_resolve.proofs.Keys.{has_type_key, has_required_key}

-- a filter that lets all through that another one does
module _ {X : Type 0} (p q : X → Bool) (wider : (x : X) → q x ≡ true → p x ≡ true) where
  let_through : (a b : Bool) (x : X) (xs : List X) → p x ≡ a → q x ≡ b → filter q (filter p xs) ≡ filter q xs → filter q (cond a (x ∷ filter p xs) (filter p xs)) ≡ cond b (x ∷ filter q xs) (filter q xs)
  let_through true b x xs at is rest = ap (λ c. cond c (x ∷ filter q (filter p xs)) (filter q (filter p xs))) is ∙ ap (λ zs. cond b (x ∷ zs) zs) rest
  let_through false true x xs at is rest = absurd (let on = wider x is in cc)
  let_through false false x xs at is rest = rest

  pub filter_within : (xs : List X) → filter q (filter p xs) ≡ filter q xs
  filter_within [] = refl
  filter_within (x ∷ xs) = let_through (p x) (q x) x xs refl refl (filter_within xs)

module _ (beans : List Bean) (enabled : List Bool) (index : BeanIndex) (rows : AreRowsOf index.flags beans enabled index.rows) (type : ℕ) (wanted : List Qualifier) where
  abbrev fitting : ℕ × Bean → Bool
  fitting b = has_type type b.1 && has_all b.1.qualifiers wanted

  -- all that is eligible stands in the row of a key, and is found there
  abbrev IsEnough : BeanKey → Type 0
  IsEnough key =
      filter (λ b. has_asked_type (asked_type type key) b.1 && has_all b.1.qualifiers wanted) (listed beans (row_of index.rows key)) ≡ filter fitting (enabled_beans beans enabled)

  by_type : (all : List (ℕ × Bean)) → having_key index.flags (keys.Type type) all ≡ filter (λ b. has_type type b.1) all
  by_type [] = refl
  by_type (b ∷ all) = ap (λ c. cond c (b ∷ having_key index.flags (keys.Type type) all) (having_key index.flags (keys.Type type) all)) (has_type_key index.flags b.1 type) ∙ ap (λ zs. cond (has_type type b.1) (b ∷ zs) zs) (by_type all)

  type_is_enough : IsEnough (keys.Type type)
  type_is_enough =
      ap (filter (λ b. has_all b.1.qualifiers wanted)) (rows (keys.Type type) ∙ by_type (enabled_beans beans enabled))
      ∙ filter_both (λ b. has_type type b.1) (λ b. has_all b.1.qualifiers wanted) (enabled_beans beans enabled)

  qualifier_is_enough : (q : Qualifier) → ((b : Bean) → has_all b.qualifiers wanted ≡ true → has b.qualifiers q ≡ true) → (name digest : ℕ) → required_key index.flags q ≡ Some (keys.Qualifier name digest) → IsEnough (keys.Qualifier name digest)
  qualifier_is_enough q among name digest told =
      ap (filter fitting) (rows (keys.Qualifier name digest))
      ∙ filter_within (λ b. has_key index.flags (keys.Qualifier name digest) b.1) fitting
      (λ b e. has_required_key index.flags q (keys.Qualifier name digest) told b.1 (among b.1 (second (has_type type b.1) (has_all b.1.qualifiers wanted) e)))
      (enabled_beans beans enabled)

  no_type : (name t : ℕ) (o : Option ℕ) → option_map (keys.Qualifier name) o ≡ Some (keys.Type t) → ⊥
  no_type name t None e = cc
  no_type name t (Some d) e = cc

  required_is_enough : (q : Qualifier) → ((b : Bean) → has_all b.qualifiers wanted ≡ true → has b.qualifiers q ≡ true) → (key : BeanKey) → required_key index.flags q ≡ Some key → IsEnough key
  required_is_enough q among (keys.Qualifier name digest) told = qualifier_is_enough q among name digest told
  required_is_enough q among (keys.Type t) told = absurd (no_type q.name t (with_all_required (flags_of index.flags q.name) q.members 0) told)

  rarer_is_enough : (key : BeanKey) (other : Option BeanKey) → IsEnough key → ((k : BeanKey) → other ≡ Some k → IsEnough k) → IsEnough (rarer index.rows key other)
  rarer_is_enough key None enough others = enough
  rarer_is_enough key (Some other) enough others = by (nat_lt (length (row_of index.rows other)) (length (row_of index.rows key)))
    where
      by : (b : Bool) → IsEnough (cond b other key)
      by true = others other refl
      by false = enough

  all_are_enough : (qualifiers : List Qualifier) (key : BeanKey) → IsEnough key → ((b : Bean) → has_all b.qualifiers wanted ≡ true → has_all b.qualifiers qualifiers ≡ true) → IsEnough (with_all index key qualifiers)
  all_are_enough [] key enough among = enough
  all_are_enough (q ∷ qualifiers) key enough among =
      all_are_enough qualifiers (with_required index key q)
      (rarer_is_enough key (required_key index.flags q) enough (required_is_enough q (λ b e. first (has b.qualifiers q) (has_all b.qualifiers qualifiers) (among b e))))
      (λ b e. second (has b.qualifiers q) (has_all b.qualifiers qualifiers) (among b e))

  -- the row of the rarest key has all that are eligible
  pub rarest_is_enough : IsEnough (with_all index (keys.Type type) wanted)
  rarest_is_enough = all_are_enough wanted (keys.Type type) type_is_enough (λ b e. e)
