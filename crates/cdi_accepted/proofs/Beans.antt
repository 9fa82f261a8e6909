-- The enabled bean to which something resolves, with lemmas of lists side by side and of maps.
use Rattle.std.proofs.Common.{ℕ, zero, suc, ◌≡◌, ◌∙◌, ◌+◌, inl, inr, Bool, true, false, cond, nat_eq, List, [], ◌∷◌, Some, refl, sym, ap, subst, arith}
use Rattle.std.proofs.lemmas.Bool.{eq-eqb, eqb-true, true≢false}
use Rattle.std.proofs.lemmas.Option.{same_Some}
use Rattle.std.specs.List.{AllZip, enumerate_from, slice_get}
use Rattle.cdi_base.specs.Maps.{at}
use Rattle.cdi_bean_check.specs.Qualifiers.{full_uses}
use Rattle.cdi_beans.specs.declared.bean.Bean.{Bean}
use Rattle.cdi_machine.specs.Tables as machine
use Rattle.cdi_machine.specs.Words.{Asked}
use Rattle.cdi_resolve.proofs.Eligible.{one_is_eligible}
use Rattle.cdi_resolve.specs.Filters.{enabled_of, is_enabled}
use Rattle.cdi_resolve.specs.Resolution.{resolution}
use Rattle.cdi_resolve.specs.declared.resolution.Resolution.{Resolution}
use Rattle.cdi_resolve.specs.declared.resolution.Resolution.TheVariants as resolutions
use Rattle.cdi_run_tables.specs.Machine.{machine_resolution, machine_tables, resolution_of}
use Rattle.cdi_run_tables.specs.declared.tables.RunTables.{RunTables}
use Rattle.cdi_accepted.proofs.Lists.{Among, contains_among, of_filter}

-- ---- lists side by side, and maps

module _ {X Y : Type 0} (R : X → Y → Type 0) where
  -- what stands beside an item
  pub record Beside (ys : List Y) (i : ℕ) (x : X) : Type 0 where
    pub item : Y
    pub stands : slice_get ys i ≡ Some item
    pub related : R x item

  pub beside : (xs : List X) (ys : List Y) (i : ℕ) (x : X) → AllZip R xs ys → slice_get xs i ≡ Some x → Beside ys i x
  beside [] ys i x zip e = absurd cc
  beside (z ∷ xs) [] i x zip e = absurd zip
  beside (z ∷ xs) (y ∷ ys) zero x zip e =
      let P : X → Type 0 = λ w. R w y in
      record { item = y; stands = refl; related = subst P (same_Some z x e) zip.0 }
  beside (z ∷ xs) (y ∷ ys) (suc i) x zip e =
      let more = beside xs ys i x zip.1 e in
      record { item = more.item; stands = more.stands; related = more.related }

  -- an item that stands beside one
  pub record Before (xs : List X) (y : Y) : Type 0 where
    pub item : X
    pub stands : Among item xs
    pub related : R item y

  pub before : (xs : List X) (ys : List Y) (y : Y) → AllZip R xs ys → Among y ys → Before xs y
  before [] [] y zip a = absurd a
  before [] (z ∷ ys) y zip a = absurd zip
  before (x ∷ xs) [] y zip a = absurd zip
  before (x ∷ xs) (z ∷ ys) y zip (inl same) =
      let P : Y → Type 0 = λ w. R x w in
      record { item = x; stands = inl refl; related = subst P (sym same) zip.0 }
  before (x ∷ xs) (z ∷ ys) y zip (inr a) =
      let more = before xs ys y zip.1 a in
      record { item = more.item; stands = inr more.stands; related = more.related }

module _ {X : Type 0} where
  -- the item at a place
  pub record IsAt (n : ℕ) (xs : List X) (i : ℕ) (x : X) : Type 0 where
    pub index : ℕ
    pub is : i ≡ n + index
    pub stands : slice_get xs index ≡ Some x

  pub numbered : (n : ℕ) (xs : List X) (i : ℕ) (x : X) → Among (i, x) (enumerate_from n xs) → IsAt n xs i x
  numbered n [] i x a = absurd a
  numbered n (y ∷ ys) i x (inl same) =
      let place : i ≡ n = ap (λ (p : ℕ × X). p.0) same in
      let item : x ≡ y = ap (λ (p : ℕ × X). p.1) same in
      record { index = 0; is = omega arith; stands = ap (λ z. Some z) (sym item) }
  numbered n (y ∷ ys) i x (inr a) =
      let more = numbered (n + 1) ys i x a in
      let place = more.is in
      record { index = suc more.index; is = omega arith; stands = more.stands }

  pub place_of : (xs : List X) (i : ℕ) (x : X) → Among (i, x) (enumerate_from 0 xs) → slice_get xs i ≡ Some x
  place_of xs i x a =
      let found = numbered 0 xs i x a in
      let place : i ≡ found.index = omega (arith, found.is) in
      ap (slice_get xs) place ∙ found.stands

  -- a value that a map has at a key
  pub record IsKept (m : List (ℕ × X)) (key : ℕ) : Type 0 where
    pub value : X
    pub has : at m key ≡ Some value
    pub stands : Among (key, value) m

  pub kept_at : (m : List (ℕ × X)) (key : ℕ) (value : X) → at m key ≡ Some value → Among (key, value) m
  kept_at [] key value e = absurd cc
  kept_at (p ∷ more) key value e = by (nat_eq key p.0) refl e (kept_at more key value)
    where
      by : (b : Bool) → nat_eq key p.0 ≡ b → cond b (Some p.1) (at more key) ≡ Some value → (at more key ≡ Some value → Among (key, value) more) → Among (key, value) (p ∷ more)
      by true t h rest =
          let one : key ≡ p.0 = eqb-true key p.0 t in
          let is : value ≡ p.1 = sym (same_Some p.1 value h) in
          inl (ap (λ k. (k, value)) one ∙ ap (λ v. (p.0, v)) is)
      by false t h rest = inr (rest h)

  pub is_kept : (m : List (ℕ × X)) (key : ℕ) (value : X) → Among (key, value) m → IsKept m key
  is_kept [] key value a = absurd a
  is_kept (p ∷ more) key value a = by (is_kept more key value) (nat_eq key p.0) refl a
    where
      by : (Among (key, value) more → IsKept more key) → (b : Bool) → nat_eq key p.0 ≡ b → Among (key, value) (p ∷ more) → IsKept (p ∷ more) key
      by rest true t s =
          let one : at (p ∷ more) key ≡ Some p.1 = ap (λ c. cond c (Some p.1) (at more key)) t in
          record { value = p.1; has = one; stands = kept_at (p ∷ more) key p.1 one }
      by rest false t (inl same) =
          let one : key ≡ p.0 = ap (λ (q : ℕ × X). q.0) same in
          absurd (true≢false (sym (eq-eqb key p.0 one) ∙ t))
      by rest false t (inr s) =
          let found = rest s in
          record {
            value = found.value;
            has = ap (λ c. cond c (Some p.1) (at more key)) t ∙ found.has;
            stands = inr found.stands;
          }

-- ---- beans

-- an enabled bean stands in the list at its index
pub stands_listed : (t : RunTables) (b : ℕ) (listed : Bean) → Among (b, listed) (enabled_of t.tables.resolver) → slice_get t.tables.resolver.beans b ≡ Some listed
stands_listed t b listed a =
    let beans = t.tables.resolver.beans in
    place_of beans b listed (of_filter (λ p. is_enabled t.tables.resolver.flags p.0) (enumerate_from 0 beans) (b, listed) a).0

-- ---- what resolves to one bean

-- the enabled bean to which something resolves
pub record IsTarget (t : RunTables) (asked : Asked) (b : ℕ) : Type 0 where
  pub resolves : resolution asked.type (full_uses t.tables.declared.qualifiers asked.qualifiers) (enabled_of t.tables.resolver) ≡ resolutions.One b
  pub bean : Bean
  pub enabled : Among (b, bean) (enabled_of t.tables.resolver)
  pub has : at (enabled_of t.tables.resolver) b ≡ Some bean

one_bean : (r : Resolution) (b : ℕ) → machine_resolution r ≡ machine.Resolution.One b → r ≡ resolutions.One b
one_bean (resolutions.One a) b e = let same : a ≡ b = cc in ap (λ n. resolutions.One n) same
one_bean resolutions.Nothing b e = absurd cc
one_bean resolutions.Many b e = absurd cc

pub target : (t : RunTables) (asked : Asked) (b : ℕ) → (machine_tables t).resolve asked ≡ machine.Resolution.One b → IsTarget t asked b
target t asked b e =
    let beans = enabled_of t.tables.resolver in
    let uses = full_uses t.tables.declared.qualifiers asked.qualifiers in
    let resolves : resolution asked.type uses beans ≡ resolutions.One b = one_bean (resolution_of t asked.type asked.qualifiers) b e in
    let eligible = one_is_eligible asked.type uses beans b resolves in
    let kept = is_kept beans b eligible.bean (contains_among beans (b, eligible.bean) eligible.stands) in
    record { resolves = resolves; bean = kept.value; enabled = kept.stands; has = kept.has }
