-- What resolves to one bean is eligible.
use Rattle.std.proofs.Common.{◌≡◌, ◌∙◌, ℕ, zero, suc, Bool, true, false, List, [], ◌∷◌, filter, cond, Option, Some, None, refl, sym, ap, arith}
use Rattle.std.specs.Prelude.{ℤ, Contains}
use Rattle.cdi_beans.specs.declared.bean.Bean.{Bean}
use Rattle.cdi_quals.specs.declared.qualifier.Qualifier.{Qualifier}
use Rattle.cdi_resolve.specs.Filters.{fits}
use Rattle.cdi_resolve.specs.Resolution.{eligible, alternatives, all_have_priority, greatest_priority, with_greatest, highest, just_one, by_priority, among_alternatives, among_eligible, resolution, IsEligible}
use Rattle.cdi_resolve.specs.declared.resolution.Resolution.TheVariants.{One, Many}

-- it stands in a list, by its index
pub record Stands (xs : List (ℕ × Bean)) (b : ℕ) : Type 0 where
  pub bean : Bean
  pub there : Contains xs (b, bean)

module _ {X : Type 0} where
  further : (x y : X) (xs : List X) → Contains xs y → Contains (x ∷ xs) y
  further x y xs (k, lt, is) = (suc k, omega arith, is)

  -- what a filter keeps stands in the list, and passes
  pub record Kept (p : X → Bool) (xs : List X) (x : X) : Type 0 where
    pub stands : Contains xs x
    pub passes : p x ≡ true

  pub kept : (p : X → Bool) (xs : List X) (x : X) → Contains (filter p xs) x → Kept p xs x
  kept p [] x (k, lt, is) = absurd (omega arith)
  kept p (y ∷ ys) x c = by (p y) refl c (kept p ys x)
    where
      by : (b : Bool) → p y ≡ b → Contains (cond b (y ∷ filter p ys) (filter p ys)) x → (Contains (filter p ys) x → Kept p ys x) → Kept p (y ∷ ys) x
      by false h c more = let found = more c in record { stands = further y x ys found.stands; passes = found.passes }
      by true h (zero, lt, is) more = record { stands = (zero, omega arith, is); passes = ap p (sym is) ∙ h }
      by true h (suc k, lt, is) more = let found = more (k, omega arith, is) in record { stands = further y x ys found.stands; passes = found.passes }

pub of_filter : (p : ℕ × Bean → Bool) (xs : List (ℕ × Bean)) (b : ℕ) → Stands (filter p xs) b → Stands xs b
of_filter p xs b s = record { bean = s.bean; there = (kept p xs (b, s.bean) s.there).stands }

first_stands : (i : ℕ) (x : Bean) (xs : List (ℕ × Bean)) (b : ℕ) → One i ≡ One b → Stands ((i, x) ∷ xs) b
first_stands i x xs b e = let same : i ≡ b = cc in record { bean = x; there = (zero, omega arith, ap (λ j. (j, x)) same) }

just_one_stands : (xs : List (ℕ × Bean)) (b : ℕ) → just_one xs ≡ One b → Stands xs b
just_one_stands [] b e = absurd cc
just_one_stands ((i, x) ∷ []) b e = first_stands i x [] b e
just_one_stands (x ∷ y ∷ xs) b e = absurd cc

greatest_stands : (p : Option ℤ) (xs : List (ℕ × Bean)) (b : ℕ) → Stands (with_greatest p xs) b → Stands xs b
greatest_stands None xs b s = absurd (omega (arith, s.there.1))
greatest_stands (Some p) xs b s = of_filter _ xs b s

by_priority_stands : (xs : List (ℕ × Bean)) (b : ℕ) → by_priority xs ≡ One b → Stands xs b
by_priority_stands xs b e = by (all_have_priority xs) e
  where
    by : (all : Bool) → cond all (just_one (highest xs)) Many ≡ One b → Stands xs b
    by true h = greatest_stands (greatest_priority xs) xs b (just_one_stands (highest xs) b h)
    by false h = absurd cc

alternatives_stand : (xs : List (ℕ × Bean)) (b : ℕ) → among_alternatives xs ≡ One b → Stands xs b
alternatives_stand [] b e = absurd cc
alternatives_stand ((i, x) ∷ []) b e = first_stands i x [] b e
alternatives_stand (x ∷ y ∷ xs) b e = by_priority_stands (x ∷ y ∷ xs) b e

eligible_stand : (xs : List (ℕ × Bean)) (b : ℕ) → among_eligible xs ≡ One b → Stands xs b
eligible_stand [] b e = absurd cc
eligible_stand ((i, x) ∷ []) b e = first_stands i x [] b e
eligible_stand (x ∷ y ∷ xs) b e = of_filter (λ z. z.1.alternative) (x ∷ y ∷ xs) b (alternatives_stand (alternatives (x ∷ y ∷ xs)) b e)

pub one_is_eligible : (type : ℕ) (qualifiers : List Qualifier) (beans : List (ℕ × Bean)) (b : ℕ) → resolution type qualifiers beans ≡ One b → IsEligible type qualifiers beans b
one_is_eligible type qualifiers beans b e =
    let s = eligible_stand (eligible type qualifiers beans) b e in
    let k = kept (λ x. fits type qualifiers x.1) beans (b, s.bean) s.there in
    record { bean = s.bean; stands = k.stands; fitting = k.passes }
