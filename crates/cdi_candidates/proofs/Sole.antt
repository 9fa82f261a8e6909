-- What resolution gives is the sole bean that is left.
use Rattle.std.proofs.Common.{◌≡◌, ℕ, ℤ, ◌||◌, Bool, true, false, cond, List, [], ◌∷◌, Option, Some, None, refl}
use Rattle.std.specs.List.{list_any}
use Rattle.cdi_beans.specs.declared.bean.Bean.{Bean}
use Rattle.cdi_candidates.proofs.Greatest.{none_left, some_left, is_own, highest_some}
use Rattle.cdi_candidates.specs.Candidates.{among_eligible, by_priority}
use Rattle.cdi_resolve.specs.Resolution as resolution
use Rattle.cdi_resolve.specs.Resolution.{alternatives, all_have_priority, highest, just_one, sole}
use Rattle.cdi_resolve.specs.declared.resolution.Resolution.TheVariants.{One, Many}

-- one bean goes before no other
alone : (b : ℕ × Bean) (q : Option ℤ) → b.1.priority ≡ q → One b.0 ≡ sole (by_priority (b ∷ []))
alone b None e = rw e refl
alone b (Some p) e = rw (e, is_own p) refl

just_one_sole : (bs : List (ℕ × Bean)) → (bs ≡ [] → ⊥) → just_one bs ≡ sole bs
just_one_sole [] some = absurd (some refl)
just_one_sole (b ∷ []) some = refl
just_one_sole (a ∷ b ∷ bs) some = refl

ranked : (a b : ℕ × Bean) (bs : List (ℕ × Bean)) → resolution.by_priority (a ∷ b ∷ bs) ≡ sole (by_priority (a ∷ b ∷ bs))
ranked a b bs = by (all_have_priority (a ∷ b ∷ bs)) refl
  where
    by : (all : Bool) → all_have_priority (a ∷ b ∷ bs) ≡ all
        → cond all (just_one (highest (a ∷ b ∷ bs))) Many ≡ sole (cond all (highest (a ∷ b ∷ bs)) (a ∷ b ∷ bs))
    by false e = refl
    by true e = just_one_sole (highest (a ∷ b ∷ bs)) (highest_some a (b ∷ bs) e)

several : (a b : ℕ × Bean) (bs : List (ℕ × Bean)) (any : Bool) → list_any (λ b. b.1.alternative) (a ∷ b ∷ bs) ≡ any
    → (left : List (ℕ × Bean)) → alternatives (a ∷ b ∷ bs) ≡ left
    → resolution.among_alternatives left ≡ sole (cond any (by_priority left) (a ∷ b ∷ bs))
several a b bs false e [] h = refl
several a b bs false e (x ∷ xs) h = let none = none_left (λ b. b.1.alternative) (a ∷ b ∷ bs) e in absurd cc
several a b bs true e [] h = absurd (some_left (λ b. b.1.alternative) (a ∷ b ∷ bs) e h)
several a b bs true e (x ∷ []) h = alone x x.1.priority refl
several a b bs true e (x ∷ y ∷ xs) h = ranked x y xs

pub sole_left : (beans : List (ℕ × Bean)) → resolution.among_eligible beans ≡ sole (among_eligible beans)
sole_left [] = refl
sole_left (b ∷ []) = by b.1.alternative
  where
    by : (is : Bool) → One b.0 ≡ sole (cond (is || false) (by_priority (cond is (b ∷ []) [])) (b ∷ []))
    by false = refl
    by true = alone b b.1.priority refl
sole_left (a ∷ b ∷ bs) = several a b bs (list_any (λ b. b.1.alternative) (a ∷ b ∷ bs)) refl (alternatives (a ∷ b ∷ bs)) refl
