-- An instance in the list of its owner, and its references.
use Rattle.std.proofs.Common.{◌≡◌, ◌≢◌, ℕ, ◌++◌, Bool, true, false, List, [], ◌∷◌, cond, Option, Some, None, IsSome, IsNone, IsSomeAnd, is_some, inl, inr, refl, sym, ap, ◌∙◌}
use Rattle.cdi_base.specs.Maps.{Map, at, adjusted}
use Rattle.cdi_store.specs.declared.instance.Instance.{Instance}
use Rattle.cdi_store.specs.declared.instance.Owner.{Owner}
use Rattle.cdi_store.specs.declared.instance.Owner.TheVariants as owners
use Rattle.cdi_store.specs.Live.{Instances, all_but, with_dependent, without_dependent, for_owner, number_of, owner_in, owner_at, reference_in}
use Rattle.cdi_store.proofs.Numbers.{equal_or_not}

-- ---- changes of instances

module _ {X : Type 0} where
  pub adjusted-absent : (n : ℕ) (f : X → X) (m : Map X) → at m n ≡ None → adjusted n f m ≡ m
  adjusted-absent n f [] h = refl
  adjusted-absent n f (p ∷ more) h = elim (equal_or_not n p.0) [
    | inl s ↦ let t : Some p.1 ≡ None = rw s.0 at h in absurd (cc)
    | inr s ↦ rw s.0 (ap (λ r. p ∷ r) (adjusted-absent n f more (rw s.0 at h)))
  ]

  -- changes of two numbers go in either order
  pub adjusted-apart : (a b : ℕ) (f g : X → X) (m : Map X) → a ≢ b → adjusted a f (adjusted b g m) ≡ adjusted b g (adjusted a f m)
  adjusted-apart a b f g [] h = refl
  adjusted-apart a b f g (p ∷ more) h = elim (equal_or_not a p.0) [
    | inl s ↦ elim (equal_or_not b p.0) [
      | inl t ↦ absurd (h (s.1 ∙ sym t.1))
      | inr t ↦ rw (t.0, s.0, t.0) refl
    ]
    | inr s ↦ elim (equal_or_not b p.0) [
      | inl t ↦ rw (t.0, s.0, t.0) refl
      | inr t ↦ rw (t.0, s.0, t.0) (ap (λ r. p ∷ r) (adjusted-apart a b f g more h))
    ]
  ]

  -- equal changes
  pub adjusted-agree : (n : ℕ) (f g : X → X) (m : Map X) → ((x : X) → f x ≡ g x) → adjusted n f m ≡ adjusted n g m
  adjusted-agree n f g [] h = refl
  adjusted-agree n f g (p ∷ more) h = elim (equal_or_not n p.0) [
    | inl s ↦ rw s.0 (ap (λ (x : X). (p.0, x) ∷ more) (h p.1))
    | inr s ↦ rw s.0 (ap (λ r. p ∷ r) (adjusted-agree n f g more h))
  ]

  -- two changes of one number are one
  pub adjusted-twice : (n : ℕ) (f g : X → X) (m : Map X) → adjusted n f (adjusted n g m) ≡ adjusted n (λ x. f (g x)) m
  adjusted-twice n f g [] = refl
  adjusted-twice n f g (p ∷ more) = elim (equal_or_not n p.0) [
    | inl s ↦ rw s.0 (rw s.0 refl)
    | inr s ↦ rw s.0 (rw s.0 (ap (λ r. p ∷ r) (adjusted-twice n f g more)))
  ]

-- ---- the owner

number-cond : (b : Bool) (k m : ℕ) → cond b (Some k) None ≡ Some m → k ≡ m
number-cond true k m h = cc
number-cond false k m h = absurd (cc)

pub absent-cond : (o : Option Instance) (k : ℕ) → cond (is_some o) (Some k) None ≡ None → o ≡ None
absent-cond None k h = refl
absent-cond (Some x) k h = absurd (cc)

joins : (n m : ℕ) (live : Instances) (w : Owner) → number_of live w ≡ Some m → with_dependent n w live ≡ with_dependent n (owners.Instance m) live
joins n m live (owners.Instance k) h = let e : k ≡ m = number-cond (is_some (at live k)) k m h in rw e refl
joins n m live (owners.Context context) h = absurd (cc)
joins n m live owners.Borrower h = absurd (cc)

joins-none : (n : ℕ) (live : Instances) (w : Owner) → number_of live w ≡ None → with_dependent n w live ≡ live
joins-none n live (owners.Instance k) h = adjusted-absent k _ live (absent-cond (at live k) k h)
joins-none n live (owners.Context context) h = refl
joins-none n live owners.Borrower h = refl

leaves : (n m : ℕ) (live : Instances) (w : Owner) → number_of live w ≡ Some m → without_dependent n w live ≡ without_dependent n (owners.Instance m) live
leaves n m live (owners.Instance k) h = let e : k ≡ m = number-cond (is_some (at live k)) k m h in rw e refl
leaves n m live (owners.Context context) h = absurd (cc)
leaves n m live owners.Borrower h = absurd (cc)

leaves-none : (n : ℕ) (live : Instances) (w : Owner) → number_of live w ≡ None → without_dependent n w live ≡ live
leaves-none n live (owners.Instance k) h = adjusted-absent k _ live (absent-cond (at live k) k h)
leaves-none n live (owners.Context context) h = refl
leaves-none n live owners.Borrower h = refl

module _ (f g : Owner → Instances → Instances) (live : Instances) where
  by_owner : (o : Option Instance) (m : ℕ) → ((w : Owner) → number_of live w ≡ Some m → f w live ≡ f (owners.Instance m) live) → owner_in live o ≡ Some m → for_owner o f live ≡ f (owners.Instance m) live
  by_owner None m h e = absurd (cc)
  by_owner (Some x) m h e = h x.owner e

  by_none : (o : Option Instance) → ((w : Owner) → number_of live w ≡ None → f w live ≡ live) → owner_in live o ≡ None → for_owner o f live ≡ live
  by_none None h e = refl
  by_none (Some x) h e = h x.owner e

-- an instance joins the list of the live instance that owns it
pub joins-owner : (n m : ℕ) (live : Instances) → Some m ≡ owner_at n live → for_owner (at live n) (with_dependent n) live ≡ with_dependent n (owners.Instance m) live
joins-owner n m live e = by_owner (with_dependent n) (with_dependent n) live (at live n) m (joins n m live) (sym e)

-- and none, if no live instance owns it
pub joins-no_owner : (n : ℕ) (live : Instances) → None ≡ owner_at n live → for_owner (at live n) (with_dependent n) live ≡ live
joins-no_owner n live e = by_none (with_dependent n) (with_dependent n) live (at live n) (joins-none n live) (sym e)

pub leaves-owner : (n m : ℕ) (live : Instances) → Some m ≡ owner_at n live → for_owner (at live n) (without_dependent n) live ≡ without_dependent n (owners.Instance m) live
leaves-owner n m live e = by_owner (without_dependent n) (without_dependent n) live (at live n) m (leaves n m live) (sym e)

pub leaves-no_owner : (n : ℕ) (live : Instances) → None ≡ owner_at n live → for_owner (at live n) (without_dependent n) live ≡ live
leaves-no_owner n live e = by_none (without_dependent n) (without_dependent n) live (at live n) (leaves-none n live) (sym e)

-- who has it no longer
abbrev pub taken_from : Option ℕ → ℕ → Instances → Instances
taken_from None n live = live
taken_from (Some m) n live = without_dependent n (owners.Instance m) live

pub leaves-taken : (n : ℕ) (live : Instances) → for_owner (at live n) (without_dependent n) live ≡ taken_from (owner_at n live) n live
leaves-taken n live = by (owner_at n live) refl
  where
    by : (o : Option ℕ) → o ≡ owner_at n live → for_owner (at live n) (without_dependent n) live ≡ taken_from o n live
    by None e = leaves-no_owner n live e
    by (Some m) e = leaves-owner n m live e

-- ---- who owns an instance

owner-number : (live : Instances) (w : Owner) (m : ℕ) → Some m ≡ number_of live w → w ≡ owners.Instance m
owner-number live (owners.Instance k) m h = ap (λ j. owners.Instance j) (number-cond (is_some (at live k)) k m (sym h))
owner-number live (owners.Context context) m h = absurd (cc)
owner-number live owners.Borrower m h = absurd (cc)

-- an instance of the number lives and has this owner
abbrev pub Owns : Instances → ℕ → Owner → Type 0
Owns live n w = (x : Instance) × (at live n ≡ Some x) × (x.owner ≡ w)

pub owns-by : (n m : ℕ) (live : Instances) → Some m ≡ owner_at n live → Owns live n (owners.Instance m)
owns-by n m live h = by (at live n) refl h
  where
    by : (o : Option Instance) → at live n ≡ o → Some m ≡ owner_in live o → Owns live n (owners.Instance m)
    by None e h = absurd (cc)
    by (Some x) e h = (x, e, owner-number live x.owner m h)

lives-cond : (o : Option Instance) (k m : ℕ) → Some m ≡ cond (is_some o) (Some k) None → (y : Instance) × (o ≡ Some y)
lives-cond None k m h = absurd (cc)
lives-cond (Some y) k m h = (y, refl)

lives-owner : (live : Instances) (w : Owner) (m : ℕ) → Some m ≡ number_of live w → (y : Instance) × (at live m ≡ Some y)
lives-owner live (owners.Instance k) m h =
    let e : k ≡ m = number-cond (is_some (at live k)) k m (sym h) in
    rw (← e) (lives-cond (at live k) k m h)
lives-owner live (owners.Context context) m h = absurd (cc)
lives-owner live owners.Borrower m h = absurd (cc)

-- the owner lives
pub owner-lives : (n m : ℕ) (live : Instances) → Some m ≡ owner_at n live → (y : Instance) × (at live m ≡ Some y)
owner-lives n m live h = by (at live n) h
  where
    by : (o : Option Instance) → Some m ≡ owner_in live o → (y : Instance) × (at live m ≡ Some y)
    by None h = absurd (cc)
    by (Some x) h = lives-owner live x.owner m h

-- ---- references

not_true : (b : Bool) → (b ≡ true → false ≡ true) → b ≡ false
not_true true h = sym (h refl)
not_true false h = refl

pub no_reference : (o : Option Instance) (field : ℕ) → (IsSomeAnd o (λ i. IsSome (at i.references field)) → false ≡ true) → IsNone (reference_in o field)
no_reference None field h = refl
no_reference (Some x) field h = not_true (is_some (at x.references field)) h
