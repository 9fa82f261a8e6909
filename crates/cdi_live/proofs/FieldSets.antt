-- Sets of the classes whose injected fields are live, and one class more that is looked at.
use Rattle.std.proofs.Common.{◌≡◌, ◌∙◌, ℕ, ◌+◌, ◌<◌, ◌||◌, ◌==◌, ◌⊎◌, inl, inr, Bool, true, false, cond, nat_eq, List, length, take, get_or, refl, sym, ap, subst}
use Rattle.std.proofs.lemmas.Bool.{eqb-true}
use Rattle.std.specs.HashSet.{HashSet, contains}
use Rattle.std.specs.List.{Any}
use Rattle.cdi_beans.specs.declared.bean.Bean.{Bean}
use Rattle.cdi_deployment.specs.declared.deployment.Class.{Class}
use Rattle.cdi_live.specs.Live.{IsBeanBelow, HasFieldsOf}
use Rattle.cdi_deployment.specs.Lists.{is_declared_class}
use Rattle.cdi_live.specs.LiveSets.{HasThose}
use Rattle.cdi_live.proofs.MemberSets.{any_next}
use Rattle.cdi_types.specs.declared.declaration.TypeDeclaration.{TypeDeclaration}

either : (a b : Bool) → (a || (b || false)) ≡ true → (a ≡ true) ⊎ (b ≡ true)
either true b e = inl refl
either false true e = inr refl
either false false e = absurd cc

by_first : (a b : Bool) → a ≡ true → (a || b) ≡ true
by_first true b e = refl
by_first false b e = absurd cc

by_last : (a b : Bool) → b ≡ true → (a || (b || false)) ≡ true
by_last true b e = refl
by_last false true e = refl
by_last false false e = absurd cc

module _ {S : Type 0} (types : List TypeDeclaration) (enabled : List (ℕ × Bean)) (classes : List Class) (i : ℕ) (c : Class) (lt : i < length classes) (is : c ≡ get_or classes i c) (set : HashSet ℕ S) where
  more : (q : ℕ) → is_declared_class (take (i + 1) classes) q ≡ (is_declared_class (take i classes) q || ((c.name == q) || false))
  more q = any_next (λ c. c.name == q) classes i c lt is

  stays : (q : ℕ) → HasFieldsOf (take i classes) types enabled q → HasFieldsOf (take (i + 1) classes) types enabled q
  stays q h = record { declared = more q ∙ by_first (is_declared_class (take i classes) q) _ h.declared; below = h.below }

  pub one_class : HasThose (HasFieldsOf (take i classes) types enabled) set → Any (IsBeanBelow types c.name) enabled → (larger : HashSet ℕ S)
      → ((q : ℕ) → contains nat_eq larger q ≡ cond (nat_eq c.name q) true (contains nat_eq set q)) → HasThose (HasFieldsOf (take (i + 1) classes) types enabled) larger
  one_class so_far has larger added = record { same = λ q. by q (nat_eq c.name q) refl }
    where
      by : (q : ℕ) (b : Bool) → nat_eq c.name q ≡ b
          → (contains nat_eq larger q ≡ true → HasFieldsOf (take (i + 1) classes) types enabled q) × (HasFieldsOf (take (i + 1) classes) types enabled q → contains nat_eq larger q ≡ true)
      by q true e = (
        λ h. (let P : ℕ → Type 0 = λ n. Any (IsBeanBelow types n) enabled in
            record { declared = more q ∙ by_last (is_declared_class (take i classes) q) (c.name == q) e; below = subst P (eqb-true c.name q e) has }),
        λ h. added q ∙ ap (λ b. cond b true (contains nat_eq set q)) e,
      )
      by q false e = (
        λ h. stays q ((so_far.same q).0 (sym (added q ∙ ap (λ b. cond b true (contains nat_eq set q)) e) ∙ h)),
        λ h. added q ∙ ap (λ b. cond b true (contains nat_eq set q)) e ∙ (elim (either (is_declared_class (take i classes) q) (c.name == q) (sym (more q) ∙ h.declared)) [
          | inl before ↦ (so_far.same q).1 (record { declared = before; below = h.below })
          | inr here ↦ absurd cc
        ]),
      )

  pub no_class : HasThose (HasFieldsOf (take i classes) types enabled) set → (Any (IsBeanBelow types c.name) enabled → ⊥) → HasThose (HasFieldsOf (take (i + 1) classes) types enabled) set
  no_class so_far hasnt = record {
    same = λ q. (
      λ h. stays q ((so_far.same q).0 h),
      λ h. (elim (either (is_declared_class (take i classes) q) (c.name == q) (sym (more q) ∙ h.declared)) [
        | inl before ↦ (so_far.same q).1 (record { declared = before; below = h.below })
        | inr here ↦ (let P : ℕ → Type 0 = λ n. Any (IsBeanBelow types n) enabled in absurd (hasnt (subst P (sym (eqb-true c.name q here)) h.below)))
      ]),
    );
  }
