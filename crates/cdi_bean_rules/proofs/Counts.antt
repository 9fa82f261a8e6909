-- Counts over beans.
use Rattle.std.proofs.Common.{◌≡◌, ◌∙◌, ◌⊎◌, inl, inr, ℕ, ◌+◌, ◌<◌, ◌≤◌, min, Bool, true, false, cond, List, [], ◌∷◌, ◌++◌, length, filter, take, get_or, sum_by, refl, sym, ap, subst, arith}
use Rattle.std.proofs.lemmas.Bool.Decides.{nat_tests}
use Rattle.std.proofs.lemmas.List.{take_more}
use Rattle.std.proofs.lemmas.List.Elements.{filter-append}
use Rattle.std.proofs.lemmas.List.Sums.{sum_by-append}
use Rattle.std.specs.Bool.{MatchBool, nat_lt}
use Rattle.std.specs.List.{AllZip}
use Rattle.cdi_deployment.specs.declared.deployment.Class.{Class}
use Rattle.cdi_deployment.specs.declared.deployment.Member.{Member}
use Rattle.cdi_types.specs.Members.{members_of}
use Rattle.cdi_types.proofs.Lines.{one_line}
use Rattle.cdi_types.specs.declared.declaration.TypeDeclaration.{TypeDeclaration}
use Rattle.cdi_bean_check.specs.Inherited.{AreMembersOf}
use Rattle.cdi_bean_rules.specs.Limits.{bean_count, observer_count, IsObserverCount, HasTooMany}
use Rattle.cdi_bean_check.specs.ManagedBeans.{is_bean}

module _ {X : Type 0} (xs : List X) (i : ℕ) (x : X) (lt : i < length xs) (is : x ≡ get_or xs i x) where
  longer : take (i + 1) xs ≡ take i xs ++ x ∷ []
  longer = take_more xs i x lt ∙ ap (λ y. take i xs ++ y ∷ []) (sym is)

  -- a sum that is cut at a number
  pub sums_on : (f : X → ℕ) (most count more next : ℕ) → count ≡ min (sum_by f (take i xs)) most → more ≡ min (f x) most → next ≡ min (count + more) most
      → next ≡ min (sum_by f (take (i + 1) xs)) most
  sums_on f most count more next so_far one is-next =
      let all : sum_by f (take (i + 1) xs) ≡ sum_by f (take i xs) + sum_by f (x ∷ []) = ap (sum_by f) longer ∙ sum_by-append f (take i xs) (x ∷ []) in
      let last : sum_by f (x ∷ []) ≡ f x = omega arith in
      omega (arith, all, last, so_far, one, is-next)

  module _ (p : X → Bool) where
    pub picks : p x ≡ true → filter p (take (i + 1) xs) ≡ filter p (take i xs) ++ x ∷ []
    picks e = ap (filter p) longer ∙ filter-append p (take i xs) (x ∷ []) ∙ ap (λ b. filter p (take i xs) ++ cond b (x ∷ []) []) e

    pub picks_none : p x ≡ false → filter p (take (i + 1) xs) ≡ filter p (take i xs)
    picks_none e = ap (filter p) longer ∙ filter-append p (take i xs) (x ∷ []) ∙ ap (λ b. filter p (take i xs) ++ cond b (x ∷ []) []) e ∙ nothing (filter p (take i xs))
      where
        nothing : (ys : List X) → ys ++ [] ≡ ys
        nothing [] = refl
        nothing (y ∷ ys) = ap (λ zs. y ∷ zs) (nothing ys)

pub pushes : {A B : Type 0} (R : A → B → Type 0) (xs : List A) (ys : List B) (x : A) (y : B) → AllZip R xs ys → R x y → AllZip R (xs ++ x ∷ []) (ys ++ y ∷ [])
pushes R [] [] x y all r = (r, tt)
pushes R [] (z ∷ zs) x y all r = absurd all
pushes R (z ∷ zs) [] x y all r = absurd all
pushes R (a ∷ xs) (b ∷ ys) x y all r = (all.0, pushes R xs ys x y all.1 r)

-- a sum of a list with one item more, cut at a number
pub adds_up : {X : Type 0} (f : X → ℕ) (xs : List X) (x : X) (most count more next : ℕ) → count ≡ min (sum_by f xs) most → more ≡ f x → next ≡ min (count + more) most
    → next ≡ min (sum_by f (xs ++ x ∷ [])) most
adds_up f xs x most count more next so_far one is-next =
    let all : sum_by f (xs ++ x ∷ []) ≡ sum_by f xs + sum_by f (x ∷ []) = sum_by-append f xs (x ∷ []) in
    let last : sum_by f (x ∷ []) ≡ f x = omega arith in
    omega (arith, all, last, so_far, one, is-next)

module _ (classes : List Class) (types : List TypeDeclaration) where
  same_members : (bean : Class) (has other : List (Class × Member)) → AreMembersOf classes types bean has → AreMembersOf classes types bean other → has ≡ other
  same_members bean has other a b = a.are ∙ ap members_of (one_line types classes bean.name a.line b.line a.is_line b.is_line) ∙ sym b.are

  same_lists : (beans : List Class) (lists others : List (List (Class × Member))) → AllZip (AreMembersOf classes types) beans lists → AllZip (AreMembersOf classes types) beans others → lists ≡ others
  same_lists [] [] [] a b = refl
  same_lists [] [] (m ∷ ms) a b = absurd b
  same_lists [] (l ∷ ls) others a b = absurd a
  same_lists (c ∷ cs) [] others a b = absurd a
  same_lists (c ∷ cs) (l ∷ ls) [] a b = absurd b
  same_lists (c ∷ cs) (l ∷ ls) (m ∷ ms) a b = ap (λ x. x ∷ ls) (same_members c l m a.0 b.0) ∙ ap (λ xs. m ∷ xs) (same_lists cs ls ms a.1 b.1)

  one_count : (n m : ℕ) → IsObserverCount classes types n → IsObserverCount classes types m → n ≡ m
  one_count n m a b = a.sum ∙ ap (sum_by observer_count) (same_lists (filter is_bean classes) a.members_of_beans b.members_of_beans a.each b.each) ∙ sym b.sum

  -- few beans, so that the observers decide
  pub decided : (many : Bool) (all counted most : ℕ) → bean_count classes ≤ 4096 → IsObserverCount classes types all → counted ≡ min all most → 16384 < most
      → many ≡ nat_lt 16384 counted
      → MatchBool many (HasTooMany classes types) (HasTooMany classes types → ⊥)
  decided true all counted most few is counts room test =
      let more : 16384 < counted = grind (arith, nat_tests) in
      inr (all, is, omega (arith, counts, more, room))
  decided false all counted most few is counts room test = λ h.
      let less : counted ≤ 16384 = grind (arith, nat_tests) in
      elim h [
        | inl beans ↦ absurd (omega (arith, few, beans))
        | inr o ↦ (let same : o.0 ≡ all = one_count o.0 all o.1 is in let more = o.2 in absurd (omega (arith, same, more, counts, less, room)))
      ]
