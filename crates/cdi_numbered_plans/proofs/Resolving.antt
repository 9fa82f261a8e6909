-- A set of qualifiers requires what the uses require that it is made of.
use Rattle.std.proofs.Common.{ℕ, ◌≡◌, ◌<◌, Bool, true, false, ◌&&◌, List, [], ◌∷◌, get_or, sym, ap, refl, arith, Ordering}
use Rattle.std.specs.Prelude.{Contains, ◌↔◌}
use Rattle.std.specs.List.{list_all}
use Rattle.std.proofs.lemmas.List.Elements.{All-contains, Contains-get_or, filter_agree}
use Rattle.std.proofs.lemmas.List.Sums.{AllPass-from_list_all, list_all-from_AllPass}
use Rattle.cdi_beans.specs.declared.bean.Bean.{Bean}
use Rattle.cdi_quals.specs.OrderedSet.{IsOrderedSet}
use Rattle.cdi_quals.specs.Qualifiers.{has}
use Rattle.cdi_quals.specs.declared.qualifier.Qualifier.{Qualifier}
use Rattle.cdi_resolve.specs.Filters.{fits, has_required, has_type}
use Rattle.cdi_resolve.specs.Resolution.{among_eligible, resolution}

same_tests : (a b : Bool) → (a ≡ true → b ≡ true) → (b ≡ true → a ≡ true) → a ≡ b
same_tests true true f g = refl
same_tests true false f g = sym (f refl)
same_tests false true f g = g refl
same_tests false false f g = refl

module _ {X : Type 0} (test : X → Bool) where
  pass_within : (xs ys : List X) → ((x : X) → Contains xs x → Contains ys x) → list_all test ys ≡ true → list_all test xs ≡ true
  pass_within xs ys within pass =
      let all = AllPass-from_list_all test ys pass in
      list_all-from_AllPass test xs (λ k d lt. All-contains (λ x. test x ≡ true) ys (get_or xs k d) all (within (get_or xs k d) (Contains-get_or xs k d lt)))

  -- lists with the same items
  same_pass : (xs ys : List X) → ((x : X) → Contains xs x ↔ Contains ys x) → list_all test xs ≡ list_all test ys
  same_pass xs ys same = same_tests (list_all test xs) (list_all test ys) (pass_within ys xs (λ x. (same x).1)) (pass_within xs ys (λ x. (same x).0))

in_none : {X : Type 0} (x : X) → Contains [] x → ⊥
in_none x there = let lt : there.0 < 0 = there.1 in omega arith

in_some : {X : Type 0} (x : X) (xs : List X) → Contains (x ∷ xs) x
in_some x xs = (0, omega arith, refl)

module _ {R : Qualifier → Qualifier → Ordering} where
  same_required : (given set : List Qualifier) → IsOrderedSet R given set → (b : Bean) → has_required set b ≡ has_required given b
  same_required [] [] is b = refl
  same_required [] (q ∷ qs) is b = absurd (in_none q ((is.same q).0 (in_some q qs)))
  same_required (q ∷ qs) [] is b = absurd (in_none q ((is.same q).1 (in_some q qs)))
  same_required (g ∷ gs) (q ∷ qs) is b = same_pass (has b.qualifiers) (q ∷ qs) (g ∷ gs) is.same

  -- so they resolve to the same
  pub same_resolution : (given set : List Qualifier) → IsOrderedSet R given set → (type : ℕ) (beans : List (ℕ × Bean)) → resolution type set beans ≡ resolution type given beans
  same_resolution given set is type beans =
      ap among_eligible
      (filter_agree (λ (p : ℕ × Bean). fits type set p.1) (λ (p : ℕ × Bean). fits type given p.1) (λ p. ap (λ r. has_type type p.1 && r) (same_required given set is p.1)) beans)
