-- A list of qualifiers has what its ordered set has.
use Rattle.std.proofs.Common.{◌≡◌, ℕ, Bool, true, false, List, Any, Contains, refl, sym}
use Rattle.std.proofs.lemmas.List.Folds.{Any-from_list_any, list_any-from_Any}
use Rattle.std.specs.List.{list_any}
use Rattle.cdi_quals.specs.Order.{compare_qualifiers}
use Rattle.cdi_quals.specs.OrderedSet.{IsOrderedSet}
use Rattle.cdi_quals.specs.Qualifiers.{has, same_binding}
use Rattle.cdi_quals.specs.declared.qualifier.Qualifier.{Qualifier}

-- what passes a test among some items does so among all that hold them
passes_among : {X : Type 0} (test : X → Bool) (items others : List X)
    → ((x : X) → Contains items x → Contains others x)
    → list_any test items ≡ true → list_any test others ≡ true
passes_among test items others into passes =
    let found : Any (λ x. test x ≡ true) items = Any-from_list_any test items passes in
    let there : Contains others found.1 = into found.1 (found.0, found.2, found.3) in
    list_any-from_Any test others (there.0, found.1, there.1, there.2, found.4)

alike : (a b : Bool) → (a ≡ true → b ≡ true) → (b ≡ true → a ≡ true) → a ≡ b
alike true b there back = sym (there refl)
alike false true there back = back refl
alike false false there back = refl

pub have_sets : (names : List (List ℕ)) (qualifiers set : List Qualifier)
    → IsOrderedSet (compare_qualifiers names) qualifiers set
    → (required : Qualifier) → has set required ≡ has qualifiers required
have_sets names qualifiers set is required =
    alike (has set required) (has qualifiers required)
    (passes_among (same_binding required) set qualifiers (λ x. (is.same x).0))
    (passes_among (same_binding required) qualifiers set (λ x. (is.same x).1))
