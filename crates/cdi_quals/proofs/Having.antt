-- What a set has.
use Rattle.std.proofs.Common.{◌≡◌, ◌∙◌, Bool, true, false, ◌&&◌, ◌||◌, not, List, [], ◌∷◌, ◌++◌, refl, ap, eq-eqb, Ordering}
use Rattle.std.proofs.lemmas.Cmp.{tied_itself}
use Rattle.std.proofs.lemmas.List.Elements.{Contains-append_left}
use Rattle.std.proofs.lemmas.List.Folds.{Any-from_list_any, list_any-from_Any}
use Rattle.std.specs.List.{Any, Contains}
use Rattle.std.specs.Ordering.{is_eq}
use Rattle.cdi_quals.specs.Order.{compare_values}
use Rattle.cdi_quals.specs.OrderedSet.{IsOrderedSet}
use Rattle.cdi_quals.specs.Qualifiers.{agrees, agree, same_binding, has}
use Rattle.cdi_quals.proofs.Orders.{values_total}
use Rattle.cdi_quals.specs.declared.qualifier.Qualifier.{Qualifier}
use Rattle.cdi_quals.specs.declared.qualifier.QualifierMember.{QualifierMember}

agrees-itself : (m : QualifierMember) → agrees m m ≡ true
agrees-itself m = by m.is_binding
  where
    by : (b : Bool) → (not b || is_eq (compare_values m.value m.value)) ≡ true
    by true = ap is_eq (tied_itself values_total m.value)
    by false = refl

agree-itself : (ms : List QualifierMember) → agree ms ms ≡ true
agree-itself [] = refl
agree-itself (m ∷ ms) = ap (λ b. b && agree ms ms) (agrees-itself m) ∙ agree-itself ms

same_binding-itself : (q : Qualifier) → same_binding q q ≡ true
same_binding-itself q = ap (λ b. b && agree q.members q.members) (eq-eqb q.name q.name refl) ∙ agree-itself q.members

module _ {R : Qualifier → Qualifier → Ordering} where
  pub has_its_own : (uses set : List Qualifier) → IsOrderedSet R uses set → (q : Qualifier) → Contains uses q → has set q ≡ true
  has_its_own uses set is q own =
      let there : Contains set q = (is.same q).1 own in
      list_any-from_Any (same_binding q) set (there.0, q, there.1, there.2, same_binding-itself q)

  pub loses_nothing : (uses more set larger : List Qualifier) → IsOrderedSet R uses set → IsOrderedSet R (uses ++ more) larger → (q : Qualifier) → has set q ≡ true → has larger q ≡ true
  loses_nothing uses more set larger is is-larger q had =
      let found : Any (λ p. same_binding q p ≡ true) set = Any-from_list_any (same_binding q) set had in
      let p : Qualifier = found.1 in
      let used : Contains uses p = (is.same p).0 (found.0, found.2, found.3) in
      let there : Contains larger p = (is-larger.same p).1 (Contains-append_left uses more p used) in
      list_any-from_Any (same_binding q) larger (there.0, p, there.1, there.2, found.4)
