-- The orders of values, names, members and qualifiers are total, and tell apart all that differs.
use Rattle.std.proofs.Common.{◌≡◌, ℕ, true, false, List, [], pos, ℤ, refl, sym, ap, subst, nat_cmp, Ordering, Less, Equal, Greater}
use Rattle.std.proofs.lemmas.Cmp.{on_total, nat_cmp_total, int_cmp_total, lists_total}
use Rattle.std.specs.Cmp.{IsTotalOrder, then_total, bool_cmp_total}
use Rattle.std.specs.Cmp.Lexicographic.{on_texts, options_total, nat_list_cmp_total, slice_cmp}
use Rattle.std.specs.FinMap.{IsAntisymmetric, nat_cmp-IsAntisymmetric, int_cmp-IsAntisymmetric, slice_cmp-IsAntisymmetric}
use Rattle.std.specs.List.{slice_get}
use Rattle.std.specs.Ordering.{int_cmp, bool_cmp, on, then_cmp, ordering_then}
use Rattle.cdi_base.specs.declared.value.Value.{Value}
use Rattle.cdi_base.specs.declared.value.Value.TheVariants as values
use Rattle.cdi_quals.specs.Order.{compare_values, compare_names, compare_member, compare_members, compare_qualifiers}
use Rattle.cdi_quals.specs.declared.qualifier.Qualifier.{Qualifier}
use Rattle.cdi_quals.specs.declared.qualifier.QualifierMember.{QualifierMember}

kind : Value → ℕ
kind values.Null = 0
kind (values.Int n) = 1
kind (values.Text t) = 2

number : Value → ℤ
number values.Null = pos 0
number (values.Int n) = n
number (values.Text t) = pos 0

bytes : Value → List ℕ
bytes values.Null = []
bytes (values.Int n) = []
bytes (values.Text t) = t

by_parts : Value → Value → Ordering
by_parts = then_cmp (on kind nat_cmp) (then_cmp (on number int_cmp) (on bytes (slice_cmp nat_cmp)))

then_equal : (o : Ordering) → o ≡ ordering_then o Equal
then_equal Less = refl
then_equal Equal = refl
then_equal Greater = refl

same_order : (x y : Value) → by_parts x y ≡ compare_values x y
unfolding by_parts kind number bytes
same_order values.Null values.Null = refl
same_order values.Null (values.Int n) = refl
same_order values.Null (values.Text t) = refl
same_order (values.Int m) values.Null = refl
same_order (values.Int m) (values.Int n) = sym (then_equal (int_cmp m n))
same_order (values.Int m) (values.Text t) = refl
same_order (values.Text s) values.Null = refl
same_order (values.Text s) (values.Int n) = refl
same_order (values.Text s) (values.Text t) = refl

pub values_total : IsTotalOrder compare_values
unfolding by_parts
values_total = subst IsTotalOrder (λ i x y. same_order x y i) (then_total (on_total kind nat_cmp_total) (then_total (on_total number int_cmp_total) (on_texts bytes)))

pub names_total : (names : List (List ℕ)) → IsTotalOrder (compare_names names)
names_total names = then_total (on_total (slice_get names) (options_total nat_list_cmp_total)) nat_cmp_total

member_total : IsTotalOrder compare_member
member_total =
    then_total (on_total (λ (m : QualifierMember). m.value) values_total) (then_total (on_total (λ (m : QualifierMember). m.name) nat_cmp_total) (on_total (λ (m : QualifierMember). m.is_binding) bool_cmp_total))

pub qualifiers_total : (names : List (List ℕ)) → IsTotalOrder (compare_qualifiers names)
qualifiers_total names =
    then_total (on_total (λ (q : Qualifier). q.name) (names_total names)) (on_total (λ (q : Qualifier). q.members) (lists_total member_total))

both_equal : (a b : Ordering) → ordering_then a b ≡ Equal → (a ≡ Equal) × (b ≡ Equal)
both_equal Less b e = absurd cc
both_equal Equal b e = (refl, e)
both_equal Greater b e = absurd cc

pub values_apart : IsAntisymmetric compare_values
values_apart values.Null values.Null e = refl
values_apart values.Null (values.Int n) e = absurd cc
values_apart values.Null (values.Text t) e = absurd cc
values_apart (values.Int m) values.Null e = absurd cc
values_apart (values.Int m) (values.Int n) e = ap values.Int (int_cmp-IsAntisymmetric m n e)
values_apart (values.Int m) (values.Text t) e = absurd cc
values_apart (values.Text s) values.Null e = absurd cc
values_apart (values.Text s) (values.Int n) e = absurd cc
values_apart (values.Text s) (values.Text t) e = ap values.Text (slice_cmp-IsAntisymmetric nat_cmp-IsAntisymmetric s t e)

pub names_apart : (names : List (List ℕ)) → IsAntisymmetric (compare_names names)
names_apart names a b e = nat_cmp-IsAntisymmetric a b (both_equal _ _ e).1

marks_apart : IsAntisymmetric bool_cmp
marks_apart true true e = refl
marks_apart true false e = absurd cc
marks_apart false true e = absurd cc
marks_apart false false e = refl

members_apart : IsAntisymmetric compare_member
members_apart m n e =
    let first = both_equal (compare_values m.value n.value) (ordering_then (nat_cmp m.name n.name) (bool_cmp m.is_binding n.is_binding)) e in
    let rest = both_equal (nat_cmp m.name n.name) (bool_cmp m.is_binding n.is_binding) first.1 in
    let value = values_apart m.value n.value first.0 in
    let name = nat_cmp-IsAntisymmetric m.name n.name rest.0 in
    let is_binding = marks_apart m.is_binding n.is_binding rest.1 in
    λ i. record { name = name i; value = value i; is_binding = is_binding i }

pub qualifiers_apart : (names : List (List ℕ)) → IsAntisymmetric (compare_qualifiers names)
qualifiers_apart names p q e =
    let both = both_equal (compare_names names p.name q.name) (compare_members p.members q.members) e in
    let name = names_apart names p.name q.name both.0 in
    let members = slice_cmp-IsAntisymmetric members_apart p.members q.members both.1 in
    λ i. record { name = name i; members = members i }
