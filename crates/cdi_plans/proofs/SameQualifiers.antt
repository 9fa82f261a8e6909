-- What a test of uses of qualifiers tells: whether they are equal.
use Rattle.std.proofs.Common.{◌≡◌, ◌&&◌, Bool, List, Decides, refl, ap}
use Rattle.std.specs.Cmp.{booleans_Decides}
use Rattle.std.specs.Cmp.Lexicographic.{pointwise}
use Rattle.std.proofs.lemmas.Bool.{and_from, and_parts}
use Rattle.std.proofs.lemmas.Bool.Decides.{Decides-eqb, Decides-int_eq}
use Rattle.std.proofs.lemmas.Slice.Eq.{bytes_eq-Decides, slice_eq-Decides}
use Rattle.cdi_base.specs.contracts.value.ValuePartialEq.TheImpl as value_test
use Rattle.cdi_base.specs.declared.value.Value.{Value}
use Rattle.cdi_base.specs.declared.value.Value.TheVariants as values
use Rattle.cdi_quals.specs.contracts.qualifier.QualifierMemberPartialEq.TheImpl as member_test
use Rattle.cdi_quals.specs.contracts.qualifier.QualifierPartialEq.TheImpl as qualifier_test
use Rattle.cdi_quals.specs.declared.qualifier.Qualifier.{Qualifier}
use Rattle.cdi_quals.specs.declared.qualifier.QualifierMember.{QualifierMember}

value_decided : (a b : Value) → Decides ((value_test.eq-value).it a b) (a ≡ b)
value_decided values.Null values.Null = (λ e. refl, λ e. refl)
value_decided values.Null (values.Int n) = (λ e. absurd cc, λ e. absurd cc)
value_decided values.Null (values.Text t) = (λ e. absurd cc, λ e. absurd cc)
value_decided (values.Int m) values.Null = (λ e. absurd cc, λ e. absurd cc)
value_decided (values.Int m) (values.Int n) =
    let numbers = Decides-int_eq m n in (λ e. ap values.Int (numbers.0 e), λ e. numbers.1 cc)
value_decided (values.Int m) (values.Text t) = (λ e. absurd cc, λ e. absurd cc)
value_decided (values.Text s) values.Null = (λ e. absurd cc, λ e. absurd cc)
value_decided (values.Text s) (values.Int n) = (λ e. absurd cc, λ e. absurd cc)
value_decided (values.Text s) (values.Text t) =
    let texts = bytes_eq-Decides s t in (λ e. ap values.Text (texts.0 e), λ e. texts.1 cc)

-- two tests decide what follows from what they decide, and tells it
both_decide : {P Q R : Type 0} (p q : Bool) → Decides p P → Decides q Q → (P → Q → R)
    → (R → P)
    → (R → Q)
    → Decides (p && q) R
both_decide p q first second from this that = (
  λ e. let parts = and_parts p q e in from (first.0 parts.0) (second.0 parts.1),
  λ r. and_from p q (first.1 (this r)) (second.1 (that r)),
)

member_decided : (a b : QualifierMember) → Decides ((member_test.eq-value).it a b) (a ≡ b)
member_decided a b =
    both_decide {Q = (a.value ≡ b.value) × (a.is_binding ≡ b.is_binding)} _ _ (Decides-eqb a.name b.name)
    (both_decide {R = (a.value ≡ b.value) × (a.is_binding ≡ b.is_binding)} _ _ (value_decided a.value b.value)
    (booleans_Decides a.is_binding b.is_binding)
    (λ value is_binding. (value, is_binding)) (λ both. both.0) (λ both. both.1))
    (λ name both i. record { name = name i; value = both.0 i; is_binding = both.1 i })
    (ap (λ (m : QualifierMember). m.name))
    (λ e. (ap (λ (m : QualifierMember). m.value) e, ap (λ (m : QualifierMember). m.is_binding) e))

qualifier_decided : (a b : Qualifier) → Decides ((qualifier_test.eq-value).it a b) (a ≡ b)
qualifier_decided a b =
    both_decide _ _ (Decides-eqb a.name b.name)
    (slice_eq-Decides member_decided a.members b.members _ refl)
    (λ name members i. record { name = name i; members = members i })
    (ap (λ (q : Qualifier). q.name))
    (ap (λ (q : Qualifier). q.members))

pub qualifiers_decided : (us vs : List Qualifier) (told : Bool)
    → told ≡ pointwise (qualifier_test.eq-value).it us vs → Decides told (us ≡ vs)
qualifiers_decided us vs told is = slice_eq-Decides qualifier_decided us vs told is
