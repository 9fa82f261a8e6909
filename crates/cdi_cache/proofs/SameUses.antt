-- What a test of uses as they were written tells: whether they are equal.
use Rattle.std.proofs.Common.{◌≡◌, ◌&&◌, Bool, List, Decides, refl, ap}
use Rattle.std.specs.Cmp.Lexicographic.{pointwise}
use Rattle.std.proofs.lemmas.Bool.{and_from, and_parts}
use Rattle.std.proofs.lemmas.Bool.Decides.{Decides-eqb, Decides-int_eq}
use Rattle.std.proofs.lemmas.Slice.Eq.{bytes_eq-Decides, slice_eq-Decides}
use Rattle.cdi_base.specs.contracts.uses.MemberValuePartialEq.TheImpl as member_test
use Rattle.cdi_base.specs.contracts.uses.UsePartialEq.TheImpl as use_test
use Rattle.cdi_base.specs.contracts.value.ValuePartialEq.TheImpl as value_test
use Rattle.cdi_base.specs.declared.uses.MemberValue.{MemberValue}
use Rattle.cdi_base.specs.declared.uses.Use.{Use}
use Rattle.cdi_base.specs.declared.value.Value.{Value}
use Rattle.cdi_base.specs.declared.value.Value.TheVariants as values

value_decided : (a b : Value) → Decides ((value_test.eq-value).it a b) (a ≡ b)
value_decided values.Null values.Null = (λ e. refl, λ e. refl)
value_decided values.Null (values.Int n) = (λ e. absurd cc, λ e. absurd cc)
value_decided values.Null (values.Text t) = (λ e. absurd cc, λ e. absurd cc)
value_decided (values.Int m) values.Null = (λ e. absurd cc, λ e. absurd cc)
value_decided (values.Int m) (values.Int n) =
    let numbers = Decides-int_eq m n in (λ e. ap values.Int (numbers.0 e), λ e. numbers.1 cc)
value_decided (values.Int m) (values.Text t) = (λ e. absurd cc, λ e. absurd cc)
value_decided (values.Text s) values.Null = (λ e. absurd cc, λ e. absurd cc)
value_decided (values.Text s) (values.Int n) = (λ e. absurd cc, λ e. absurd cc)
value_decided (values.Text s) (values.Text t) =
    let texts = bytes_eq-Decides s t in (λ e. ap values.Text (texts.0 e), λ e. texts.1 cc)

-- two tests decide what follows from what they decide, and tells it
both_decide : {P Q R : Type 0} (p q : Bool) → Decides p P → Decides q Q → (P → Q → R)
    → (R → P)
    → (R → Q)
    → Decides (p && q) R
both_decide p q first second from this that = (
  λ e. let parts = and_parts p q e in from (first.0 parts.0) (second.0 parts.1),
  λ r. and_from p q (first.1 (this r)) (second.1 (that r)),
)

member_decided : (a b : MemberValue) → Decides ((member_test.eq-value).it a b) (a ≡ b)
member_decided a b =
    both_decide _ ((value_test.eq-value).it a.value b.value) (Decides-eqb a.name b.name)
    (value_decided a.value b.value)
    (λ name value i. record { name = name i; value = value i })
    (ap (λ (m : MemberValue). m.name))
    (ap (λ (m : MemberValue). m.value))

use_decided : (a b : Use) → Decides ((use_test.eq-value).it a b) (a ≡ b)
use_decided a b =
    both_decide _ _ (Decides-eqb a.name b.name)
    (slice_eq-Decides member_decided a.members b.members _ refl)
    (λ name members i. record { name = name i; members = members i })
    (ap (λ (u : Use). u.name))
    (ap (λ (u : Use). u.members))

pub uses_decided : (us vs : List Use) (told : Bool)
    → told ≡ pointwise (use_test.eq-value).it us vs → Decides told (us ≡ vs)
uses_decided us vs told is = slice_eq-Decides use_decided us vs told is
