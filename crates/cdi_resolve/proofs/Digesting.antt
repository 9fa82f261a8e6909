-- Equal bindings have equal digests.
use Rattle.std.proofs.Common.{◌≡◌, ◌∙◌, ℕ, zero, suc, ◌≤◌, min, length, drop, map, arith, Bool, true, false, not, ◌&&◌, ◌||◌, cond, List, [], ◌∷◌, Option, Some, None, Ordering, Less, Equal, Greater, refl, sym, ap}
use Rattle.std.specs.Option.{option_and_then}
use Rattle.std.specs.Ordering.{is_eq}
use Rattle.cdi_quals.proofs.Orders.{values_apart}
use Rattle.cdi_quals.specs.Order.{compare_values}
use Rattle.cdi_quals.specs.Qualifiers.{agree, agrees}
use Rattle.cdi_quals.specs.declared.qualifier.QualifierMember.{QualifierMember}
use Rattle.cdi_quals.specs.declared.types.MemberType.{MemberType}
use Rattle.cdi_resolve.specs.Digests.{with_value, with_own, with_all_own, with_required, with_all_required}

equal : (o : Ordering) → is_eq o ≡ true → o ≡ Equal
equal Less e = absurd cc
equal Equal e = refl
equal Greater e = absurd cc

pub first : (s t : Bool) → s && t ≡ true → s ≡ true
first true t e = refl
first false t e = e

pub second : (s t : Bool) → s && t ≡ true → t ≡ true
second true t e = e
second false t e = absurd cc

-- one member's value
one : (f b : Bool) (m n : QualifierMember) (d e : ℕ) → m.is_binding ≡ b → agrees m n ≡ true → with_required f m.is_binding m.value d ≡ Some e → with_own f n.value d ≡ e
one false b m n d e is same told = let at : Some d ≡ Some e = told in cc
one true false m n d e is same told = absurd (let none : None ≡ Some e = ap (λ b. cond b (Some (with_value d m.value)) None) (sym is) ∙ told in cc)
one true true m n d e is same told =
    let value : m.value ≡ n.value = values_apart m.value n.value (equal (compare_values m.value n.value) (ap (λ b. not b || is_eq (compare_values m.value n.value)) (sym is) ∙ same)) in
    let at : Some (with_value d m.value) ≡ Some e = ap (λ b. cond b (Some (with_value d m.value)) None) (sym is) ∙ told in
    ap (with_value d) (sym value) ∙ (cc)

-- members that agree with required ones have their digest
pub same_digest : (flags : List Bool) (required own : List QualifierMember) (d e : ℕ) → agree required own ≡ true → with_all_required flags required d ≡ Some e → with_all_own flags own d ≡ e
same_digest [] required own d e same told = cc
same_digest (f ∷ flags) [] [] d e same told = cc
same_digest (f ∷ flags) [] (n ∷ own) d e same told = absurd cc
same_digest (f ∷ flags) (m ∷ required) [] d e same told = absurd cc
same_digest (f ∷ flags) (m ∷ required) (n ∷ own) d e same told = by (with_required f m.is_binding m.value d) refl told (λ c h. same_digest flags required own c e (second (agrees m n) (agree required own) same) h)
  where
    by : (o : Option ℕ) → with_required f m.is_binding m.value d ≡ o → option_and_then (with_all_required flags required) o ≡ Some e
        → ((c : ℕ) → with_all_required flags required c ≡ Some e → with_all_own flags own c ≡ e) → with_all_own flags own (with_own f n.value d) ≡ e
    by None is h further = absurd cc
    by (Some c) is h further = ap (with_all_own flags own) (one f m.is_binding m n d c refl (first (agrees m n) (agree required own) same) is) ∙ further c h

-- ---- behind the last member

none_own : (flags : List Bool) (d : ℕ) → with_all_own flags [] d ≡ d
none_own [] d = refl
none_own (f ∷ flags) d = refl

pub own_ended : (flags : List Bool) (own : List QualifierMember) (i d : ℕ) → min (length flags) (length own) ≤ i → with_all_own (drop i flags) (drop i own) d ≡ d
own_ended [] own zero d e = refl
own_ended [] own (suc i) d e = refl
own_ended (f ∷ flags) [] zero d e = refl
own_ended (f ∷ flags) [] (suc i) d e = none_own (drop i flags) d
own_ended (f ∷ flags) (m ∷ own) zero d e = absurd (omega (arith, e))
own_ended (f ∷ flags) (m ∷ own) (suc i) d e = own_ended flags own i d (omega (arith, e))

none_required : (flags : List Bool) (d : ℕ) → with_all_required flags [] d ≡ Some d
none_required [] d = refl
none_required (f ∷ flags) d = refl

pub required_ended : (flags : List Bool) (required : List QualifierMember) (i d : ℕ) → min (length flags) (length required) ≤ i → with_all_required (drop i flags) (drop i required) d ≡ Some d
required_ended [] required zero d e = refl
required_ended [] required (suc i) d e = refl
required_ended (f ∷ flags) [] zero d e = refl
required_ended (f ∷ flags) [] (suc i) d e = none_required (drop i flags) d
required_ended (f ∷ flags) (m ∷ required) zero d e = absurd (omega (arith, e))
required_ended (f ∷ flags) (m ∷ required) (suc i) d e = required_ended flags required i d (omega (arith, e))

pub given_ended : (full : MemberType → QualifierMember) (flags : List Bool) (members : List MemberType) (i d : ℕ) → min (length flags) (length members) ≤ i → with_all_required (drop i flags) (map full (drop i members)) d ≡ Some d
given_ended full [] members zero d e = refl
given_ended full [] members (suc i) d e = refl
given_ended full (f ∷ flags) [] zero d e = refl
given_ended full (f ∷ flags) [] (suc i) d e = none_required (drop i flags) d
given_ended full (f ∷ flags) (m ∷ members) zero d e = absurd (omega (arith, e))
given_ended full (f ∷ flags) (m ∷ members) (suc i) d e = given_ended full flags members i d (omega (arith, e))
