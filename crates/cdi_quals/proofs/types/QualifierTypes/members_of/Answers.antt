use Rattle.std.proofs.Common.{◌≡◌, ◌∙◌, ℕ, nat_eq, Some, None, Option, List, position, slice_get, rules, sym, ap}
use Rattle.std.specs.HashMap.{get}
use Rattle.std.specs.Option.{option_copied}
use Rattle.cdi_quals.specs.Types.{members_in, members_of}
use Rattle.cdi_quals.specs.declared.types.QualifierType.{QualifierType}
use Rattle.cdi_types.proofs.Places.{no_place}
use Rattle.cdi_types.proofs.ClassPlaces.{found_at}
use Rattle.cdi_quals.proofs.types.QualifierTypes.members_of.Goals as goal

members_at : (types : List QualifierType) (name place : ℕ) → position (λ (y : QualifierType). nat_eq y.name name) types ≡ Some place → (r : Option QualifierType) → r ≡ slice_get types place → members_in r ≡ members_of types name
members_at types name place e r at = ap members_in (at ∙ sym (found_at (λ (y : QualifierType). nat_eq y.name name) types place e))

pub returns-in_default : goal.returns-in_default
returns-in_default c =
    let none : get nat_eq c.self.inside.places c.args.name ≡ None = search rules in
    rw (← c.self.view_is) (sym (ap members_in (no_place (λ (y : QualifierType). nat_eq y.name c.args.name) c.self.inside.types (sym (c.self.invariant c.args.name) ∙ none))))

pub returns-in-Some-get : goal.returns-in-Some-get
returns-in-Some-get c =
    let place = c.in-Some.place in
    let some : get nat_eq c.self.inside.places c.args.name ≡ Some place = search rules in
    let told = members_at c.self.inside.types c.args.name place (sym (c.self.invariant c.args.name) ∙ some) (option_copied c.get-2.result) c.get-2.ensures in
    rw (← c.self.view_is) (c.as_slice.ensures ∙ ap (λ r. members_in (option_copied r)) (sym c.in-Some-get.is) ∙ told)

pub returns-in-None : goal.returns-in-None
returns-in-None c =
    let place = c.in-Some.place in
    let some : get nat_eq c.self.inside.places c.args.name ≡ Some place = search rules in
    let told = members_at c.self.inside.types c.args.name place (sym (c.self.invariant c.args.name) ∙ some) (option_copied c.get-2.result) c.get-2.ensures in
    rw (← c.self.view_is) (ap (λ r. members_in (option_copied r)) (sym c.in-None.is) ∙ told)
