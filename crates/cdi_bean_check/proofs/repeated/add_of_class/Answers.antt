use Rattle.std.proofs.Common.{Bor, ◌≡◌, ◌∙◌, ◌||◌, false, nat_eq, sym, ap}
use Rattle.std.specs.List.{list_any}
use Rattle.cdi_base.proofs.Tables.{list_any-map}
use Rattle.cdi_deployment.specs.declared.deployment.Class.{Class}
use Rattle.cdi_bean_check.specs.MemberPlaces.{has_place}
use Rattle.cdi_bean_check.specs.Repeated.{repeats_at}
use Rattle.cdi_bean_check.proofs.PlaceSets.{on_ok, of_superclasses}
use Rattle.cdi_bean_check.proofs.SharedNames.{first_part, none_repeated, other_part}
use Rattle.cdi_bean_check.specs.MixedNames.{has_mixed}
use Rattle.cdi_bean_check.specs.SharedNames.{fields_in}
use Rattle.std.specs.HashSet.{contains}
use Rattle.cdi_bean_check.proofs.repeated.add_of_class.Goals as goal

pub returns-then-not-has_class : goal.returns-then-not-has_class
returns-then-not-has_class c =
    let classes = c.args.index.now in
    let types = c.args.types.now in
    let class = c.args.class.now in
    let line = c.in_ok-line.line in
    let suspects = c.args.suspects.now in
    let neither : (list_any (contains nat_eq suspects.fields) (fields_in class) || has_mixed suspects.members class.members) ≡ false = sym c.has_any_of.ensures ∙ c.if-not-has_any_of.true in
    let free = first_part (list_any (contains nat_eq suspects.fields) (fields_in class)) (has_mixed suspects.members class.members) neither in
    let unmixed = other_part (list_any (contains nat_eq suspects.fields) (fields_in class)) (has_mixed suspects.members class.members) neither in
    let alone : list_any (λ (d : Class). nat_eq d.name class.name) line ≡ false =
    ap (list_any (λ (d : Class). nat_eq d.name class.name)) (sym c.classes.ensures) ∙ list_any-map (λ (d : Class). nat_eq d.name class.name) (λ (b : Bor Class). b.now) c.classes.result.now ∙ sym c.has_class.ensures ∙ c.if-not-has_class.true in
    let none = none_repeated classes types suspects.fields c.requires.fields suspects.members c.requires.members class c.requires.listed c.in-Some.direct line c.in_ok-line.ensures free unmixed alone in
    of_superclasses classes types c.args.found.now c.args.found.now class c.in-Some.direct line c.in-Some.is c.in_ok-line.ensures
    (λ place. ap (λ b. b || has_place c.args.found.now place) (sym (none place)))

pub returns : goal.returns
returns c =
    let classes = c.args.index.now in
    let types = c.args.types.now in
    let class = c.args.class.now in
    on_ok c.add_of_line.result
    (λ adds. of_superclasses classes types c.args.found.now c.add_of_line.new.found class c.in-Some.direct c.in_ok-line.line c.in-Some.is c.in_ok-line.ensures
    (λ place. adds place ∙ ap (λ line. list_any (repeats_at class place) line || has_place c.args.found.now place) c.classes-2.ensures))
    c.add_of_line.ensures
