use Rattle.std.proofs.Common.{◌≡◌, ◌||◌, drop}
use Rattle.std.specs.List.{list_any}
use Rattle.cdi_bean_check.specs.MemberPlaces.{MemberPlace, has_place, same_place}
use Rattle.cdi_bean_check.proofs.repeated.add_places.Given as goal

abbrev pub invariant-loop-name : goal.invariant-loop-name
invariant-loop-name l =
    (place : MemberPlace) → (list_any (λ name. same_place (l.class, name) place) (drop l.name-index l.names) || has_place l.found place)
    ≡ (list_any (λ name. same_place (l.class, name) place) l.names || has_place l.initial.found place)
