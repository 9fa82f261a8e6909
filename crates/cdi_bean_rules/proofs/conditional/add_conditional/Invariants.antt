use Rattle.std.proofs.Common.{◌≡◌, ◌||◌, drop}
use Rattle.cdi_bean_check.specs.MemberPlaces.{MemberPlace, has_place, stands_at}
use Rattle.cdi_bean_rules.specs.Observers.{conditional_places}
use Rattle.cdi_bean_rules.proofs.conditional.add_conditional.Given as goal

abbrev pub invariant-loop-member : goal.invariant-loop-member
invariant-loop-member l =
    (place : MemberPlace) → (stands_at (conditional_places (drop l.member-index l.members)) place || has_place l.found place)
    ≡ (stands_at (conditional_places l.members) place || has_place l.initial.found place)
