use Rattle.std.proofs.Common.{◌≡◌, ◌||◌, map, drop}
use Rattle.std.specs.List.{list_any}
use Rattle.cdi_bean_check.specs.MemberPlaces.{MemberPlace, has_place}
use Rattle.cdi_bean_check.specs.Repeated.{repeats_at}
use Rattle.cdi_bean_check.proofs.repeated.add_of_line.Given as goal

abbrev pub invariant-loop-above : goal.invariant-loop-above
invariant-loop-above l =
    (place : MemberPlace) → (list_any (repeats_at l.class place) (map (λ c. c.now) (drop l.above-index l.line)) || has_place l.found place)
    ≡ (list_any (repeats_at l.class place) (map (λ c. c.now) l.line) || has_place l.initial.found place)
