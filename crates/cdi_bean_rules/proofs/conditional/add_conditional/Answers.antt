use Rattle.std.proofs.Common.{◌∙◌, ◌||◌, sym}
use Rattle.cdi_bean_check.specs.MemberPlaces.{has_place, stands_at}
use Rattle.cdi_bean_rules.specs.Observers.{conditional_place, conditional_places}
use Rattle.cdi_bean_check.proofs.PlaceSets.{adds_place, adds_none}
use Rattle.cdi_bean_rules.proofs.conditional.add_conditional.Goals as goal
use Rattle.cdi_bean_rules.proofs.conditional.add_conditional.Goals.{in-Some+in_ok-insert, in_default}

pub loop-member-preserved : goal.loop-member-preserved
loop-member-preserved c =
    let members = c.args.members.now in
    let l = c.loop-member in
    let m = c.member-item.result in
    elim c.match-conditional_place.branch [
      | in-Some+in_ok-insert w ↦ rw w.found-is (adds_place conditional_place members l.member-index m c.loop-member-test.true c.member-item.is l.found
          (λ place. stands_at (conditional_places members) place || has_place c.args.found.now place) l.invariant w.in-Some.place
          (sym c.conditional_place.ensures ∙ w.in-Some.is) w.insert.new.self w.in_ok-insert.ensures.updates.0)
      | in_default w ↦ rw w.found-is (adds_none conditional_place members l.member-index m c.loop-member-test.true c.member-item.is l.found
          (λ place. stands_at (conditional_places members) place || has_place c.args.found.now place) l.invariant
          (sym c.conditional_place.ensures ∙ w.in_default.is))
    ]
