use Rattle.std.proofs.Common.{◌≡◌, ◌<◌, ◌+◌, ◌-◌, ℕ, length, reverse, refl, arith}
use Rattle.cdi_types.specs.NameSet.{has}
use Rattle.cdi_types.proofs.LastClass.{knows_more, finds_more}
use Rattle.cdi_types.proofs.line.ClassLine.members.Goals as goal

pub loop-place-preserved-in-Continue-branch-2 : goal.loop-place-preserved-in-Continue-branch-2
loop-place-preserved-in-Continue-branch-2 c =
    let l = c.loop-place in
    let items = c.as_slice-classes.result.now in
    let i : ℕ = l.place - 1 in
    let next : i + 1 ≡ l.place = omega (arith, c.loop-place-test.true) in
    let within : i < length items = omega (arith, c.loop-place-test.true) in
    let knows = l.invariant.below c.loop-place-test.true in
    record {
      below = λ above. knows_more items l.place i c.index-classes-place.result next within c.index-classes-place.is (has l.below) _ knows c.in_ok-insert_members.ensures;
      found = finds_more items l.place i c.index-classes-place.result next within c.index-classes-place.is (has l.below) knows _ refl (reverse l.found) _ l.invariant.found c.in_ok-add_members.ensures;
    }

pub loop-place-preserved : goal.loop-place-preserved
loop-place-preserved c =
    let l = c.loop-place in
    let items = c.as_slice-classes.result.now in
    let i : ℕ = l.place - 1 in
    let next : i + 1 ≡ l.place = omega (arith, c.loop-place-test.true) in
    let within : i < length items = omega (arith, c.loop-place-test.true) in
    let knows = l.invariant.below c.loop-place-test.true in
    record {
      below = λ above. absurd (omega (arith, above, c.if-place-gt0.false));
      found = finds_more items l.place i c.index-classes-place.result next within c.index-classes-place.is (has l.below) knows _ refl (reverse l.found) _ l.invariant.found c.in_ok-add_members.ensures;
    }
