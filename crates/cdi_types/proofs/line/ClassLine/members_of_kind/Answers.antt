use Rattle.std.proofs.Common.{Bor, ◌≡◌, ◌<◌, ◌≤◌, ◌+◌, ◌-◌, ◌∙◌, ℕ, List, Some, length, take, drop, position, reverse, refl, sym, ap, arith, length-drop}
use Rattle.std.proofs.lemmas.List.{take_all}
use Rattle.cdi_deployment.specs.declared.deployment.Class.{Class}
use Rattle.cdi_types.specs.Kinds.{of_kind, declares_kind}
use Rattle.cdi_types.specs.Members.{members_of}
use Rattle.cdi_types.specs.NameSet.{has}
use Rattle.cdi_types.proofs.LastClass.{line, knows_more}
use Rattle.cdi_types.proofs.OfKind.{none_of_kind, from_topmost, finds_more_of_kind}
use Rattle.cdi_types.proofs.line.ClassLine.members_of_kind.Goals as goal

pub returns-in_default : goal.returns-in_default
returns-in_default c =
    let all = c.as_slice-line.result.now in
    let is : c.args.self.now ≡ line all = sym c.self.view_is ∙ ap line (sym c.as_slice-line.ensures) in
    c.empty.ensures ∙ sym (ap (λ cs. of_kind c.args.kind (members_of cs)) is ∙ none_of_kind c.args.kind all (sym c.first_in.ensures ∙ c.in_default.is))

pub returns : goal.returns
returns c =
    let kind = c.args.kind in
    let all : List (Bor Class) = c.as_slice-line.result.now in
    let k : ℕ = c.in-Some.topmost in
    let is : c.args.self.now ≡ line all = sym c.self.view_is ∙ ap line (sym c.as_slice-line.ensures) in
    let first : position (λ (c : Bor Class). declares_kind kind c.now) all ≡ Some k = sym c.first_in.ensures ∙ c.in-Some.is in
    let short : length (drop k all) ≤ length all - k = omega (arith, length-drop k all) in
    let up : c.loop-place.place ≡ 0 = omega (arith, c.loop-place-test.false) in
    c.in_reverse.ensures ∙ c.loop-place.invariant.found
    ∙ ap (λ p. of_kind kind (members_of (line (drop p (take (length all - k) (drop k all)))))) up
    ∙ ap (λ cs. of_kind kind (members_of (line cs))) (take_all (length all - k) (drop k all) short)
    ∙ from_topmost kind all k first
    ∙ sym (ap (λ cs. of_kind kind (members_of cs)) is)

pub loop-place-preserved-in-Continue-branch-2 : goal.loop-place-preserved-in-Continue-branch-2
loop-place-preserved-in-Continue-branch-2 c =
    let l = c.loop-place in
    let all : List (Bor Class) = c.as_slice-line.result.now in
    let items : List (Bor Class) = take (length all - c.in-Some.topmost) (drop c.in-Some.topmost all) in
    let i : ℕ = l.place - 1 in
    let next : i + 1 ≡ l.place = omega (arith, c.loop-place-test.true) in
    let within : i < length items = omega (arith, c.loop-place-test.true, l.auto.place) in
    let knows = l.invariant.below c.loop-place-test.true in
    record {
      below = λ above. knows_more items l.place i c.index-classes-place.result next within c.index-classes-place.is (has l.below) _ knows c.in_ok-insert_members.ensures;
      found = finds_more_of_kind c.args.kind items l.place i c.index-classes-place.result next within c.index-classes-place.is (has l.below) knows _ refl (reverse l.found) _ l.invariant.found c.in_ok-add_members_of_kind.ensures;
    }

pub loop-place-preserved : goal.loop-place-preserved
loop-place-preserved c =
    let l = c.loop-place in
    let all : List (Bor Class) = c.as_slice-line.result.now in
    let items : List (Bor Class) = take (length all - c.in-Some.topmost) (drop c.in-Some.topmost all) in
    let i : ℕ = l.place - 1 in
    let next : i + 1 ≡ l.place = omega (arith, c.loop-place-test.true) in
    let within : i < length items = omega (arith, c.loop-place-test.true, l.auto.place) in
    let knows = l.invariant.below c.loop-place-test.true in
    record {
      below = λ above. absurd (omega (arith, above, c.if-place-gt0.false));
      found = finds_more_of_kind c.args.kind items l.place i c.index-classes-place.result next within c.index-classes-place.is (has l.below) knows _ refl (reverse l.found) _ l.invariant.found c.in_ok-add_members_of_kind.ensures;
    }
