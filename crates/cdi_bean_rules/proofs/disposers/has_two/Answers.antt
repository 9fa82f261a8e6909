use Rattle.std.proofs.Common.{◌≡◌, ◌∙◌, ◌<◌, true, false, length, slice_get, Some, refl, sym, arith}
use Rattle.std.proofs.lemmas.Bool.{true≢false}
use Rattle.std.proofs.lemmas.Option.{slice_get_read}
use Rattle.cdi_deployment.specs.declared.deployment.Member.{Member}
use Rattle.cdi_bean_rules.specs.Disposers.{Disposes}
use Rattle.cdi_bean_rules.proofs.Pairs.{within, one_here, one_stays, none_more, not_two_first, not_two_unless}
use Rattle.cdi_bean_rules.proofs.disposers.has_two.Goals as goal
use Rattle.cdi_bean_rules.proofs.disposers.has_two.Goals.{then-disposes+else-has_one, else-disposes}

pub loop-member-init : goal.loop-member-init
loop-member-init c = record {
  seen = λ e. absurd (true≢false (sym e));
  unseen = λ e k m lt is p. absurd (omega (arith, lt));
  not_two = λ one other first second two lt is-first is-second p q. absurd (omega (arith, lt));
}

pub loop-member-preserved : goal.loop-member-preserved
loop-member-preserved c =
    let members = c.args.members.now in
    let i = c.loop-member.member-index in
    let m = c.member-item.result in
    let P : Member → Type 0 = λ m. Disposes c.args.types.now c.args.qualifiers.now m c.args.producer.now in
    let inv = c.loop-member.invariant in
    let there : slice_get members i ≡ Some m = slice_get_read members (length members) i m refl c.loop-member-test.true c.member-item.is in
    elim c.if-disposes.branch [
      | then-disposes+else-has_one w ↦ record {
        seen = λ e. one_here P members i m there (c.disposes.ensures.0 w.if-disposes.true);
        unseen = λ e. absurd (true≢false (sym w.has_one-is ∙ e));
        not_two = not_two_first P members i m there (inv.unseen w.if-has_one.false);
      }
      | else-disposes w ↦ (
          let no : P m → ⊥ = λ p. true≢false (sym (c.disposes.ensures.1 p) ∙ w.if-disposes.false) in
          record {
            seen = λ e. one_stays P members i m there (inv.seen (sym w.has_one-is ∙ e));
            unseen = λ e. none_more P members i m there (inv.unseen (sym w.has_one-is ∙ e)) no;
            not_two = not_two_unless P members i m there inv.not_two no;
          }
          )
    ]

pub returns : goal.returns
returns c =
    let members = c.args.members.now in
    let P : Member → Type 0 = λ m. Disposes c.args.types.now c.args.qualifiers.now m c.args.producer.now in (
      λ h. absurd (true≢false (sym h)),
      λ two. (
          let last : two.other < length members = within P members two.other two.second two.second_is in
          let end = c.loop-member-test.false in
          absurd (c.loop-member.invariant.not_two two.one two.other two.first two.second two.two (omega (arith, last, end)) two.first_is two.second_is two.first_serves two.second_serves)
          ),
    )
