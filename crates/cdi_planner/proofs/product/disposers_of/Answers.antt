use Rattle.std.proofs.Common.{◌∙◌, ◌++◌, ◌∷◌, [], ap}
use Rattle.cdi_planner.specs.Codes.{injected_method}
use Rattle.cdi_planner.proofs.Serving.{none_yet, serves, passes_over}
use Rattle.cdi_planner.proofs.product.disposers_of.Goals as goal
use Rattle.cdi_planner.proofs.product.disposers_of.Goals.{in-Some+in_ok-method+in_ok-push, in_default}

pub loop-member-init : goal.loop-member-init
loop-member-init c = rw c.empty-disposers.ensures (none_yet c.args.types.now c.args.qualifiers.now c.args.chains.now c.args.class.now c.args.producer.now)

pub loop-member-preserved : goal.loop-member-preserved
loop-member-preserved c =
    let types = c.args.types.now in
    let qualifiers = c.args.qualifiers.now in
    let chains = c.args.chains.now in
    let class = c.args.class.now in
    let producer = c.args.producer.now in
    let ms = c.as_slice-member-items.result.now in
    let i = c.loop-member.member-index in
    let m = c.member-item.result in
    let found = c.loop-member.disposers in
    elim c.match-serving.branch [
      | in-Some+in_ok-method+in_ok-push w ↦ (
          let d = w.in-Some.disposer.now in
          let made = w.in_ok-method.ensures ∙ ap (λ ps. injected_method chains class.name class d.name d.body ps) w.as_slice-params.ensures in
          let grown = w.in_ok-push.ensures.ok ∙ ap (λ method. found ++ method ∷ []) made in
          rw w.disposers-is (serves types qualifiers chains class producer ms i m c.loop-member-test.true c.member-item.is found d w.push.new.self w.in-Some.ensures.disposes w.in-Some.ensures.is grown c.loop-member.invariant))
      | in_default w ↦ rw w.disposers-is (passes_over types qualifiers chains class producer ms i m c.loop-member-test.true c.member-item.is found w.in_default.ensures.disposes c.loop-member.invariant)
    ]
