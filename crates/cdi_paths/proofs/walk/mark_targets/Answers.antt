use Rattle.std.proofs.Common.{◌≡◌, ◌<◌, ◌+◌, ◌++◌, ◌∷◌, [], get_or, length, take, arith}
use Rattle.std.proofs.lemmas.List.{take_more}
use Rattle.cdi_paths.proofs.Walks.{target_known, target_marked}
use Rattle.cdi_paths.proofs.walk.mark_targets.Goals as goal
use Rattle.cdi_paths.proofs.walk.mark_targets.Goals.{then-not-marks-target+in_ok-push, else-not-marks-target}

pub loop-target-preserved : goal.loop-target-preserved
loop-target-preserved c =
    let i = c.loop-target in
    let target = get_or c.args.targets.now i.target-index 0 in
    let lt : i.target-index < length c.args.targets.now = omega arith in
    let grown : take (i.target-index + 1) c.args.targets.now ≡ take i.target-index c.args.targets.now ++ target ∷ [] = take_more c.args.targets.now i.target-index 0 lt in
    let within : target < length i.marks = omega (arith, c.requires i.target-index 0 lt, i.auto.marks) in
    record {
      so_far = rw grown (elim c.if-not-marks-target.branch [
        | then-not-marks-target+in_ok-push w ↦ rw (w.marks-is, w.ahead-is, w.in_ok-push.ensures.items)
            (target_marked (take i.target-index c.args.targets.now) c.args.marks.now i.marks c.args.ahead.now.items i.ahead.items i.invariant.so_far target within w.if-not-marks-target.true)
        | else-not-marks-target w ↦ rw (w.marks-is, w.ahead-is)
            (target_known (take i.target-index c.args.targets.now) c.args.marks.now i.marks c.args.ahead.now.items i.ahead.items i.invariant.so_far target w.if-not-marks-target.false)
      ]);
    }
